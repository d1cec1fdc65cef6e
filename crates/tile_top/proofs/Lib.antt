mod TileReads
mod Fitting
