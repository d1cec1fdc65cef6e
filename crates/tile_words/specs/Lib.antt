pub mod TileWords
pub mod TileReading
