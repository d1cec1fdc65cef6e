pub mod Placed
pub mod TileOf
pub mod Told
