pub mod TileFiles
pub mod Reading
pub mod Laws
