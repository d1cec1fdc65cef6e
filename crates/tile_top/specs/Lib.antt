pub mod TileAnswers
pub mod Reading
