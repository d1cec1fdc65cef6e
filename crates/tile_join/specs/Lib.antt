pub mod Tiles
pub mod Joins
pub mod Made
pub mod Laws
pub mod Marks
pub mod Places
