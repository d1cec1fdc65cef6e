pub mod Flood
pub mod JobFields
pub mod Jobs
pub mod Joining
pub mod Levels
pub mod Ranking
pub mod Keys
pub mod Strips
