pub mod Measures
pub mod Columns
pub mod Adding
