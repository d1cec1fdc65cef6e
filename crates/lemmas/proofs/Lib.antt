mod Arithmetic
mod Orders
mod Floors
mod Tests
mod Members
mod Lists
mod Searches
mod Paired
mod Counts
mod Digits
pub mod Exported
