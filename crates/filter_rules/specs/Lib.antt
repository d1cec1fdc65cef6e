pub mod Criteria
pub mod Filtered
pub mod Passes
pub mod Laws
