pub mod Fronts
pub mod Announced
pub mod TableRows
pub mod Laws
