pub mod Blocks
pub mod Waiting
pub mod Columns
pub mod CatalogueColumns
pub mod Rows
pub mod Hdus
pub mod Laws
