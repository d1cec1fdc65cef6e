pub mod Checks
pub mod Laid
pub mod Groups
pub mod Holding
pub mod Backs
pub mod Tops
