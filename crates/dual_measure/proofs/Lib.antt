mod Measuring
mod Passing
mod Backs
pub mod Exported
