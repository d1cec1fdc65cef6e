mod Filling
mod Later
mod Skipping
mod Writing
mod Blocks
pub mod Exported
