mod Saturating
mod Keeping
mod Keywords
mod FirstPassing
mod Places
mod Filled
mod Reaching
mod Stages
mod Judging
mod Heads
mod Searching
mod ImageData
pub mod Exported
