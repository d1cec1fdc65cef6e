mod Seen
mod Frames
mod Cores
mod Firsts
mod Order
mod Sorted
mod Writes
mod Numbers
mod Listed
mod Images
mod InOrder
mod Known
mod Whole
mod Sizes
pub mod Exported
