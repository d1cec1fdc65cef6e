mod Grouping
mod Held
mod Apart
mod Bounds
mod Around
mod Copies
mod Laying
mod Marking
mod Spots
mod Owning
mod Sheeted
mod Taking
mod Putting
mod Rows
mod Showing
mod WithTops
pub mod Exported
