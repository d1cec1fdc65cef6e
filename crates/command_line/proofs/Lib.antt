mod Numerals
mod LineLemmas
mod Telling
pub mod Exported
