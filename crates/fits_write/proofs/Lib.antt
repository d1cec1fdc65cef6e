mod Pieces
mod Keywords
mod TableParts
mod ReadBack
mod RowByRow
mod Tables
pub mod Exported
