pub mod Clamped
pub mod Laws
pub mod Pieces
pub mod Tokens
pub mod Values
pub mod Written
