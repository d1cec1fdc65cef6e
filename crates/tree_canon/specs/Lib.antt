pub mod Canonical
pub mod Fitting
pub mod Numbers
pub mod Places
