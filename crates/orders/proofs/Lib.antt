mod Places
mod FewOptions
mod Limits
mod Shapes
