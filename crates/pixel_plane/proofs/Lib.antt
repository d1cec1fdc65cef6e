mod Readable
mod HalfRange
mod Bounds
mod Decoding
mod Planes
mod Naming
mod Narrow
mod Nearness
mod Narrowing
mod OneLimits
mod UsualLimits
mod ImageData
mod Images
mod TwoHdus
pub mod Exported
