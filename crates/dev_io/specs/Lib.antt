pub mod Causes
pub mod Streams
pub mod Fakes
pub mod Adapters
pub mod Laws
pub mod Blocks
