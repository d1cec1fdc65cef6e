mod ByEnd
mod Statuses
pub mod Exported
