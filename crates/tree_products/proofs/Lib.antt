mod NodeLines
mod StretchTexts
mod EachArea
mod Cells
mod Detections
mod Trials
mod Summaries
mod Causes
mod TrialResiduals
mod Products
pub mod Exported
mod OnSheets
