mod CutPlanes
mod InCut
mod PickedRows
mod PickedSources
mod CutNodes
mod Ended
mod MeasuredRows
mod MeasuredSources
pub mod Exported
