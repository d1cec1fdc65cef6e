pub mod MeasuredCatalogues
pub mod MeasureAnswers
pub mod MeasureOrders
pub mod Cuts
pub mod Picks
pub mod MeasuredDetections
