mod Merging
mod Moments
mod Sizes
mod NodePixels
mod Counting
mod Reading
mod Passes
mod AreaSteps
mod Totals
mod Fluxes
mod FluxOfSums
mod OutlineFlux
mod OutlineSteps
mod Ways
mod Marks
mod Listing
pub mod Exported
