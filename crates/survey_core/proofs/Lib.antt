mod TableLemmas
mod PlaceLemmas
mod Wording
mod CatalogueLemmas
mod SumLemmas
mod Keeping
mod Printing
mod RankLemmas
mod Places
mod BestRows
mod PartLemmas
mod Stepping
mod Going
mod Ending
mod RunEnds
mod TableLaws
mod Adding
pub mod Exported
