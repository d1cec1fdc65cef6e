-- The lemmas of this crate that crates above use. Its other modules of lemmas are its own.

-- a tree's measures are as many as its rows
pub use Rattle.dual_measure.proofs.Backs.{one_for_each}
