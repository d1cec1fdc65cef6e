-- The lemma of this crate that crates above use. Its other modules of lemmas are its own.

-- the answer to an order to measure has the status 0, 1 or 2
pub use Rattle.measure_top.proofs.Ended.{status_of_measure}
