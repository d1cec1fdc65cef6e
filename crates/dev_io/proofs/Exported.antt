-- The lemmas of this crate that crates above use. Its other modules of lemmas are its own.

-- what an answer of `skip` says of the bytes, by the answer
pub use Rattle.dev_io.proofs.Skipping.{skipped_all, skipped_cut}
-- a count of faults that rose later rose since before; a front of what stands behind nothing is one of it
pub use Rattle.dev_io.proofs.Later.{rose_since, front_empty}
