-- The lemmas of this crate that crates above use. Its other modules of lemmas are its own.

-- what is made of the bytes that are told: all was read, or the reading stopped
pub use Rattle.run_relation.proofs.ByEnd.{all_read, has_stopped}
-- a refusal wrote nothing
pub use Rattle.run_relation.proofs.ByEnd.{refused_so}
-- what a run does follows from its end
pub use Rattle.run_relation.proofs.ByEnd.{run_of_end}
-- the answer to a verdict has the status 0, 1 or 2
pub use Rattle.run_relation.proofs.Statuses.{by_verdict}
