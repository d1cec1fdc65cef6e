-- The job of a slot that a seat holds alone.
use Rattle.std.proofs.Common.{◌≡◌, ℕ, List, [], ◌∷◌, sym, ap, ◌∙◌}
use Rattle.strip_flood.specs.Jobs.{JobView}

-- the job of the only slot of a list
job_or : JobView → List (ℕ × JobView) → JobView
job_or d [] = d
job_or d (held ∷ more) = held.1

pub one_job : (slots more : List (ℕ × JobView)) (i : ℕ) (a b : JobView) → slots ≡ (i, a) ∷ [] → slots ≡ (i, b) ∷ more → a ≡ b
unfolding job_or
one_job slots more i a b is was = ap (job_or a) (sym is ∙ was)
