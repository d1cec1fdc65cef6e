-- What was so of a later call, or of pieces behind nothing, of the whole.
use Rattle.std.proofs.Common.{◌≡◌, ℕ, ◌≤◌, List, [], ◌++◌, Option, subst, arith}
use Rattle.dev_io.specs.Causes.{Rose}
use Rattle.dev_io.specs.Streams.{AppendsPrefix}

-- a count of faults that rose later rose since before
pub rose_since : (a b c : ℕ) → a ≤ b → Rose b c → Rose a c
rose_since a b c before rose = omega (arith, before, rose)

-- a front of what stands behind nothing
pub front_empty : (a b : Option (List ℕ)) (start xs : List ℕ) → start ≡ [] → AppendsPrefix a b (start ++ xs) → AppendsPrefix a b xs
front_empty a b start xs empty front = subst (λ l. AppendsPrefix a b (l ++ xs)) empty front
