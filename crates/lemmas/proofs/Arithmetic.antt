-- Sums, least and greatest numbers: in which order they are taken makes no difference. And the order of whole numbers is transitive.
use Rattle.std.proofs.Common.{◌≡◌, ℕ, ◌+◌, min, max, arith}
use Rattle.std.specs.Prelude.{ℤ, ◌+ℤ◌, ◌≤ℤ◌, ◌<ℤ◌}
use Rattle.std.specs.Int.{int_min, int_max}
use Rattle.std.proofs.lemmas.Int.{ints, clamps}

pub plus_assoc : (a b c : ℕ) → (a + b) + c ≡ a + (b + c)
plus_assoc a b c = omega arith

pub plus_comm : (a b : ℕ) → a + b ≡ b + a
plus_comm a b = omega arith

pub min_assoc : (a b c : ℕ) → min (min a b) c ≡ min a (min b c)
min_assoc a b c = omega arith

pub min_comm : (a b : ℕ) → min a b ≡ min b a
min_comm a b = omega arith

pub max_assoc : (a b c : ℕ) → max (max a b) c ≡ max a (max b c)
max_assoc a b c = omega arith

pub max_comm : (a b : ℕ) → max a b ≡ max b a
max_comm a b = omega arith

-- ---- whole numbers

pub plus_z_assoc : (a b c : ℤ) → (a +ℤ b) +ℤ c ≡ a +ℤ (b +ℤ c)
plus_z_assoc a b c = omega (arith, ints)

pub plus_z_comm : (a b : ℤ) → a +ℤ b ≡ b +ℤ a
plus_z_comm a b = omega (arith, ints)

pub int_min_assoc : (a b c : ℤ) → int_min (int_min a b) c ≡ int_min a (int_min b c)
int_min_assoc a b c = omega (arith, ints, clamps)

pub int_min_comm : (a b : ℤ) → int_min a b ≡ int_min b a
int_min_comm a b = omega (arith, ints, clamps)

pub int_max_assoc : (a b c : ℤ) → int_max (int_max a b) c ≡ int_max a (int_max b c)
int_max_assoc a b c = omega (arith, ints, clamps)

pub int_max_comm : (a b : ℤ) → int_max a b ≡ int_max b a
int_max_comm a b = omega (arith, ints, clamps)

pub less_trans : (a b c : ℤ) → a <ℤ b → b <ℤ c → a <ℤ c
less_trans a b c l m = omega (arith, ints)

pub le_trans : (a b c : ℤ) → a ≤ℤ b → b ≤ℤ c → a ≤ℤ c
le_trans a b c l m = omega (arith, ints)
