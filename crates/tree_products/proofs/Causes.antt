-- The count of faults over calls of a sink, one after the other.
use Rattle.std.proofs.Common.{ℕ, ◌≤◌, arith, Result, Ok, Err}
use Rattle.dev_io.specs.Causes.{HasCause}
use Rattle.dev_io.proofs.Exported.{rose_since}

-- the last call answers for all of them
pub cause_after : {T E : Type 0} (a b c : ℕ) (r : Result T E) → a ≤ b → HasCause b c r → HasCause a c r
cause_after a b c (Ok x) before last = record { later = omega (arith, before, last.later); failed = tt }
cause_after a b c (Err e) before last = record { later = omega (arith, before, last.later); failed = rose_since a b c before last.failed }

pub cause_after_two : {T E : Type 0} (a b c d : ℕ) (r : Result T E) → a ≤ b → b ≤ c → HasCause c d r → HasCause a d r
cause_after_two a b c d r first second last = cause_after a c d r (omega (arith, first, second)) last
