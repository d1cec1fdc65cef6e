-- What the notes got of a line.
use Rattle.std.proofs.Common.{◌≡◌, ℕ, ◌≤◌, Bool, List, [], sym, append-nil, arith, Result, Ok, Err, inl, inr}
use Rattle.std.specs.Prelude.{is_ok}
use Rattle.std.specs.declared.option.Option.{Option}
use Rattle.std.specs.Io.KnownBytes.{Appends, Keeps}
use Rattle.std.proofs.KnownBytes.{Appends-kept}
use Rattle.dev_io.specs.Causes.{HasCause}
use Rattle.dev_io.specs.Streams.{AppendsPrefix}
use Rattle.dev_io.proofs.Exported.{rose_since}
use Rattle.command_line.specs.Notes.{Noted}

-- a line that was cut short
pub noted_front : {T E : Type 0} (a b : Option (List ℕ)) (settled : Bool) (m n : ℕ) (line : List ℕ) (e : E) → AppendsPrefix a b line
    → HasCause {T = T} {E = E} m n (Err e) → Noted a b settled m n line
noted_front a b settled m n line e front cause = record { later = cause.later; front = front; whole = inl cause.failed }

-- a whole line, and the call that hands it on
pub noted_line : {T E : Type 0} (a b c : Option (List ℕ)) (settled : Bool) (l m n : ℕ) (line : List ℕ) (done : Result T E) → Appends a b line → l ≤ m
    → Keeps b c → settled ≡ is_ok done → HasCause m n done → Noted a c settled l n line
noted_line a b c settled l m n line (Ok x) all later kept is cause = record {
  later = omega (arith, later, cause.later);
  front = record { front = line; rest = []; split = sym (append-nil line); appended = Appends-kept a b c line all kept };
  whole = inr (Appends-kept a b c line all kept, λ some. is);
}
noted_line a b c settled l m n line (Err e) all later kept is cause = record {
  later = omega (arith, later, cause.later);
  front = record { front = line; rest = []; split = sym (append-nil line); appended = Appends-kept a b c line all kept };
  whole = inl (rose_since l m n later cause.failed);
}
