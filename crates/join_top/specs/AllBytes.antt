-- Bookkeeping: the reading of all bytes that a source has left.
use Rattle.std.specs.Prelude.{◌≡◌, ℕ, Bool, true, false, List, length, take}
use Rattle.std.specs.declared.option.Option.{Option}
use Rattle.dev_io.specs.Streams.{Takes, TakesAtMost}

-- all bytes were read, and nothing is left
pub record IsAllRead (bytes : List ℕ) (left : Option (List ℕ)) (all : List ℕ) : Type 0 where
  pub all_are : all ≡ bytes
  pub takes : Takes bytes left (length bytes)

-- a front of them was taken
abbrev pub IsPartRead : List ℕ → Option (List ℕ) → Type 0
IsPartRead bytes left = TakesAtMost bytes left (length bytes)

-- a front of them was read
pub record HasCollected (bytes : List ℕ) (left : Option (List ℕ)) (all : List ℕ) : Type 0 where
  pub front : all ≡ take (length all) bytes
  pub takes : Takes bytes left (length all)

-- a piece more was read, and it was the last one, or it wasn't
abbrev pub IsPieceRead : List ℕ → Option (List ℕ) → List ℕ → (is_last : Bool) → Type 0
IsPieceRead bytes left all true = IsAllRead bytes left all
IsPieceRead bytes left all false = HasCollected bytes left all
