-- Model: what a program tells of its end, on a sink for notes.
use Rattle.std.specs.Prelude.{ℕ, ◌<◌, ◌≤◌, ◌⊎◌, Bool, List, [], ◌∷◌, length, IsTrue, codes, decimal}
use Rattle.std.specs.declared.option.Option.{Option}
use Rattle.std.specs.List.{concat}
use Rattle.std.specs.Io.KnownBytes.{Appends}
use Rattle.dev_io.specs.Causes.{Rose}
use Rattle.dev_io.specs.Streams.{AppendsPrefix}

abbrev pub usage_line : ℕ → List ℕ
usage_line word = concat (codes "usage: word " ∷ decimal word ∷ codes "\n" ∷ [])

-- a line on the notes: all of it and handed on, or a front of it where the count rose
pub record Noted (old new : Option (List ℕ)) (settled' : Bool) (faults faults' : ℕ) (line : List ℕ) : Type 0 where
  pub later : faults ≤ faults'
  pub front : AppendsPrefix old new line
  pub whole : Rose faults faults' ⊎ (Appends old new line × (0 < length line → IsTrue settled'))
