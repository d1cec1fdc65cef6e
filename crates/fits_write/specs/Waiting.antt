-- Bookkeeping: bytes on their way to a sink in whole blocks.
use Rattle.std.specs.Prelude.{◌≡◌, ℕ, ◌%◌, List, length}
use Rattle.std.specs.declared.option.Option.{Option}
use Rattle.dev_io.specs.Blocks.{Moves}

-- whole blocks of these bytes were appended, and the others wait
pub record Waits (old new : Option (List ℕ)) (bytes waiting : List ℕ) : Type 0 where
  pub moves : Moves old new bytes waiting
  pub whole : length waiting % 2880 ≡ length bytes % 2880
