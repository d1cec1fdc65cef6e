-- The fields so far rise.
use Rattle.std.proofs.Common.{◌≡◌, ◌<◌, ◌+◌, ℕ, [], get_or, Less}
use Rattle.survey_core.specs.Fields.{name_cmp}
use Rattle.survey_sqlite.proofs.reading.are_rising.Given as goal

abbrev pub invariant-loop-at : goal.invariant-loop-at
invariant-loop-at l = (i : ℕ) → i + 1 < l.at → name_cmp (get_or l.fields i []) (get_or l.fields (i + 1) []) ≡ Less
