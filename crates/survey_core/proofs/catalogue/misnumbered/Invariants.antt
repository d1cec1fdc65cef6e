-- No row so far is misnumbered.
use Rattle.std.proofs.Common.{◌≡◌, ◌<◌, ℕ, false}
use Rattle.survey_core.specs.Catalogues.{is_misnumbered}
use Rattle.survey_core.proofs.catalogue.misnumbered.Given as goal

abbrev pub invariant-loop-place : goal.invariant-loop-place
invariant-loop-place l = (i : ℕ) → i < l.place → is_misnumbered l.cells i ≡ false
