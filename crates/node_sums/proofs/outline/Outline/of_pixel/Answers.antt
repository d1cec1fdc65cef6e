use Rattle.std.proofs.Common.{refl}
use mir.Syntax.{w64}
use Rattle.std.proofs.lemmas.Int.{to_z-of_z}
use Rattle.node_sums.proofs.OutlineSteps.{same_outlines}
use Rattle.node_sums.proofs.outline.Outline.of_pixel.Goals as goal

pub returns : goal.returns
returns c = λ p. same_outlines _ _ refl (to_z-of_z w64 c.args.value c.ranges.value) refl refl refl refl
