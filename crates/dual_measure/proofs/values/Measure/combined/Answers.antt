use Rattle.std.proofs.Common.{◌∙◌, refl, arith, rules}
use mir.Syntax.{w64}
use Rattle.std.proofs.lemmas.Int.{to_z-of_z}
use Rattle.node_sums.proofs.Exported.{plus-read, peak-read}
use Rattle.dual_measure.proofs.Measuring.{same_measure, low-read, sum_fits}
use Rattle.dual_measure.proofs.values.Measure.combined.Goals as goal

pub returns : goal.returns
returns c =
    same_measure _ _ refl refl
    (plus-read w64 c.args.self.now.v c.args.other.now.v (search rules) (search rules) (sum_fits _ _ c.requires.sum (omega (arith, c.requires.few))))
    (to_z-of_z w64 c.min.result (search rules) ∙ low-read c.args.self.now.low c.args.other.now.low c.min.result (search rules) (search rules)
    c.min.ensures.value)
    (to_z-of_z w64 c.max.result (search rules) ∙ peak-read c.args.self.now.peak c.args.other.now.peak c.max.result (search rules) (search rules)
    c.max.ensures.value)
