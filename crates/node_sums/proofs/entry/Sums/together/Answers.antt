use Rattle.std.proofs.Common.{◌∙◌, refl, arith, rules}
use mir.Syntax.{w64, w128}
use Rattle.std.proofs.lemmas.Int.{to_z-of_z}
use Rattle.node_sums.proofs.Reading.{fits, peak-read, plus-read, same_sums}
use Rattle.node_sums.proofs.entry.Sums.together.Goals as goal

pub returns : goal.returns
returns c =
    same_sums _ _ refl
    (plus-read w64 c.args.self.now.r c.args.other.now.r (search rules) (search rules) (fits w64 _ _ c.requires.r (omega (arith, c.requires.area))))
    refl refl refl refl refl
    (plus-read w128 c.args.self.now.rx c.args.other.now.rx (search rules) (search rules) (fits w128 _ _ c.requires.rx (omega (arith, c.requires.area))))
    (plus-read w128 c.args.self.now.ry c.args.other.now.ry (search rules) (search rules) (fits w128 _ _ c.requires.ry (omega (arith, c.requires.area))))
    c.min.ensures c.max.ensures c.min-2.ensures c.max-2.ensures c.min-3.ensures
    (to_z-of_z w64 c.max-3.result (search rules) ∙ peak-read c.args.self.now.peak c.args.other.now.peak c.max-3.result (search rules) (search rules)
    c.max-3.ensures.value)
