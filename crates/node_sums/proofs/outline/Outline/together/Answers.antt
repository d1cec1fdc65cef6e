use Rattle.std.proofs.Common.{rules, lit<}
use mir.Syntax.{w64}
use Rattle.node_sums.specs.Sizes.{total_bound}
use Rattle.node_sums.proofs.Reading.{fits, plus-read}
use Rattle.node_sums.proofs.OutlineSteps.{outline-together}
use Rattle.std.proofs.Common.{refl}
use Rattle.node_sums.proofs.outline.Outline.together.Goals as goal

pub returns : goal.returns
returns c = λ s t e f.
    outline-together c.args.self.now c.args.other.now _ s t e f refl
    (plus-read w64 c.args.self.now.r c.args.other.now.r (search rules) (search rules) (fits w64 total_bound _ c.requires.r (lit< tt)))
    c.min.ensures c.max.ensures c.min-2.ensures c.max-2.ensures
