use Rattle.std.proofs.Common.{map, set, Some, ap, ◌∙◌}
use Rattle.std.proofs.lemmas.List.{map-set}
use Rattle.level_queue.specs.Bits.{word}
use Rattle.level_queue.proofs.Bits.{filled_set}
use Rattle.level_queue.proofs.words.Words.set.Goals as goal

pub invariant_of-self : goal.invariant_of-self
invariant_of-self c = rw c.write.ensures (filled_set c.self.inside.array c.args.index c.args.word c.self.invariant)

pub returns : goal.returns
returns c =
    ap (map word) c.write.ensures ∙ map-set word c.self.inside.array c.args.index (Some c.args.word) ∙ ap (λ ws. set ws c.args.index c.args.word) c.self.view_is
