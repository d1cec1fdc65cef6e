use Rattle.std.proofs.Common.{◌≡◌, ℕ, List, Option, map, Some, ap, sym, subst, ◌∙◌}
use Rattle.level_queue.specs.Bits.{word}
use Rattle.level_queue.proofs.Bits.{filled_zeros, words_of_zeros, all_zeros}
use Rattle.level_queue.proofs.words.Words.new.Goals as goal

pub invariant_of-result : goal.invariant_of-result
invariant_of-result c =
    subst (λ (r : List (Option ℕ)). r ≡ map (λ w. Some w) (map word r))
    (sym (all_zeros c.loop-i.array c.args.len c.loop-i.i c.loop-i.invariant.count c.loop-i-test.false c.loop-i.auto.i-end c.loop-i.invariant.written))
    (filled_zeros c.args.len)

pub returns : goal.returns
returns c =
    ap (map word) (all_zeros c.loop-i.array c.args.len c.loop-i.i c.loop-i.invariant.count c.loop-i-test.false c.loop-i.auto.i-end c.loop-i.invariant.written)
    ∙ words_of_zeros c.args.len
