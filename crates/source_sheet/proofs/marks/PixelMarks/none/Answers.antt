use Rattle.std.proofs.Common.{◌∙◌, ◌≤◌, ◌*◌, ℕ, List, ap, arith}
use Rattle.std.proofs.lemmas.Grind.{div_ceil_times}
use Rattle.level_queue.specs.Bits.{bits_of}
use Rattle.source_sheet.proofs.Marking.{no_marks}
use Rattle.source_sheet.proofs.marks.PixelMarks.none.Goals as goal

pub returns : goal.returns
returns c =
    let enough : c.args.count ≤ 64 * c.div_ceil.result = omega (arith, c.div_ceil.ensures, div_ceil_times c.args.count 64 (omega arith)) in
    ap (λ (words : List ℕ). bits_of words c.args.count) (c.in_ok-words.ensures.items_if_clones_equal (λ y e. e))
    ∙ no_marks c.div_ceil.result c.args.count enough
