use Rattle.std.proofs.Common.{◌≡◌, ◌∙◌, ℕ, ◌*◌, ◌/◌, ◌%◌, ◌^◌, ◌<◌, bit_or, get_or, set, length, Bool, List, true, ap, sym, arith}
use Rattle.std.proofs.lemmas.List.{get_or_default}
use Rattle.level_queue.specs.Bits.{bits_of}
use Rattle.source_sheet.proofs.Marking.{marked, marks_count}
use Rattle.source_sheet.proofs.marks.PixelMarks.set.Goals as goal

pub index_mut-requires : goal.index_mut-requires
index_mut-requires c =
    let n : length (bits_of c.self.inside.words.items c.self.inside.count) ≡ c.self.inside.count = marks_count c.self.inside.words.items c.self.inside.count in
    let l : length c.args.self.now ≡ length (bits_of c.self.inside.words.items c.self.inside.count) = ap length (sym c.self.view_is) in
    omega (arith, c.requires, n, l, c.self.invariant, c.self.inside.words.ok.0)

pub returns : goal.returns
returns c =
    let words : List ℕ = c.self.inside.words.items in
    let n : length (bits_of words c.self.inside.count) ≡ c.self.inside.count = marks_count words c.self.inside.count in
    let l : length c.args.self.now ≡ length (bits_of words c.self.inside.count) = ap length (sym c.self.view_is) in
    let below : c.args.p < c.self.inside.count = omega (arith, c.requires, n, l) in
    let inside : c.args.p / 64 < length words = omega (arith, below, c.self.invariant) in
    let word : c.index_mut.result.now ≡ get_or words (c.args.p / 64) 0 =
    c.index_mut.ensures.value ∙ get_or_default words (c.args.p / 64) c.index_mut.result.now 0 inside in
    ap (λ (w : ℕ). bits_of (set words (c.args.p / 64) (bit_or w (1 * 2 ^ (c.args.p % 64) % 2 ^ 64))) c.self.inside.count) word
    ∙ marked words c.self.inside.count c.args.p below c.self.invariant ∙ ap (λ (m : List Bool). set m c.args.p true) c.self.view_is
