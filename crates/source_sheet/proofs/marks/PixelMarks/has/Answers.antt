use Rattle.std.proofs.Common.{◌≡◌, ◌∙◌, ℕ, ◌/◌, ◌%◌, ◌^◌, ◌<◌, nat_eq, bit_and, get_or, length, Bool, List, false, ap, sym, arith}
use Rattle.std.proofs.lemmas.List.{get_or_default}
use Rattle.std.proofs.lemmas.Nat.Bits.{shr_and_one}
use Rattle.level_queue.specs.Bits.{bit, bits_of}
use Rattle.source_sheet.proofs.Marking.{mark_at, marks_count}
use Rattle.source_sheet.proofs.marks.PixelMarks.has.Goals as goal

pub index-requires : goal.index-requires
index-requires c =
    let n : length (bits_of c.self.inside.words.items c.self.inside.count) ≡ c.self.inside.count = marks_count c.self.inside.words.items c.self.inside.count in
    let l : length c.args.self.now ≡ length (bits_of c.self.inside.words.items c.self.inside.count) = ap length (sym c.self.view_is) in
    omega (arith, c.requires, n, l, c.self.invariant, c.self.inside.words.ok.0)

pub returns : goal.returns
unfolding bit
returns c =
    let words : List ℕ = c.self.inside.words.items in
    let n : length (bits_of words c.self.inside.count) ≡ c.self.inside.count = marks_count words c.self.inside.count in
    let l : length c.args.self.now ≡ length (bits_of words c.self.inside.count) = ap length (sym c.self.view_is) in
    let below : c.args.p < c.self.inside.count = omega (arith, c.requires, n, l) in
    let inside : c.args.p / 64 < length words = omega (arith, below, c.self.invariant) in
    let word : c.index.result.now ≡ get_or words (c.args.p / 64) 0 = c.index.ensures ∙ get_or_default words (c.args.p / 64) c.index.result.now 0 inside in
    ap (λ (w : ℕ). nat_eq (bit_and (w / 2 ^ (c.args.p % 64)) 1) 1) word ∙ ap (λ (b : ℕ). nat_eq b 1) (shr_and_one _ (c.args.p % 64))
    ∙ sym (mark_at words c.self.inside.count c.args.p below) ∙ ap (λ (m : List Bool). get_or m c.args.p false) c.self.view_is
