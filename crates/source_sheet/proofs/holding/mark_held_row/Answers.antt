use Rattle.std.proofs.Common.{◌≡◌, ◌∙◌, ◌+◌, ◌*◌, ◌<◌, ap, sym, ℕ, arith}
use Rattle.comp_tree.specs.declared.shape.Shape.{Shape}
use Rattle.comp_tree.specs.Windows.{in_whole}
use Rattle.source_sheet.specs.Laid.{windows_of}
use Rattle.source_sheet.proofs.Held.{first_at, first_step, below_size, place_of}
use Rattle.source_sheet.proofs.holding.mark_held_row.Goals as goal

pub loop-column-preserved : goal.loop-column-preserved
loop-column-preserved c = record {
  one_each = c.hold.ensures.one_each ∙ c.loop-column.invariant.one_each;
  held = λ first m.
      let q : ℕ = c.args.row * c.args.place.now.shape.width + c.loop-column.column in
      let inside : c.loop-column.column < c.args.place.now.shape.width = omega (arith, c.loop-column-test.true) in
      let wide : c.shape-whole.result.width ≡ c.args.plane.now.shape.width = ap (λ (s : Shape). s.width) c.shape-whole.ensures.same in
      let wide_there : c.shape-small.result.width ≡ c.args.sheet.now.shape.width = ap (λ (s : Shape). s.width) c.shape-small.ensures.same in
      let from : c.pixel_at-p.result ≡ in_whole c.args.plane.now.shape.width (windows_of c.args.place.now).from q =
      c.pixel_at-p.ensures.is ∙ ap (λ n. (c.args.place.now.top + c.args.row) * n + (c.args.place.now.left + c.loop-column.column)) wide
      ∙ sym (place_of c.args.plane.now.shape.width (windows_of c.args.place.now).from c.args.row c.loop-column.column inside) in
      let to : c.pixel_at-there.result ≡ in_whole c.args.sheet.now.shape.width (windows_of c.args.place.now).to q =
      c.pixel_at-there.ensures.is ∙ ap (λ n. (c.args.place.now.to_top + c.args.row) * n + (c.args.place.now.to_left + c.loop-column.column)) wide_there
      ∙ sym (place_of c.args.sheet.now.shape.width (windows_of c.args.place.now).to c.args.row c.loop-column.column inside) in
      first_at c.args.plane.now c.args.sheet.now c.args.choice.now.threshold c.args.place.now (q + 1)
      (c.args.row * c.args.place.now.shape.width + (c.loop-column.column + 1)) first c.hold.new.marks
      (first_step c.args.plane.now c.args.sheet.now c.args.choice.now.threshold c.args.place.now q c.pixel_at-there.result c.pixel_at-p.result first
      c.loop-column.marks c.hold.new.marks (c.loop-column.invariant.held first m) (c.hold.ensures.held c.if-not-hold.false)
      (below_size c.args.place.now.shape.width c.args.place.now.shape.height c.args.row c.loop-column.column c.requires.row inside) from to)
      (omega arith);
}
