use Rattle.std.proofs.Common.{◌∙◌, ◌<◌, ◌*◌, length, refl, ap, arith}
use Rattle.comp_tree.specs.declared.shape.Shape.{Shape}
use Rattle.std.proofs.lemmas.Option.{slice_get-get_or}
use Rattle.dual_measure.proofs.Passing.{turn_from_code, turn_unread, turn_size, turn_yes, turn_no, range_from_front, front_all}
use Rattle.dual_measure.proofs.adding.add_pixels.Goals.{then-node-entries, else-node-entries}
use Rattle.dual_measure.proofs.adding.add_pixels.Goals as goal

pub combined-requires : goal.combined-requires
combined-requires c =
    let inside : c.loop-p.p < length c.args.values.now.values =
    omega (arith, c.loop-p-test.true, c.pixels-p-end.ensures.product, c.shape-shape.ensures.pixels) in
    turn_size c.args.values.now c.args.node_of.now c.loop-p.entries c.loop-p.p _ _ c.of_pixel-pixel.result
    (c.shape-shape.ensures.pixels ∙ ap (λ (s : Shape). s.width * s.height) c.shape-shape.ensures.same)
    (turn_from_code _ _ _ _ _ _ c.loop-p.invariant.front inside c.get.ensures.value c.get.ensures.bounded c.of_pixel-pixel.ensures)
    refl (slice_get-get_or _ _ _ c.if-node-entries.true)

pub loop-p-preserved : goal.loop-p-preserved
loop-p-preserved c =
    let inside : c.loop-p.p < length c.args.values.now.values =
    omega (arith, c.loop-p-test.true, c.pixels-p-end.ensures.product, c.shape-shape.ensures.pixels) in
    elim c.if-node-entries.branch [
      | then-node-entries w ↦ record {
        front = rw w.entries-is (turn_yes c.args.values.now c.args.node_of.now c.loop-p.entries c.loop-p.p _ _ w.of_pixel-pixel.result w.combined.result
            (turn_from_code _ _ _ _ _ _ c.loop-p.invariant.front inside w.get.ensures.value w.get.ensures.bounded w.of_pixel-pixel.ensures)
            refl (slice_get-get_or _ _ _ w.if-node-entries.true) w.combined.ensures);
        same_length = c.if-node-entries.auto.entries ∙ c.loop-p.invariant.same_length;
      }
      | else-node-entries w ↦ record {
        front = rw w.entries-is (turn_no c.args.values.now c.args.node_of.now c.loop-p.entries c.loop-p.p _
            (turn_unread c.args.values.now c.args.node_of.now c.loop-p.entries c.loop-p.p c.loop-p.invariant.front inside
            c.shape-shape.ensures.in_range)
            w.if-node-entries.false);
        same_length = c.if-node-entries.auto.entries ∙ c.loop-p.invariant.same_length;
      }
    ]

pub returns-clause-own : goal.returns-clause-own
returns-clause-own c =
    front_all c.args.values.now c.args.node_of.now c.loop-p.p c.loop-p.entries
    (omega (arith, c.loop-p-test.false, c.loop-p.auto.p-end, c.pixels-p-end.ensures.product, c.shape-shape.ensures.pixels)) c.loop-p.invariant.front

pub returns-clause-in_range : goal.returns-clause-in_range
returns-clause-in_range c =
    range_from_front c.args.values.now c.args.node_of.now c.loop-p.p c.loop-p.entries
    (omega (arith, c.loop-p-test.false, c.loop-p.auto.p-end, c.pixels-p-end.ensures.product, c.shape-shape.ensures.pixels)) c.loop-p.invariant.front
