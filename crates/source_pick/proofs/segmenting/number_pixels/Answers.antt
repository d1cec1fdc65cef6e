use Rattle.std.proofs.Common.{◌∙◌, ◌<◌, ◌+◌, ℕ, List, sym, ap, arith, length}
use Rattle.std.specs.Prelude.{slice_index}
use Rattle.node_sums.specs.DisjointNodes.{listed_number_at}
use Rattle.node_sums.proofs.Exported.{filled, number_of_defined, number_of_undefined}
use Rattle.source_pick.proofs.PassesReadings.{plane_from_tree}
use Rattle.source_pick.proofs.PassesMarks.{filled_still, zeros_after}
use Rattle.source_pick.proofs.segmenting.number_pixels.Goals.{then-n, else-n}
use Rattle.source_pick.proofs.segmenting.number_pixels.Goals as goal

pub loop-k-init : goal.loop-k-init
loop-k-init c = record { done = record { each = λ marked r connect d known same q l. absurd (omega arith) }; rest = λ q l. c.requires.blank q }

pub loop-k-preserved : goal.loop-k-preserved
loop-k-preserved c =
    let inside : c.args.start + c.loop-k.k < length c.args.tree.now.node_of = omega (arith, c.loop-k-test.true, c.loop-k.auto.map, c.requires.inside) in
    let place : c.loop-k.k < length c.loop-k.map = omega (arith, c.loop-k-test.true, c.loop-k.auto.map) in
    elim c.if-n.branch [
      | then-n w ↦ record {
        done = record {
          each = λ marked r connect d known same q l.
              let plane = plane_from_tree r connect c.args.tree.now same (sym (ap length c.node_of-node_of.ensures.same) ∙ c.node_of-node_of.ensures.one_each) in
              let both = number_of_defined r connect c.args.tree.now marked plane same d (c.args.start + c.loop-k.k) _ inside
              (ap (λ (xs : List ℕ). slice_index xs (c.args.start + c.loop-k.k)) c.node_of-node_of.ensures.same) w.if-n.true in
              ap (λ (xs : List ℕ). slice_index xs q) w.map-is
              ∙ filled c.loop-k.map c.loop-k.k _ 0 (λ k. listed_number_at r connect marked (c.args.start + k)) place
              (c.loop-k.invariant.done.each marked r connect d known same)
              (known.each r connect plane same _ both.0 ∙ both.1) q l;
        };
        rest = λ q l. ap (λ (xs : List ℕ). slice_index xs q) w.map-is ∙ zeros_after c.loop-k.map c.loop-k.k _ c.loop-k.invariant.rest q l;
      }
      | else-n w ↦ record {
        done = record {
          each = λ marked r connect d known same q l.
              let plane = plane_from_tree r connect c.args.tree.now same (sym (ap length c.node_of-node_of.ensures.same) ∙ c.node_of-node_of.ensures.one_each) in
              ap (λ (xs : List ℕ). slice_index xs q) w.map-is
              ∙ filled_still c.loop-k.map c.loop-k.k (λ k. listed_number_at r connect marked (c.args.start + k))
              (c.loop-k.invariant.done.each marked r connect d known same)
              (c.loop-k.invariant.rest c.loop-k.k (omega arith)
              ∙ sym (number_of_undefined r connect c.args.tree.now marked plane same d (c.args.start + c.loop-k.k) _ inside
              (ap (λ (xs : List ℕ). slice_index xs (c.args.start + c.loop-k.k)) c.node_of-node_of.ensures.same) w.if-n.false)) q l;
        };
        rest = λ q l. ap (λ (xs : List ℕ). slice_index xs q) w.map-is ∙ c.loop-k.invariant.rest q (omega arith);
      }
    ]

pub returns : goal.returns
returns c = record {
  each = λ marked r connect d known same k l. c.loop-k.invariant.done.each marked r connect d known same k
      (omega (arith, l, c.loop-k-test.false, c.loop-k.auto.map));
}
