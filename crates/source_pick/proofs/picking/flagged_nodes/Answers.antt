use Rattle.std.proofs.Common.{◌<◌, ◌+◌, ◌∙◌, ℕ, List, Vec, Global, length, sym, subst, ap, arith}
use Rattle.source_pick.specs.Passes.{AreListedSources}
use Rattle.source_pick.proofs.OrderPlacing.{listed_none, listed_more, listed_same, listed_up_to}
use Rattle.source_pick.proofs.picking.flagged_nodes.Goals.{then-flags-n+in_ok-push, else-flags-n}
use Rattle.source_pick.proofs.picking.flagged_nodes.Goals as goal

pub loop-n-init : goal.loop-n-init
loop-n-init c = λ choice outlines known. listed_none choice c.args.tree.now outlines c.new-nodes.result.items c.new-nodes.ensures.items

pub loop-n-preserved : goal.loop-n-preserved
loop-n-preserved c =
    let node : c.loop-n.n < length c.args.tree.now.rows = omega (arith, c.loop-n-test.true, c.node_count-n-end.ensures.all) in
    elim c.if-flags-n.branch [
      | then-flags-n+in_ok-push w ↦ λ choice outlines known.
          subst (λ (ns : List ℕ). AreListedSources choice c.args.tree.now outlines (c.loop-n.n + 1) ns)
          (sym (ap (λ (v : Vec ℕ Global). v.items) w.nodes-is ∙ w.in_ok-push.ensures.items))
          (listed_more choice c.args.tree.now outlines c.loop-n.n c.loop-n.nodes.items (c.loop-n.invariant choice outlines known)
          (λ r connect of_tree of_outlines is_plane. sym (known.each r connect of_tree of_outlines is_plane c.loop-n.n node) ∙ w.if-flags-n.true))
      | else-flags-n w ↦ λ choice outlines known.
          subst (λ (ns : List ℕ). AreListedSources choice c.args.tree.now outlines (c.loop-n.n + 1) ns)
          (sym (ap (λ (v : Vec ℕ Global). v.items) w.nodes-is))
          (listed_same choice c.args.tree.now outlines c.loop-n.n c.loop-n.nodes.items (c.loop-n.invariant choice outlines known)
          (λ r connect of_tree of_outlines is_plane. sym (known.each r connect of_tree of_outlines is_plane c.loop-n.n node) ∙ w.if-flags-n.false))
    ]

pub returns : goal.returns
returns c = λ choice outlines known.
    listed_up_to choice c.args.tree.now outlines _ c.loop-n.n c.loop-n.nodes.items (c.loop-n.invariant choice outlines known)
    (omega (arith, c.loop-n-test.false, c.loop-n.auto.n-end, c.node_count-n-end.ensures.all))
