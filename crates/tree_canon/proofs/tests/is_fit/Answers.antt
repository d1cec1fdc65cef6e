use Rattle.std.proofs.Common.{◌*◌, ◌∙◌, get_or, ap, arith, refl}
use Rattle.std.proofs.lemmas.Bool.{eqb-true, ltb-true}
use Rattle.comp_tree.specs.declared.shape.Shape.{Shape}
use Rattle.comp_tree.specs.ComponentTree.{ComponentTree}
use Rattle.comp_tree.specs.Components.{tree_of}
use Rattle.comp_tree.specs.Raster.{IsPlane}
use Rattle.tree_canon.proofs.Fitting.{numbers_count, some_row, when_outside, when_root, when_inside, when_up}
use Rattle.tree_canon.proofs.tests.is_fit.Goals as goal

pub bounds-node_of-p : goal.bounds-node_of-p
bounds-node_of-p c =
    let ns_is = c.node_of.ensures.same ∙ ap (λ (t : ComponentTree). t.node_of) c.requires.tree in
    omega (arith, numbers_count c.args.plane.now c.args.connect c.node_of.result.now ns_is, c.requires.pixel)

pub returns-then-node : goal.returns-then-node
returns-then-node c = λ bare.
    let plane : IsPlane c.args.plane.now = c.shape-shape.ensures.pixels ∙ ap (λ (s : Shape). s.width * s.height) c.shape-shape.ensures.same in
    let ns_is = c.node_of.ensures.same ∙ ap (λ (t : ComponentTree). t.node_of) c.requires.tree in
    when_outside c.args.plane.now c.args.connect c.args.links.now plane c.requires.one_each c.args.p c.requires.pixel c.node_of.result.now ns_is
    ((tree_of c.args.plane.now c.args.connect).rows) refl c.if-node.true (eqb-true (get_or c.args.links.now c.args.p 0) 4294967295 bare)

pub bounds-rows-node : goal.bounds-rows-node
bounds-rows-node c =
    let plane : IsPlane c.args.plane.now = c.shape-shape.ensures.pixels ∙ ap (λ (s : Shape). s.width * s.height) c.shape-shape.ensures.same in
    let ns_is = c.node_of.ensures.same ∙ ap (λ (t : ComponentTree). t.node_of) c.requires.tree in
    let rows_is = c.rows.ensures ∙ ap (λ (t : ComponentTree). t.rows) c.requires.tree in
    some_row c.args.plane.now c.args.connect c.args.links.now plane c.requires.one_each c.args.p c.requires.pixel c.node_of.result.now ns_is
    c.rows.result.now rows_is c.if-node.false

pub returns-then-row-p : goal.returns-then-row-p
returns-then-row-p c = λ top.
    let plane : IsPlane c.args.plane.now = c.shape-shape.ensures.pixels ∙ ap (λ (s : Shape). s.width * s.height) c.shape-shape.ensures.same in
    let ns_is = c.node_of.ensures.same ∙ ap (λ (t : ComponentTree). t.node_of) c.requires.tree in
    let rows_is = c.rows.ensures ∙ ap (λ (t : ComponentTree). t.rows) c.requires.tree in
    when_root c.args.plane.now c.args.connect c.args.links.now plane c.requires.one_each c.args.p c.requires.pixel c.node_of.result.now ns_is
    c.rows.result.now rows_is
    c.if-node.false c.if-link.true c.if-row-p.true (eqb-true _ 4294967295 top)

pub bounds-node_of-link : goal.bounds-node_of-link
bounds-node_of-link c =
    let ns_is = c.node_of-2.ensures.same ∙ ap (λ (t : ComponentTree). t.node_of) c.requires.tree in
    omega (
      arith,
      numbers_count c.args.plane.now c.args.connect c.node_of-2.result.now ns_is,
      c.if-link-pixels.false,
      c.pixels.ensures.product,
      c.shape-shape.ensures.pixels,
    )

pub returns-then-up-node : goal.returns-then-up-node
returns-then-up-node c = λ low.
    let plane : IsPlane c.args.plane.now = c.shape-shape.ensures.pixels ∙ ap (λ (s : Shape). s.width * s.height) c.shape-shape.ensures.same in
    let ns_is = c.node_of.ensures.same ∙ ap (λ (t : ComponentTree). t.node_of) c.requires.tree in
    let others_is = c.node_of-2.ensures.same ∙ ap (λ (t : ComponentTree). t.node_of) c.requires.tree in
    let rows_is = c.rows.ensures ∙ ap (λ (t : ComponentTree). t.rows) c.requires.tree in
    when_inside c.args.plane.now c.args.connect c.args.links.now plane c.requires.one_each c.args.p c.requires.pixel c.node_of.result.now ns_is
    c.rows.result.now rows_is
    c.node_of-2.result.now others_is (omega (arith, c.if-link-pixels.false, c.pixels.ensures.product, c.shape-shape.ensures.pixels)) c.if-up.false
    c.if-node.false c.if-up-node.true (ltb-true _ _ low)

pub returns-then-row-p-2 : goal.returns-then-row-p-2
returns-then-row-p-2 c = λ same.
    let plane : IsPlane c.args.plane.now = c.shape-shape.ensures.pixels ∙ ap (λ (s : Shape). s.width * s.height) c.shape-shape.ensures.same in
    let ns_is = c.node_of.ensures.same ∙ ap (λ (t : ComponentTree). t.node_of) c.requires.tree in
    let others_is = c.node_of-2.ensures.same ∙ ap (λ (t : ComponentTree). t.node_of) c.requires.tree in
    let rows_is = c.rows.ensures ∙ ap (λ (t : ComponentTree). t.rows) c.requires.tree in
    when_up c.args.plane.now c.args.connect c.args.links.now plane c.requires.one_each c.args.p c.requires.pixel c.node_of.result.now ns_is
    c.rows.result.now rows_is
    c.node_of-2.result.now others_is (omega (arith, c.if-link-pixels.false, c.pixels.ensures.product, c.shape-shape.ensures.pixels)) c.if-up.false
    c.if-node.false c.if-row-p-2.true (eqb-true _ _ same)
