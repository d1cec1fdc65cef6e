use Rattle.std.proofs.Common.{◌<◌, ap, sym, ◌∙◌, arith, subst, length}
use Rattle.std.proofs.lemmas.Bool.{and_right, not_from_true, true≢false}
use Rattle.comp_tree.specs.Windows.{Box}
use Rattle.tile_laws.specs.Knowing.{IsSettled}
use Rattle.tile_laws.specs.Extents.{extent_box}
use Rattle.tile_laws.specs.Opening.{is_whole_node, IsBoxOf}
use Rattle.tile_laws.proofs.NodeBoxes.{entry_inside, boxed, nothing_opened, none_opened, one_opened, passed_over, settled_up_to}
use Rattle.tile_laws.proofs.Fewer.{few_of_tree, few_is}
use Rattle.tile_laws.proofs.Opened.{whole_told, settled_told, none_opened_yet, one_more, no_more, none_more, all_opened}
use Rattle.node_sums.proofs.Exported.{outlines_rows}
use Rattle.tile_laws.proofs.knowing.open_boxes.Goals.{then-is_whole_at+then-not-is_settled+in_ok-push, then-is_whole_at+else-not-is_settled, else-is_whole_at}
use Rattle.tile_laws.proofs.knowing.open_boxes.Goals as goal

pub loop-n-init : goal.loop-n-init
loop-n-init c =
    none_opened_yet c.args.choice.now.threshold c.args.tree.now.rows c.args.outlines.now c.args.place.now.left c.args.place.now.top c.args.place.now.whole
    (extent_box c.args.core.now) (extent_box c.args.sure.now) c.new-boxes.result.items
    (nothing_opened c.args.choice.now.threshold c.args.tree.now.rows c.args.outlines.now c.args.place.now.left c.args.place.now.top c.args.place.now.whole
    (extent_box c.args.core.now) (extent_box c.args.sure.now) c.new-boxes.result.items c.new-boxes.ensures.items)
    c.new-boxes.ensures.items

pub bounds-outlines-n : goal.bounds-outlines-n
bounds-outlines-n c =
    entry_inside c.args.tree.now c.args.outlines.now c.loop-n.n c.requires.outlines (omega (arith, c.loop-n-test.true, c.node_count-n-end.ensures.all))

pub box_of-part-requires-clause-boxed : goal.box_of-part-requires-clause-boxed
box_of-part-requires-clause-boxed c =
    boxed c.args.tree.now c.args.outlines.now c.loop-n.n _ c.requires.outlines (omega (arith, c.loop-n-test.true, c.node_count-n-end.ensures.all))

pub loop-n-preserved : goal.loop-n-preserved
loop-n-preserved c =
    let threshold = c.args.choice.now.threshold in
    let rows = c.args.tree.now.rows in
    let outlines = c.args.outlines.now in
    let left = c.args.place.now.left in
    let top = c.args.place.now.top in
    let whole = c.args.place.now.whole in
    let core = extent_box c.args.core.now in
    let sure = extent_box c.args.sure.now in
    let n = c.loop-n.n in
    let before = c.loop-n.boxes.items in
    let now = c.if-is_whole_at.boxes.items in
    let within : n < length outlines =
    entry_inside c.args.tree.now outlines n c.requires.outlines (omega (arith, c.loop-n-test.true, c.node_count-n-end.ensures.all)) in
    elim c.if-is_whole_at.branch [
      | then-is_whole_at+then-not-is_settled+in_ok-push w ↦
          let pushed = ap (λ v. v.items) w.boxes-is ∙ w.in_ok-push.ensures.items in
          let box = w.box_of-part.ensures in
          let of : IsBoxOf whole (extent_box w.box_of-part.result) =
          record { columns = box.columns; right = box.inside; rows = box.rows; bottom = box.below } in
          one_more threshold rows outlines left top whole core sure n _ before now w.box_of-part.result c.loop-n.invariant
          (one_opened threshold rows outlines left top whole core sure n _ before now c.loop-n.invariant.told w.box_of-part.result pushed within
          (c.is_whole_at.ensures.0 w.if-is_whole_at.true) box.same
          (λ k. true≢false (sym (w.is_settled.ensures.1 k) ∙ w.if-not-is_settled.true)))
          within pushed (whole_told threshold rows n c.is_whole_at.result _ c.is_whole_at.ensures w.if-is_whole_at.true)
          (settled_told whole core sure (extent_box w.box_of-part.result) _ w.is_settled.result _ box.same of w.is_settled.ensures w.if-not-is_settled.true)
          box.same of
      | then-is_whole_at+else-not-is_settled w ↦
          let box = w.box_of-part.ensures in
          let of : IsBoxOf whole (extent_box w.box_of-part.result) =
          record { columns = box.columns; right = box.inside; rows = box.rows; bottom = box.below } in
          no_more threshold rows outlines left top whole core sure n _ before now c.loop-n.invariant
          (none_opened threshold rows outlines left top whole core sure n _ before now c.loop-n.invariant.told (ap (λ v. v.items) w.boxes-is)
          (λ k. subst (λ (b : Box). IsSettled whole core sure b) box.same (w.is_settled.ensures.0 w.if-not-is_settled.false)))
          within (ap (λ v. v.items) w.boxes-is)
          (and_right (is_whole_node threshold rows n) _
          (not_from_true _
          (settled_told whole core sure (extent_box w.box_of-part.result) _ w.is_settled.result _ box.same of w.is_settled.ensures w.if-not-is_settled.false)))
      | else-is_whole_at w ↦
          none_more threshold rows outlines left top whole core sure n before now c.loop-n.invariant
          (passed_over threshold rows outlines left top whole core sure n before now c.loop-n.invariant.told (ap (λ v. v.items) w.boxes-is)
          (λ k. true≢false (sym (c.is_whole_at.ensures.1 k) ∙ w.if-is_whole_at.false)))
          within (ap (λ v. v.items) w.boxes-is) (whole_told threshold rows n c.is_whole_at.result _ c.is_whole_at.ensures w.if-is_whole_at.false)
    ]

pub returns-clause-exact : goal.returns-clause-exact
returns-clause-exact c =
    all_opened c.args.choice.now.threshold c.args.tree.now.rows c.args.outlines.now c.args.place.now.left c.args.place.now.top c.args.place.now.whole
    (extent_box c.args.core.now) (extent_box c.args.sure.now) c.loop-n.n c.loop-n.boxes.items
    (omega (arith, c.loop-n-test.false, c.node_count-n-end.ensures.all, outlines_rows c.args.tree.now c.args.outlines.now c.requires.outlines)) c.loop-n.invariant

pub returns-clause-known : goal.returns-clause-known
returns-clause-known c = λ none.
    settled_up_to c.args.choice.now.threshold c.args.tree.now.rows c.args.outlines.now c.args.place.now.left c.args.place.now.top c.args.place.now.whole
    (extent_box c.args.core.now) (extent_box c.args.sure.now) (length c.args.tree.now.rows) c.loop-n.n
    (omega (arith, c.loop-n-test.false, c.node_count-n-end.ensures.all)) (c.loop-n.invariant.told.0 none)

pub returns-clause-unsettled : goal.returns-clause-unsettled
returns-clause-unsettled c = c.loop-n.invariant.told.1

pub returns-clause-inside : goal.returns-clause-inside
returns-clause-inside c = c.loop-n.invariant.inside

pub returns-clause-few : goal.returns-clause-few
returns-clause-few c =
    few_is c.loop-n.boxes.items _
    (all_opened c.args.choice.now.threshold c.args.tree.now.rows c.args.outlines.now c.args.place.now.left c.args.place.now.top c.args.place.now.whole
    (extent_box c.args.core.now) (extent_box c.args.sure.now) c.loop-n.n c.loop-n.boxes.items
    (omega (arith, c.loop-n-test.false, c.node_count-n-end.ensures.all, outlines_rows c.args.tree.now c.args.outlines.now c.requires.outlines)) c.loop-n.invariant)
    (few_of_tree c.args.tree.now c.args.outlines.now c.args.choice.now.threshold c.args.place.now.left c.args.place.now.top c.args.place.now.whole
    (extent_box c.args.core.now) (extent_box c.args.sure.now) c.requires.outlines)
