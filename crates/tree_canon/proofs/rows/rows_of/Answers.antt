use Rattle.std.proofs.Common.{◌∙◌, ◌++◌, ◌∷◌, [], map, take, sym, ap, arith}
use Rattle.std.proofs.lemmas.List.{map_more, take_all}
use Rattle.comp_tree.proofs.Exported.{below_from_defined}
use Rattle.tree_canon.specs.Canonical.{loose_row}
use Rattle.tree_canon.proofs.Rising.{defined_at}
use Rattle.tree_canon.proofs.rows.rows_of.Goals as goal

pub loop-p-init : goal.loop-p-init
loop-p-init c = c.in_ok-rows.ensures.items

pub loose-requires : goal.loose-requires
loose-requires c = below_from_defined c.args.plane.now _ (defined_at c.args.plane.now 0 c.args.pixels.now c.requires c.loop-p.p-index c.loop-p-test.true)

pub loop-p-preserved : goal.loop-p-preserved
loop-p-preserved c =
    c.in_ok-push.ensures.items ∙ ap (λ rows. rows ++ c.loose.result ∷ []) c.loop-p.invariant
    ∙ ap (λ row. map (loose_row c.args.plane.now) (take c.loop-p.p-index c.args.pixels.now) ++ row ∷ []) c.loose.ensures
    ∙ sym (map_more (loose_row c.args.plane.now) c.args.pixels.now c.loop-p.p-index 0 c.loop-p-test.true)

pub returns : goal.returns
returns c =
    c.loop-p.invariant ∙ ap (map (loose_row c.args.plane.now)) (take_all c.loop-p.p-index c.args.pixels.now (omega (arith, c.loop-p-test.false)))
