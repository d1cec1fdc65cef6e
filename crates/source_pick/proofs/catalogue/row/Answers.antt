use Rattle.std.proofs.Common.{◌∙◌, sym, ap, subst, rules}
use Rattle.std.proofs.lemmas.Int.{to_z-of_z}
use mir.Syntax.{w64}
use mir.Val.{SFits}
use Rattle.comp_tree.specs.declared.shape.Shape.{Shape}
use Rattle.comp_tree.specs.ComponentTree.{ComponentTree}
use Rattle.node_sums.specs.Flux.{base_of}
use Rattle.source_pick.specs.Catalogue.{FitsColumns, IsCentred}
use Rattle.source_pick.proofs.PassesReadings.{level-read, tree-shape}
use Rattle.source_pick.proofs.CellsColumns.{row_columns}
use Rattle.source_pick.proofs.CellsRows.{row_centred, measured, measured-same, row-same, row-is}
use Rattle.node_sums.proofs.Exported.{node_inside}
use Rattle.source_pick.proofs.catalogue.row.Goals as goal

pub row_from-requires : goal.row_from-requires
row_from-requires c =
    let t = c.requires.sums in
    let base : SFits w64 c.base-base.result = search rules in
    let flux : SFits w64 c.flux-flux.result = search rules in
    measured-same c.args.number _ _ _ _ _ _ _ _
    (to_z-of_z w64 c.base-base.result base ∙ c.base-base.ensures ∙ ap (λ (x : ComponentTree). base_of x c.args.n) t.tree_is)
    (to_z-of_z w64 c.flux-flux.result flux ∙ c.flux-flux.ensures.exact t.plane t.connect t.tree_is t.sums_are)
    (ap (λ (s : Shape). s.width) (c.shape-width.ensures.same ∙ tree-shape t.plane t.connect c.args.tree.now t.tree_is))
    t.sums_are
    (measured t.plane t.connect c.args.n t.one_each t.in_range (node_inside t.plane t.connect c.args.tree.now c.args.n t.tree_is c.requires.node)
    c.args.number c.requires.few)

pub returns-clause-exact : goal.returns-clause-exact
returns-clause-exact c = λ r connect e f.
    let base : SFits w64 c.base-base.result = search rules in
    let flux : SFits w64 c.flux-flux.result = search rules in
    c.row_from.ensures
    ∙ row-same c.args.number _ _ _ _ _ _ _ _ _ _
    (to_z-of_z w64 _ (search rules) ∙ level-read r connect c.args.tree.now c.rows.result.now c.args.n _ e c.rows.ensures c.requires.node)
    (to_z-of_z w64 c.base-base.result base ∙ c.base-base.ensures ∙ ap (λ (x : ComponentTree). base_of x c.args.n) e)
    (to_z-of_z w64 c.flux-flux.result flux ∙ c.flux-flux.ensures.exact r connect e f)
    (ap (λ (s : Shape). s.width) (c.shape-width.ensures.same ∙ tree-shape r connect c.args.tree.now e))
    f
    ∙ row-is r connect c.args.number c.args.n

pub returns-clause-columns : goal.returns-clause-columns
returns-clause-columns c =
    let t = c.requires.sums in
    let base : SFits w64 c.base-base.result = search rules in
    let flux : SFits w64 c.flux-flux.result = search rules in
    subst FitsColumns (sym c.row_from.ensures)
    (row_columns c.args.number _ _ _ _ _
    (measured-same c.args.number _ _ _ _ _ _ _ _
    (to_z-of_z w64 c.base-base.result base ∙ c.base-base.ensures ∙ ap (λ (x : ComponentTree). base_of x c.args.n) t.tree_is)
    (to_z-of_z w64 c.flux-flux.result flux ∙ c.flux-flux.ensures.exact t.plane t.connect t.tree_is t.sums_are)
    (ap (λ (s : Shape). s.width) (c.shape-width.ensures.same ∙ tree-shape t.plane t.connect c.args.tree.now t.tree_is))
    t.sums_are
    (measured t.plane t.connect c.args.n t.one_each t.in_range (node_inside t.plane t.connect c.args.tree.now c.args.n t.tree_is c.requires.node)
    c.args.number c.requires.few)))

pub returns-clause-centred : goal.returns-clause-centred
returns-clause-centred c =
    let t = c.requires.sums in
    let base : SFits w64 c.base-base.result = search rules in
    let flux : SFits w64 c.flux-flux.result = search rules in
    subst IsCentred (sym c.row_from.ensures)
    (row_centred c.args.number _ _ _ _ _
    (measured-same c.args.number _ _ _ _ _ _ _ _
    (to_z-of_z w64 c.base-base.result base ∙ c.base-base.ensures ∙ ap (λ (x : ComponentTree). base_of x c.args.n) t.tree_is)
    (to_z-of_z w64 c.flux-flux.result flux ∙ c.flux-flux.ensures.exact t.plane t.connect t.tree_is t.sums_are)
    (ap (λ (s : Shape). s.width) (c.shape-width.ensures.same ∙ tree-shape t.plane t.connect c.args.tree.now t.tree_is))
    t.sums_are
    (measured t.plane t.connect c.args.n t.one_each t.in_range (node_inside t.plane t.connect c.args.tree.now c.args.n t.tree_is c.requires.node)
    c.args.number c.requires.few)))
