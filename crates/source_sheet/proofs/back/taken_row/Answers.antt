use Rattle.std.proofs.Common.{pos, sym, subst, ◌≡◌, length, arith, ◌<◌}
use Rattle.comp_tree.specs.Components.{nodes}
use Rattle.node_sums.proofs.Exported.{rows_are}
use Rattle.source_pick.specs.Catalogue.{FitsColumns}
use Rattle.source_sheet.specs.Backs.{IsSmallRow}
use Rattle.source_sheet.proofs.Rows.{small_row, back_fits}
use Rattle.source_sheet.proofs.back.taken_row.Goals as goal

pub returns-clause-columns : goal.returns-clause-columns
returns-clause-columns c =
    let t = c.requires.sums in
    let few : c.args.source.now.node < length c.args.tree.now.rows = c.requires.node.node in
    let rows : length c.args.tree.now.rows ≡ length (nodes t.plane t.connect) = rows_are t.plane t.connect c.args.tree.now t.tree_is in
    let small : IsSmallRow c.row-there.result =
    subst IsSmallRow (sym (c.row-there.ensures.exact t.plane t.connect t.tree_is t.sums_are))
    (small_row t.plane t.connect c.args.number c.args.source.now.node t.one_each (omega (arith, few, rows))) in
    subst FitsColumns (sym (c.row_back.ensures t.plane (pos 0)))
    (back_fits t.plane (pos 0) c.args.source.now.place c.row-there.result c.row-there.ensures.columns small c.row-there.ensures.centred c.requires.node.near)
