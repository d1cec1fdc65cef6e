use Rattle.std.proofs.Common.{◌∙◌, ap, List}
use Rattle.std.specs.List.{flat_map}
use Rattle.source_pick.specs.declared.catalogue.CatRow.{CatRow}
use Rattle.source_pick.specs.Catalogue.{cells_of}
use Rattle.join_top.proofs.Joined.{joined_found}
use Rattle.join_top.proofs.making.join_tiles.Goals as goal

pub returns-in-Ok-row_cells-clause-joined : goal.returns-in-Ok-row_cells-clause-joined
returns-in-Ok-row_cells-clause-joined c =
    joined_found c.args.whole c.args.tiles.now c.in-Ok.joined.rows.items c.in-Ok.joined.map.items c.in-Ok-row_cells.cells.items c.requires.files
    c.in-Ok.ensures.joinable c.in-Ok.ensures.rows c.in-Ok.ensures.map c.in-Ok.ensures.image
    (c.in-Ok-row_cells.ensures ∙ ap (λ (l : List CatRow). flat_map cells_of l) c.deref.ensures.value)
