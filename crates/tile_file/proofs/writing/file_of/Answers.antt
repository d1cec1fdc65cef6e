use Rattle.std.proofs.Common.{◌∙◌, ap, flat_map}
use Rattle.source_pick.specs.Catalogue.{cells_of}
use Rattle.tile_file.proofs.Puts.{file_is, can_be_put}
use Rattle.tile_file.proofs.writing.file_of.Goals as goal

pub returns-clause-bytes : goal.returns-clause-bytes
returns-clause-bytes c =
    file_is c.args.tile c.in_ok-boxes.boxes.items c.in_ok-rows.rows.items c.in_ok-boxes.ensures
    (c.in_ok-rows.ensures ∙ ap (flat_map cells_of) c.deref.ensures.value)

pub returns-clause-writable : goal.returns-clause-writable
returns-clause-writable c =
    let is =
    can_be_put c.args.tile c.in_ok-boxes.boxes.items c.in_ok-rows.rows.items c.requires c.in_ok-boxes.ensures
    (c.in_ok-rows.ensures ∙ ap (flat_map cells_of) c.deref.ensures.value) in
    record { boxes = is.0; numbers = c.requires.numbers; rows = is.1 }
