use Rattle.tile_file.proofs.Puts.{all_put}
use Rattle.tile_file.proofs.writing.put_file.Goals as goal

pub returns-clause-bytes : goal.returns-clause-bytes
returns-clause-bytes g c =
    all_put _ _ _ _ _ c.args.file.now _ _ c.in_default.ensures.bytes c.in_default-put_named_table.ensures.bytes c.put_map_and_rows.ensures.bytes
    c.box_columns.ensures c.deref.ensures.value
