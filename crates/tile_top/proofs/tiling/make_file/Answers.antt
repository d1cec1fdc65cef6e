use Rattle.std.proofs.Common.{◌≡◌, ◌∙◌, ℕ, List, Err, ap, subst}
use Rattle.std.specs.Prelude.{IfOk}
use Rattle.tile_file.specs.declared.writing.TileFile.{TileFile}
use Rattle.tile_file.specs.TileFiles.{file_bytes}
use Rattle.tile_top.proofs.Fitting.{tile_fits, tile_written, placed_in_image}
use Rattle.tile_top.proofs.tiling.make_file.Goals as goal

pub file_of-requires : goal.file_of-requires
file_of-requires g c = tile_fits c.in-Ok.tile c.in-Ok.ensures.storable

pub unreachable-requires : goal.unreachable-requires
unreachable-requires g c =
    placed_in_image c.args.order.now c.args.image.shape c.requires.shape c.requires.order.placed
    (c.make_tile.ensures.misplaced (c.in-Err-Misplaced.is ∙ ap Err c.in-Err-Misplaced.field-0-is))

pub returns-in-Ok-clause-bytes : goal.returns-in-Ok-clause-bytes
returns-in-Ok-clause-bytes g c =
    subst (λ (b : List ℕ). IfOk c.file_of.result (λ (file : TileFile). file_bytes file ≡ b))
    (tile_written c.args.order.now c.args.image c.in-Ok.tile c.in-Ok.ensures.told) c.file_of.ensures.bytes
