use Rattle.std.proofs.Common.{rules, ◌≡◌, true, refl}
use Rattle.tile_top.specs.TileAnswers.{has_window_shape}
use Rattle.tile_top.proofs.TileReads.{window_read, window_stopped}
use Rattle.tile_top.proofs.tiling.read_and_make.Goals as goal

pub returns-in-Err-clause-told : goal.returns-in-Err-clause-told
returns-in-Err-clause-told g c = λ x tells.
    window_stopped c.args.limits.now c.args.order.now x _ _ c.in-Err.stop (tells refl) (c.in-Err.ensures.told x (tells refl))

pub returns-in-Ok-make_file-clause-told : goal.returns-in-Ok-make_file-clause-told
returns-in-Ok-make_file-clause-told g c = λ x tells.
    let shape : has_window_shape c.args.order.now c.in-Ok.image.shape ≡ true = search rules in
    window_read c.args.limits.now c.args.order.now x _ _ c.in-Ok.image _ (tells refl) (c.in-Ok.ensures.told x (tells refl)) shape c.in-Ok-make_file.ensures.bytes
