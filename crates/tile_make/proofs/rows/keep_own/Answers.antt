use Rattle.std.proofs.Common.{[], ◌∷◌, ◌++◌}
use Rattle.std.proofs.lemmas.List.Elements.{All-push, All-same}
use Rattle.tile_join.specs.Tiles.{IsWritableRow}
use Rattle.tile_make.proofs.rows.keep_own.Goals as goal

pub returns-in_ok-push-clause-fit : goal.returns-in_ok-push-clause-fit
returns-in_ok-push-clause-fit c = λ before.
    All-same IsWritableRow _ (c.args.rows.now.items ++ c.args.row ∷ []) c.in_ok-push.ensures.items
    (All-push IsWritableRow c.args.rows.now.items c.args.row before c.requires.fits)
