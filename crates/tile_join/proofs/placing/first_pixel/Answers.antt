use Rattle.std.proofs.Common.{ℕ, ◌*◌, ◌<◌, sym, subst}
use Rattle.tile_join.proofs.Firsts.{cast_less_one, same_place, first_below}
use Rattle.tile_join.proofs.placing.first_pixel.Goals as goal

pub returns-clause-place : goal.returns-clause-place
returns-clause-place c =
    same_place _ _ _ _ c.args.whole.width
    (cast_less_one c.args.row.now.yfirst c.args.whole.height c.requires.first.low_row c.requires.first.high_row c.args.whole.within_limits.few_rows)
    (cast_less_one c.args.row.now.xfirst c.args.whole.width c.requires.first.low_column c.requires.first.high_column
    c.args.whole.within_limits.few_columns)

pub returns-clause-within : goal.returns-clause-within
returns-clause-within c =
    subst (λ (n : ℕ). n < c.args.whole.width * c.args.whole.height) (sym (returns-clause-place c)) (first_below c.args.whole c.args.row.now c.requires.first)
