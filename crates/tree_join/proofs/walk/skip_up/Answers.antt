use Rattle.std.proofs.Common.{◌∙◌, length, sym, w64, to_z, of_z, rules}
use Rattle.std.proofs.lemmas.Bool.{true≢false}
use Rattle.std.proofs.lemmas.Int.{to_z-of_z}
use Rattle.std.specs.Prelude.{unwrap_or, pos}
use mir.Val.{SFits}
use Rattle.comp_tree.specs.Joined.{Or, Only}
use Rattle.comp_tree.specs.Forest.{value_at, ReachesLevel, IsLink}
use Rattle.tree_join.specs.Skips.{IsSkip}
use Rattle.tree_join.proofs.walk.skip_up.Goals as goal
use Rattle.tree_join.proofs.Shorter.{low_read}
use Rattle.tree_join.proofs.Climbing.{skip_told, skip_alone, above_late}

pub returns-clause-up : goal.returns-clause-up
returns-clause-up g c =
    let fits : SFits w64 c.level.result = search rules in
    let low : ReachesLevel (unwrap_or (value_at c.args.rows.now.plane.now.values c.in-Some.there) (pos 0)) (value_at c.args.rows.now.plane.now.values c.args.b)
    → ⊥
    = λ e. true≢false
    (sym (low_read c.args.rows.now.plane.now _ (to_z w64 (of_z w64 c.level.result)) (value_at c.args.rows.now.plane.now.values c.args.b)
    (to_z-of_z w64 c.level.result fits ∙ c.level.ensures) e) ∙ (sym c.is_at_least.ensures ∙ c.if-is_at_least.false)) in
    let told : IsSkip c.args.rows.now.plane.now.values c.args.rows.now.first (length c.args._links.now.places.now)
    (Or (IsLink c.args.rows.now.first c.args._links.now.places.now) (Only c.args.at c.args.b)) c.args.at c.in-Some.there
    = skip_told c.args.rows.now.plane.now.values c.args.rows.now.first (length c.args._links.now.places.now)
    (Or (IsLink c.args.rows.now.first c.args._links.now.places.now) (Only c.args.at c.args.b)) c.args.skips.now.places.now c.args.at _
    c.requires.walk.pair.one.within.low c.requires.walk.hold c.in-Some.ensures.told in
    record {
      skip = skip_alone c.args.rows.now.plane.now.values c.args.rows.now.first (length c.args._links.now.places.now)
          (IsLink c.args.rows.now.first c.args._links.now.places.now) c.args.at c.args.b c.args.at _ low told;
      earlier = search rules;
      late =
          above_late c.args.rows.now.plane.now.values c.args.rows.now.first
          (length c.args._links.now.places.now) c.args.b c.in-Some.there c.requires.walk.pair.other told.pixel low;
    }
