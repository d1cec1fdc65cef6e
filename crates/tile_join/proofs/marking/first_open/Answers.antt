use Rattle.std.proofs.Common.{◌≡◌, length, refl, sym, ◌∙◌, arith, rules}
use Rattle.std.specs.Vec.{vec_len}
use Rattle.std.proofs.lemmas.Bool.{eqb-false, eqb-true}
use Rattle.std.proofs.lemmas.List.{nil_from_length}
use Rattle.std.proofs.lemmas.Option.{slice_get_read}
use Rattle.tile_join.proofs.Seen.{known_more}
use Rattle.tile_join.proofs.marking.first_open.Goals as goal

pub returns-then-not-is_empty : goal.returns-then-not-is_empty
returns-then-not-is_empty c =
    let size : vec_len c.index-tiles-i.result.open ≡ length c.index-tiles-i.result.open.items = search rules in
    let n = eqb-false _ _ (sym c.is_empty.ensures ∙ c.if-not-is_empty.true) in (
      c.loop-i.invariant,
      (
        c.index-tiles-i.result,
        slice_get_read c.args.tiles.now (length c.args.tiles.now) c.loop-i.i c.index-tiles-i.result refl c.loop-i-test.true c.index-tiles-i.is,
        omega (arith, n, size),
      ),
    )

pub loop-i-preserved : goal.loop-i-preserved
loop-i-preserved c =
    let size : vec_len c.index-tiles-i.result.open ≡ length c.index-tiles-i.result.open.items = search rules in
    let e = eqb-true _ _ (sym c.is_empty.ensures ∙ c.if-not-is_empty.false) in
    known_more c.args.tiles.now c.loop-i.i c.index-tiles-i.result c.loop-i.invariant
    (slice_get_read c.args.tiles.now (length c.args.tiles.now) c.loop-i.i c.index-tiles-i.result refl c.loop-i-test.true c.index-tiles-i.is)
    (nil_from_length c.index-tiles-i.result.open.items (omega (arith, e, size)))
