use Rattle.std.proofs.Common.{get_or, sym, arith}
use Rattle.std.proofs.lemmas.Int.{ints}
use Rattle.std.proofs.lemmas.Option.{slice_get-get_or, slice_get_within}
use Rattle.tile_join.proofs.Firsts.{zero_row, IsCast, cast_number, numbers_up_to}
use Rattle.tile_join.proofs.writing.greatest_number.Goals as goal

pub overflow_cast-row : goal.overflow_cast-row
overflow_cast-row c =
    let n = c.requires c.loop-row.row-index _ (slice_get-get_or c.args.rows.now c.loop-row.row-index zero_row c.loop-row-test.true) in
    (cast_number (get_or c.args.rows.now c.loop-row.row-index zero_row).number 2147483647 n.0 n.1 (omega arith)).fits

pub loop-row-preserved : goal.loop-row-preserved
loop-row-preserved c =
    let n = c.requires c.loop-row.row-index _ (slice_get-get_or c.args.rows.now c.loop-row.row-index zero_row c.loop-row-test.true) in
    let z : IsCast (get_or c.args.rows.now c.loop-row.row-index zero_row).number 2147483647 =
    cast_number (get_or c.args.rows.now c.loop-row.row-index zero_row).number 2147483647 n.0 n.1 (omega arith) in
    record {
      all = numbers_up_to c.args.rows.now c.loop-row.row-index c.loop-row.greatest c.larger-greatest.result _ c.loop-row-test.true (sym z.is)
          c.loop-row.invariant.all c.larger-greatest.ensures.first (omega (arith, ints, c.larger-greatest.ensures.second));
      few = c.larger-greatest.ensures.few 2147483647 c.loop-row.invariant.few z.high;
    }

pub returns-clause-all : goal.returns-clause-all
returns-clause-all c =
    let e = c.loop-row-test.false in λ i row g. (
      (c.requires i row g).0,
      c.loop-row.invariant.all i row (omega (arith, slice_get_within c.args.rows.now i row g)) g,
    )
