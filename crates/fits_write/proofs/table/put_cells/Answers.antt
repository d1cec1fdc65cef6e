use Rattle.std.proofs.Common.{[], get_or, pos, refl, rules, w64, SFits}
use Rattle.std.proofs.lemmas.Int.{to_z-of_z}
use Rattle.fits_write.specs.Columns.{table_bytes}
use Rattle.fits_write.proofs.Pieces.{waits_more, waits_cut, waits_all, waits_filled, cut_filled}
use Rattle.fits_write.proofs.TableParts.{cell_pieces, cell_in, cells_over, cell_is}
use Rattle.fits_write.proofs.table.put_cells.Goals as goal

pub returns-in-Err-clause-bytes : goal.returns-in-Err-clause-bytes
unfolding table_bytes
returns-in-Err-clause-bytes g c =
    let columns = c.args.columns.now in
    let cells = c.args.cells.now in
    let h = c.loop-place-test.true in
    let fits : SFits w64 (get_or cells c.loop-place.place (pos 0)) = search rules in
    cut_filled _ _ _ 0
    (waits_cut _ _ _ [] (cell_pieces columns cells) _ c.loop-place.place _ (cell_in columns cells _ h)
    (cell_is columns cells c.loop-place.place _ _ h refl (to_z-of_z w64 _ fits))
    c.loop-place.invariant.waiting c.in-Err.ensures.err)

pub loop-place-preserved : goal.loop-place-preserved
loop-place-preserved g c =
    let columns = c.args.columns.now in
    let cells = c.args.cells.now in
    let h = c.loop-place-test.true in
    let fits : SFits w64 (get_or cells c.loop-place.place (pos 0)) = search rules in
    record {
      waiting =
          waits_more _ _ _ [] (cell_pieces columns cells) _ _ c.loop-place.place _ (cell_in columns cells _ h)
          (cell_is columns cells c.loop-place.place _ _ h refl (to_z-of_z w64 _ fits))
          c.loop-place.invariant.waiting c.in_default.ensures.ok;
      later = search rules;
    }

pub returns-clause-bytes : goal.returns-clause-bytes
unfolding table_bytes
returns-clause-bytes g c =
    let columns = c.args.columns.now in
    let cells = c.args.cells.now in
    waits_filled _ _ _ _ _ _ 0 (waits_all _ _ [] (cell_pieces columns cells) _ c.loop-place.place (cells_over columns cells _ c.loop-place-test.false)
    c.loop-place.invariant.waiting)
    c.fill.ensures.bytes
