use Rattle.std.proofs.Common.{◌≡◌, ◌∙◌, ◌+◌, ◌++◌, [], ◌∷◌, length, drop, get_or, ap, sym, arith, drop-cons, add-one, append_assoc, length-drop, w64}
use Rattle.std.proofs.Common.{SFits, rules}
use Rattle.std.proofs.lemmas.Int.{to_z-of_z}
use Rattle.fits_write.specs.declared.table.Column.{Column}
use Rattle.fits_write.specs.declared.table.Cell.TheVariants.{J}
use Rattle.fits_write.specs.Columns.{cell_size, row_size}
use Rattle.fits_write.specs.Rows.{front_cell, row_cells}
use Rattle.fits_write.proofs.RowByRow.{size_more}
use Rattle.fits_write.proofs.rows.add_row.Goals as goal

pub loop-column-preserved : goal.loop-column-preserved
loop-column-preserved c =
    let i = c.loop-column.column-index in
    let columns = c.args.columns.now in
    let rest = c.loop-column.rest.now in
    let column : Column = get_or columns i (record { name = []; cell = J }) in
    let later = drop (i + 1) columns in
    let kept = c.loop-column.cells.items in
    let split : drop i columns ≡ column ∷ later = drop-cons columns i (record { name = []; cell = J }) c.loop-column-test.true
    ∙ ap (λ k. column ∷ drop k columns) (sym (add-one i)) in
    let fits : SFits w64 c.split_cell-number.result.0 = search rules in
    let number = to_z-of_z w64 c.split_cell-number.result.0 fits ∙ c.split_cell-number.ensures.number in
    let pushed : c.push.new.self.items ≡ kept ++ front_cell column.cell rest ∷ [] =
    c.in_ok-push.ensures.items ∙ ap (λ z. kept ++ z ∷ []) number in
    let size = size_more column later in
    let all = ap row_size split in
    record {
      so_far = ap (λ l. l ++ row_cells later c.split_cell-number.result.1.now) pushed
          ∙ append_assoc kept (front_cell column.cell rest ∷ []) (row_cells later c.split_cell-number.result.1.now)
          ∙ ap (λ l. kept ++ front_cell column.cell rest ∷ row_cells later l) c.split_cell-number.ensures.rest
          ∙ ap (λ l. kept ++ row_cells l rest) (sym split) ∙ c.loop-column.invariant.so_far;
      enough = omega (arith, c.loop-column.invariant.enough, all, size, ap length c.split_cell-number.ensures.rest, length-drop (cell_size column.cell) rest);
    }
