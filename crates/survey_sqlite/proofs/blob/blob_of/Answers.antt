use Rattle.std.proofs.Common.{◌≡◌, ◌<◌, ◌++◌, ℤ, pos, length, get_or, ap, ap₂, sym, subst, ◌∙◌, FitsSigned, w64, rules}
use Rattle.std.specs.List.{AllByRecursion}
use Rattle.std.proofs.lemmas.List.{take_all, get_or_default}
use Rattle.std.proofs.lemmas.Int.{to_z-of_z}
use mir.Val.{to_z, of_z}
use Rattle.survey_sqlite.specs.Blobs.{blob_of, blob_cells, blob_cell_bytes}
use Rattle.survey_sqlite.proofs.BlobLemmas.{cells_back, blob_more, fits_more}
use Rattle.survey_sqlite.proofs.blob.blob_of.Goals as goal

pub loop-cell-preserved : goal.loop-cell-preserved
loop-cell-preserved c =
    let cells = c.args.cells.now in
    let i = c.loop-cell.cell-index in
    let x : ℤ = get_or cells i (pos 0) in
    let low : i < length cells = c.loop-cell-test.true in
    let at : x ≡ get_or cells i x = get_or_default cells i (pos 0) x low in
    let fits : FitsSigned w64 x = search rules in
    let given : c.to_be_bytes.result ≡ blob_cell_bytes (to_z w64 (of_z w64 x)) = c.to_be_bytes.ensures in
    let bytes : c.to_be_bytes.result ≡ blob_cell_bytes x = given ∙ ap blob_cell_bytes (to_z-of_z w64 x fits) in (
      c.in_ok-extend_from_slice.ensures.items ∙ ap₂ ◌++◌ c.loop-cell.invariant.0 bytes ∙ sym (blob_more cells i x low at),
      fits_more cells i x low at fits c.loop-cell.invariant.1,
    )

pub returns-clause-bytes : goal.returns-clause-bytes
returns-clause-bytes c = c.loop-cell.invariant.0 ∙ ap blob_of (take_all c.loop-cell.cell-index c.args.cells.now c.loop-cell-test.false)

pub returns-clause-back : goal.returns-clause-back
returns-clause-back c =
    let all = take_all c.loop-cell.cell-index c.args.cells.now c.loop-cell-test.false in
    ap blob_cells (c.loop-cell.invariant.0 ∙ ap blob_of all) ∙ cells_back c.args.cells.now (subst (AllByRecursion (FitsSigned w64)) all c.loop-cell.invariant.1)
