use Rattle.std.proofs.Common.{◌≡◌, ◌∷◌, [], ◌++◌, take, ap, ap₂, sym, ◌∙◌, append_assoc, arith, w64, rules, length, length-drop}
use Rattle.std.specs.Int.{cast_signed, from_be_bytes}
use Rattle.std.proofs.lemmas.Int.{to_z-of_z}
use mir.Val.{SFits}
use Rattle.survey_sqlite.specs.Blobs.{blob_cells}
use Rattle.survey_sqlite.proofs.BlobLemmas.{cells_first}
use Rattle.survey_sqlite.proofs.blob.whole_cells.Goals as goal

pub loop-first-preserved : goal.loop-first-preserved
loop-first-preserved c =
    let cut = c.in-Some.ensures.cases in
    let first = cells_first c.loop-first.rest.now (omega (arith, cut.2)) in
    let cell : c.from_be_bytes.result ≡ cast_signed w64 (from_be_bytes w64 (take 8 c.loop-first.rest.now)) =
    c.from_be_bytes.ensures ∙ ap (λ b. cast_signed w64 (from_be_bytes w64 b)) cut.0 in
    let fits : SFits w64 c.from_be_bytes.result = search rules in
    let items = c.in_ok-push.ensures.items ∙ ap (λ z. c.loop-first.cells.items ++ z ∷ []) (to_z-of_z w64 c.from_be_bytes.result fits) in (
      ap (λ l. l ++ blob_cells c.in-Some.more.now) items ∙ append_assoc c.loop-first.cells.items (c.from_be_bytes.result ∷ []) (blob_cells c.in-Some.more.now)
          ∙ ap (λ y. c.loop-first.cells.items ++ y) (ap₂ ◌∷◌ cell (ap blob_cells cut.1) ∙ sym first) ∙ c.loop-first.invariant.0,
      omega (arith, c.loop-first.invariant.1, ap length cut.1, length-drop 8 c.loop-first.rest.now, cut.2),
    )
