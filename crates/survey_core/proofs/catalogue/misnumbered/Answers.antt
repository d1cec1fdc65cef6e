use Rattle.std.proofs.Common.{◌/◌, length, arith, sym, ◌∙◌}
use Rattle.fits_write.specs.CatalogueColumns.{cells_in_row}
use Rattle.survey_core.specs.Catalogues.{is_misnumbered, first_misnumbered}
use Rattle.lemmas.proofs.Exported.{find_first, find_nothing}
use Rattle.survey_core.proofs.catalogue.misnumbered.Goals as goal

pub returns-then-is_misnumbered-clause-first : goal.returns-then-is_misnumbered-clause-first
unfolding first_misnumbered
returns-then-is_misnumbered-clause-first c =
    sym (find_first (is_misnumbered c.args.cells.now) 0 (length c.args.cells.now / cells_in_row) c.loop-place.place (omega arith)
    (omega (arith, c.loop-place-test.true))
    (sym c.is_misnumbered.ensures ∙ c.if-is_misnumbered.true) (λ j low high. c.loop-place.invariant j high))

pub returns-clause-first : goal.returns-clause-first
unfolding first_misnumbered
returns-clause-first c =
    sym (find_nothing (is_misnumbered c.args.cells.now) 0 (length c.args.cells.now / cells_in_row)
    (λ j low high. c.loop-place.invariant j (omega (arith, high, c.loop-place-test.false))))
