use Rattle.std.proofs.Common.{◌/◌, length, arith, refl}
use Rattle.fits_write.specs.CatalogueColumns.{cells_in_row}
use Rattle.survey_core.proofs.CatalogueLemmas.{all_numbered, none_misnumbered}
use Rattle.survey_core.proofs.catalogue.are_numbered.Goals as goal

pub returns-in-Some : goal.returns-in-Some
returns-in-Some c = (λ t. absurd (cc), λ is. absurd (none_misnumbered c.args.cells.now c.in-Some.field-0 is c.in-Some.ensures.within c.in-Some.ensures.some))

pub returns-in-None : goal.returns-in-None
returns-in-None c =
    (λ t. all_numbered c.args.cells.now (length c.args.cells.now / cells_in_row) (omega (arith, c.if-cells-ne0.false)) c.in-None.ensures.none, λ is. refl)
