-- The cells so far are those of the first rows.
use Rattle.std.proofs.Common.{◌≡◌, ◌*◌, ◌≤◌, length}
use Rattle.std.specs.Option.{ForSome}
use Rattle.fits_write.specs.CatalogueColumns.{cells_in_row}
use Rattle.survey_core.specs.Reads.{AreTableRows}
use Rattle.survey_core.proofs.catalogue.read_rows.Given as goal

abbrev pub invariant-loop : goal.invariant-loop
invariant-loop g l = record {
  told : ForSome (g.S.Source.left l.fn.src) (λ bytes. AreTableRows bytes l.counter (g.S.Source.left l.src) l.cells.items);
  whole : length l.cells.items ≡ cells_in_row * l.counter;
  later : g.S.Source.faults l.fn.src ≤ g.S.Source.faults l.src;
}
