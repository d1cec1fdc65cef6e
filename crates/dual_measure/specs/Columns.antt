-- Model: the columns of a catalogue whose sources are measured in a second image too.
use Rattle.std.specs.Prelude.{ℤ, pos, List, [], ◌∷◌, ◌++◌}
use Rattle.source_pick.specs.declared.catalogue.CatRow.{CatRow}
use Rattle.source_pick.specs.Catalogue.{cells_of}
use Rattle.dual_measure.specs.declared.values.Measure.{Measure}
use Rattle.dual_measure.specs.Measures.{mean_of}

-- the numbers of a row, and after them SEEN, MISSING, VSUM, VLOW, VPEAK, VMEAN and VBACK
abbrev pub measured_cells_of : CatRow → Measure → ℤ → List ℤ
measured_cells_of row measure back =
    cells_of row ++ pos measure.seen ∷ pos measure.missing ∷ measure.v ∷ measure.low ∷ measure.peak ∷ mean_of measure ∷ back ∷ []
