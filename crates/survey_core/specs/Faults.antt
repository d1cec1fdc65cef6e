-- Model: the faults of a session: their numbers, their names, and what they name besides.
use Rattle.std.specs.Prelude.{ℕ, List, Option, Some, None, codes}
use Rattle.std.specs.Option.{option_map}
use Rattle.fits_hdu.specs.Faults.{hdu_fault_number, hdu_fault_name, hdu_fault_place}
use Rattle.survey_core.specs.declared.fault.Fault.{Fault}
use Rattle.survey_core.specs.declared.fault.Fault.TheVariants.{Hdu, NotCatalogue, TooManyRows, TruncatedTable, RowNumber, NoSuchField}
use Rattle.survey_core.specs.declared.fault.FaultPlace.{FaultPlace}
use Rattle.survey_core.specs.declared.fault.FaultPlace.TheVariants.{Card, Row}

abbrev pub survey_fault_number : Fault → ℕ
survey_fault_number (Hdu fault) = hdu_fault_number fault
survey_fault_number NotCatalogue = 20
survey_fault_number TooManyRows = 21
survey_fault_number TruncatedTable = 22
survey_fault_number (RowNumber row) = 23
survey_fault_number NoSuchField = 24

abbrev pub survey_fault_name : Fault → List ℕ
survey_fault_name (Hdu fault) = hdu_fault_name fault
survey_fault_name NotCatalogue = codes "NotCatalogue"
survey_fault_name TooManyRows = codes "TooManyRows"
survey_fault_name TruncatedTable = codes "TruncatedTable"
survey_fault_name (RowNumber row) = codes "RowNumber"
survey_fault_name NoSuchField = codes "NoSuchField"

-- the card or the row at fault, if it is one's fault
abbrev pub survey_fault_place : Fault → Option FaultPlace
survey_fault_place (Hdu fault) = option_map Card (hdu_fault_place fault)
survey_fault_place (RowNumber row) = Some (Row row)
survey_fault_place _ = None
