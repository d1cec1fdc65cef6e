-- Bookkeeping: what reading a catalogue does to the bytes that are told.
use Rattle.std.specs.Prelude.{◌≡◌, ℕ, ◌*◌, ◌<◌, List, take, length, ℤ}
use Rattle.std.specs.declared.option.Option.{Option}
use Rattle.dev_io.specs.Causes.{Rose}
use Rattle.dev_io.specs.Streams.{Takes, TakesAtMost}
use Rattle.fits_write.specs.CatalogueColumns.{catalogue_columns, bytes_in_row}
use Rattle.fits_write.specs.Rows.{table_cells}
use Rattle.survey_core.specs.declared.fault.Stop.{Stop}
use Rattle.survey_core.specs.declared.fault.Stop.TheVariants.{Refused, ReadFault, WriteFault, NoMemory, KeeperFault}
use Rattle.survey_core.specs.declared.fault.Fault.TheVariants.{TruncatedTable}
use Rattle.survey_core.specs.Catalogues.{Reading, accepted, rejected}
use Rattle.survey_core.specs.Steps.{MayLackBefore}

-- how many bytes are taken
abbrev pub taken_of : Reading → ℕ
taken_of (accepted cells taken) = taken
taken_of (rejected stop taken) = taken

-- what stands behind a stop of a reading: the count of the source rose, or the bytes or want of memory
abbrev pub ReadCause : ℕ → ℕ → Stop → Type 0
ReadCause faults faults' (Refused fault) = Unit {0}
ReadCause faults faults' ReadFault = Rose faults faults'
ReadCause faults faults' WriteFault = ⊥
ReadCause faults faults' NoMemory = Unit {0}
ReadCause faults faults' KeeperFault = ⊥

-- so many bytes of a table were to be read, and its end came before, or some of them are gone
abbrev pub IsCutWithin : List ℕ → ℕ → Option (List ℕ) → Stop → Type 0
IsCutWithin bytes size left (Refused fault) = (fault ≡ TruncatedTable) × (length bytes < size) × Takes bytes left (length bytes)
IsCutWithin bytes size left ReadFault = TakesAtMost bytes left size
IsCutWithin bytes size left WriteFault = ⊥
IsCutWithin bytes size left NoMemory = TakesAtMost bytes left size
IsCutWithin bytes size left KeeperFault = ⊥

-- the next row was read
pub record IsRow (bytes : List ℕ) (left : Option (List ℕ)) (row : List ℕ) : Type 0 where
  pub row_is : row ≡ take bytes_in_row bytes
  pub takes : Takes bytes left bytes_in_row

-- so many rows were read
pub record AreTableRows (bytes : List ℕ) (count : ℕ) (left : Option (List ℕ)) (cells : List ℤ) : Type 0 where
  pub cells_are : cells ≡ table_cells catalogue_columns bytes count
  pub takes : Takes bytes left (bytes_in_row * count)

-- memory may be wanted before this is found
abbrev pub MayLackIn : Reading → Type 0
MayLackIn (accepted cells taken) = Unit {0}
MayLackIn (rejected stop taken) = MayLackBefore stop

-- this catalogue was read
pub record IsAccepted (reading : Reading) (bytes : List ℕ) (left : Option (List ℕ)) (cells : List ℤ) : Type 0 where
  pub taken : ℕ
  pub reading_is : reading ≡ accepted cells taken
  pub takes : Takes bytes left taken

-- this is found in its place, or a front of its bytes is gone
abbrev pub IsRejected : Reading → List ℕ → Option (List ℕ) → Stop → Type 0
IsRejected reading bytes left (Refused fault) = (taken : ℕ) × (reading ≡ rejected (Refused fault) taken) × Takes bytes left taken
IsRejected reading bytes left ReadFault = TakesAtMost bytes left (taken_of reading)
IsRejected reading bytes left WriteFault = ⊥
IsRejected reading bytes left NoMemory = MayLackIn reading × TakesAtMost bytes left (taken_of reading)
IsRejected reading bytes left KeeperFault = ⊥
