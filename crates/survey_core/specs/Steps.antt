-- Model: what one command does to the input, the tables and the output, where these are told, and what stands behind each stop.
use Rattle.std.specs.Prelude.{◌≡◌, ℕ, Bool, true, false, List, [], Option, Some, None, IsTrue}
use Rattle.dev_io.specs.Causes.{Rose}
use Rattle.survey_core.specs.declared.words.Command.{Command}
use Rattle.survey_core.specs.declared.words.Command.TheVariants.{Add, Drop, List as Listing, Brightest}
use Rattle.survey_core.specs.declared.fault.Fault.{Fault}
use Rattle.survey_core.specs.declared.fault.Fault.TheVariants.{TruncatedTable, RowNumber, NoSuchField}
use Rattle.survey_core.specs.declared.fault.Stop.{Stop}
use Rattle.survey_core.specs.declared.fault.Stop.TheVariants.{Refused, ReadFault, WriteFault, NoMemory, KeeperFault}
use Rattle.survey_core.specs.Sessions.{Outcome}

abbrev pub is_add : Command → Bool
is_add (Add field) = true
is_add (Drop field) = false
is_add Listing = false
is_add (Brightest count) = false

abbrev pub is_printing : Command → Bool
is_printing (Add field) = false
is_printing (Drop field) = false
is_printing Listing = true
is_printing (Brightest count) = true

-- a fault that shows only behind the header of a table, or that is the keeper's to find
abbrev pub IsLate : Fault → Type 0
IsLate TruncatedTable = Unit {0}
IsLate (RowNumber row) = Unit {0}
IsLate NoSuchField = Unit {0}
IsLate _ = ⊥

-- memory may be wanted before this is found
abbrev pub MayLackBefore : Stop → Type 0
MayLackBefore (Refused fault) = IsLate fault
MayLackBefore _ = ⊥

abbrev pub MayLackFor : Option Stop → Type 0
MayLackFor None = Unit {0}
MayLackFor (Some stop) = MayLackBefore stop

-- where a stop that is no fault of the session may come, in a command with this outcome
abbrev pub MayCome : Stop → Command → Outcome → Type 0
MayCome (Refused fault) command outcome = ⊥
MayCome ReadFault command outcome = IsTrue (is_add command)
MayCome WriteFault command outcome = IsTrue (is_printing command)
MayCome NoMemory command outcome = MayLackFor outcome.stop
MayCome KeeperFault command outcome = Unit {0}

-- what was printed before it: nothing, but at a write fault
abbrev pub IsFrontAt : Stop → List ℕ → Type 0
IsFrontAt (Refused fault) front = front ≡ []
IsFrontAt ReadFault front = front ≡ []
IsFrontAt WriteFault front = Unit {0}
IsFrontAt NoMemory front = front ≡ []
IsFrontAt KeeperFault front = front ≡ []

-- what stands behind a stop, in any case: which command it is, and which count rose
abbrev pub Cause : Command → ℕ → ℕ → ℕ → ℕ → ℕ → ℕ → Stop → Type 0
Cause command source source' sink sink' keeper keeper' (Refused fault) = Unit {0}
Cause command source source' sink sink' keeper keeper' ReadFault = IsTrue (is_add command) × Rose source source'
Cause command source source' sink sink' keeper keeper' WriteFault = IsTrue (is_printing command) × Rose sink sink'
Cause command source source' sink sink' keeper keeper' NoMemory = Unit {0}
Cause command source source' sink sink' keeper keeper' KeeperFault = Rose keeper keeper'
