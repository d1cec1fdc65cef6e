-- Bookkeeping: what stands behind a stop of a call that asks the keeper alone.
use Rattle.std.specs.Prelude.{ℕ}
use Rattle.dev_io.specs.Causes.{Rose}
use Rattle.survey_core.specs.declared.fault.Stop.{Stop}
use Rattle.survey_core.specs.declared.fault.Stop.TheVariants.{Refused, ReadFault, WriteFault, NoMemory, KeeperFault}

-- its count rose, or memory is wanted
abbrev pub KeeperCause : ℕ → ℕ → Stop → Type 0
KeeperCause faults faults' (Refused fault) = ⊥
KeeperCause faults faults' ReadFault = ⊥
KeeperCause faults faults' WriteFault = ⊥
KeeperCause faults faults' NoMemory = Unit {0}
KeeperCause faults faults' KeeperFault = Rose faults faults'
