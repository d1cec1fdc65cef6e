-- Model: which calls of a keeper in memory fail.
use Rattle.std.specs.Prelude.{◌≡◌, ℕ, Bool, true, false, List, Result, Ok, Err, if◌then◌else◌}
use Rattle.survey_core.specs.declared.keeper.Refused.{Refused}
use Rattle.survey_core.specs.declared.keeper.Refused.TheVariants.{Fault, OutOfMemory}
use Rattle.survey_core.specs.declared.mem_keeper.MemKeeper.{MemKeeper}
use Rattle.dev_io.specs.Fakes.{one_more, fails_next}
use Rattle.survey_core.specs.Mem.{tables_kept}
use Rattle.survey_core.specs.Tables.{Table}

-- the cells of each field that it has, in the order of the fields
abbrev pub kept_tables : MemKeeper → List Table
kept_tables k = tables_kept k.entries.items

-- how many calls it has had
abbrev pub keeper_calls : MemKeeper → ℕ
keeper_calls k = k.calls

-- how often it has failed
abbrev pub keeper_faults : MemKeeper → ℕ
keeper_faults k = k.faults

-- the numbers of the calls that fail
abbrev pub keeper_fails : MemKeeper → List ℕ
keeper_fails k = k.fails.now

abbrev pub is_fault_of : Refused → Bool
is_fault_of Fault = true
is_fault_of OutOfMemory = false

-- the call failed, and didn't only want memory
abbrev pub is_fault : {T : Type 0} → Result T Refused → Bool
is_fault (Ok x) = false
is_fault (Err why) = is_fault_of why

-- a call fails where its number is one of those, and at no other; each call and each fault is counted
pub record IsKeeperCall {T : Type 0} (old new : MemKeeper) (result : Result T Refused) : Type 0 where
  pub fails : is_fault result ≡ fails_next (keeper_fails old) (keeper_calls old)
  pub faults : keeper_faults new ≡ (if is_fault result then one_more (keeper_faults old) else keeper_faults old)
  pub calls : keeper_calls new ≡ one_more (keeper_calls old)
  pub same_fails : keeper_fails new ≡ keeper_fails old
