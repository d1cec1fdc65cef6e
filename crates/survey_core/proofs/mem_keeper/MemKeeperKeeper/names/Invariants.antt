use Rattle.std.proofs.Common.{◌≡◌, map, take}
use Rattle.survey_core.proofs.mem_keeper.MemKeeperKeeper.names.Given as goal

abbrev pub invariant-loop-entry : goal.invariant-loop-entry
invariant-loop-entry l = l.fields.items ≡ map (λ e. e.field) (take l.entry-index l.entry-items)
