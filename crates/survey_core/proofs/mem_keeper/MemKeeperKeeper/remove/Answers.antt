use Rattle.survey_core.proofs.TableLemmas.{without_are}
use Rattle.survey_core.proofs.mem_keeper.MemKeeperKeeper.remove.Goals as goal

pub invariant_of-self : goal.invariant_of-self
invariant_of-self c = record { tables_are = without_are c.args.field _ _ c.drop_entry.ensures.done c.fails.new.self.tables_are }
