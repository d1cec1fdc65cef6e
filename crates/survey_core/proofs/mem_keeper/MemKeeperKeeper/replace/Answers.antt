use Rattle.std.proofs.Common.{subst, sym}
use Rattle.survey_core.specs.Tables.{IsNumbered}
use Rattle.survey_core.proofs.TableLemmas.{put_are_if}
use Rattle.survey_core.proofs.mem_keeper.MemKeeperKeeper.replace.Goals as goal

pub invariant_of-self : goal.invariant_of-self
invariant_of-self c = record {
  tables_are =
      put_are_if c.args.field c.in-Ok.copy.items _ _ c.put_entry.result c.put_entry.ensures.done c.put_entry.ensures.kept c.fails.new.self.tables_are
      c.put_entry.ensures.named (subst IsNumbered (sym c.in-Ok.ensures.items) c.requires.numbered);
}
