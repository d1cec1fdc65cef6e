use Rattle.std.proofs.Common.{◌∙◌, List, ℤ, ap, subst}
use Rattle.sqlite.specs.Files.{file_state}
use Rattle.survey_core.specs.Tables.{put}
use Rattle.survey_sqlite.specs.Blobs.{blob_cells}
use Rattle.survey_sqlite.specs.Turns.{TurnedTo}
use Rattle.survey_sqlite.proofs.file_keeper.FileKeeperKeeper.replace.Goals as goal

pub returns-in-Ok-put-clause-turned : goal.returns-in-Ok-put-clause-turned
returns-in-Ok-put-clause-turned c =
    subst (λ (xs : List ℤ). TurnedTo file_state c.args.self.now.conn c.put.new.self.conn (put c.args.field xs))
    (ap blob_cells c.deref.ensures.value ∙ c.in-Ok.ensures.back) c.in-Ok-put.ensures.turned
