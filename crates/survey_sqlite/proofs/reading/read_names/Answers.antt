use Rattle.std.proofs.Common.{rules, ◌≡◌, ◌<◌, [], ◌∷◌, ◌++◌, length, ◌∙◌}
use Rattle.survey_sqlite.specs.Rows.{text_in}
use Rattle.survey_sqlite.proofs.Kept.{more_named}
use Rattle.survey_sqlite.proofs.reading.read_names.Goals as goal

pub loop-row-preserved : goal.loop-row-preserved
loop-row-preserved c =
    let within : c.loop-row.row-index < length c.args.rows.now = search rules in
    let pushed : c.push.new.self.items ≡ c.loop-row.fields.items ++ text_in c.row-item.result ∷ [] = search rules in
    let both =
    more_named c.args.rows.now c.loop-row.row-index c.row-item.result c.loop-row.fields.items within c.row-item.is c.loop-row.invariant
    c.in-Ok.ensures.formed in
    (pushed ∙ both.0, both.1)
