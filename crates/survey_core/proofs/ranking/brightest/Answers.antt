use Rattle.std.proofs.Common.{◌≡◌, ◌∙◌, List, ℕ, ap, refl, subst, map}
use Rattle.std.specs.List.{concat}
use Rattle.std.specs.Io.KnownBytes.{Appends}
use Rattle.dev_io.specs.Streams.{AppendsPrefix}
use Rattle.survey_core.specs.declared.words.Command.TheVariants.{Brightest}
use Rattle.survey_core.specs.Tables.{Table}
use Rattle.survey_core.specs.declared.ranking.Row.{Row}
use Rattle.survey_core.specs.Ranking.{brightest_lines, row_line, ranked, all_rows}
use Rattle.survey_core.proofs.Keeping.{at_some, stays_at}
use Rattle.survey_core.proofs.Printing.{printed, cut_short, not_done}
use Rattle.survey_core.proofs.ranking.brightest.Goals as goal

lines_are : (ts : List Table) (k : ℕ) (got items : List Row) → got ≡ items → items ≡ ranked (all_rows ts) k → concat (map row_line got) ≡ brightest_lines ts k
unfolding brightest_lines
lines_are ts k got items same are = ap (λ l. concat (map row_line l)) (same ∙ are)

pub returns-in-Ok-done-clause-told : goal.returns-in-Ok-done-clause-told
returns-in-Ok-done-clause-told g c = λ bytes ts told.
    let lines = lines_are ts c.args.most _ _ c.deref.ensures.value (at_some _ ts _ told c.in-Ok.ensures.told) in
    printed bytes (brightest_lines ts c.args.most) ts _ _ _ _ (stays_at _ _ ts c.in-Ok.ensures.kept told)
    (subst (λ (l : List ℕ). Appends (g.O.Sink.written c.args.output.now)
    (g.O.Sink.written c.put_rows.new.sink) l) lines c.in_default.ensures.bytes) c.in-Ok-done.ensures.bytes

pub returns-in-Err-put_rows-clause-told : goal.returns-in-Err-put_rows-clause-told
returns-in-Err-put_rows-clause-told g c = λ bytes ts told.
    let lines = lines_are ts c.args.most _ _ c.deref.ensures.value (at_some _ ts _ told c.in-Ok.ensures.told) in
    cut_short bytes (brightest_lines ts c.args.most) ts _ (Brightest c.args.most) _ _ refl (stays_at _ _ ts c.in-Ok.ensures.kept told)
    (subst (λ (l : List ℕ). AppendsPrefix (g.O.Sink.written c.args.output.now) (g.O.Sink.written c.put_rows.new.sink) l) lines c.in-Err-put_rows.ensures.bytes)

pub returns-clause-told : goal.returns-clause-told
returns-clause-told g c = λ bytes ts told.
    let lines = lines_are ts c.args.most _ _ c.deref.ensures.value (at_some _ ts _ told c.in-Ok.ensures.told) in
    not_done bytes (brightest_lines ts c.args.most) ts _ (Brightest c.args.most) _ _ _ refl (stays_at _ _ ts c.in-Ok.ensures.kept told)
    (subst (λ (l : List ℕ). Appends (g.O.Sink.written c.args.output.now)
    (g.O.Sink.written c.put_rows.new.sink) l) lines c.in_default.ensures.bytes) c.in-Err-done.ensures.bytes
