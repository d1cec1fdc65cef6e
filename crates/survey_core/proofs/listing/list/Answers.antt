use Rattle.std.proofs.Common.{◌≡◌, ◌∙◌, List, ℕ, ap, refl, subst, map}
use Rattle.std.specs.List.{concat}
use Rattle.std.specs.Io.KnownBytes.{Appends}
use Rattle.dev_io.specs.Streams.{AppendsPrefix}
use Rattle.survey_core.specs.declared.words.Command.TheVariants.{List as Listing}
use Rattle.survey_core.specs.Tables.{Table}
use Rattle.survey_core.specs.declared.listing.Summary.{Summary}
use Rattle.survey_core.specs.Listings.{list_lines, summary_line, table_summary}
use Rattle.survey_core.proofs.Keeping.{at_some, stays_at}
use Rattle.survey_core.proofs.Printing.{printed, cut_short, not_done}
use Rattle.survey_core.proofs.listing.list.Goals as goal

lines_are : (ts : List Table) (got items : List Summary) → got ≡ items → items ≡ map table_summary ts → concat (map summary_line got) ≡ list_lines ts
unfolding list_lines
lines_are ts got items same are = ap (λ l. concat (map summary_line l)) (same ∙ are)

pub returns-in-Ok-done-clause-told : goal.returns-in-Ok-done-clause-told
returns-in-Ok-done-clause-told g c = λ bytes ts told.
    let lines = lines_are ts _ _ c.deref.ensures.value (at_some _ ts _ told c.in-Ok.ensures.told) in
    printed bytes (list_lines ts) ts _ _ _ _ (stays_at _ _ ts c.in-Ok.ensures.kept told)
    (subst (λ (l : List ℕ). Appends (g.O.Sink.written c.args.output.now)
    (g.O.Sink.written c.put_summaries.new.sink) l) lines c.in_default.ensures.bytes) c.in-Ok-done.ensures.bytes

pub returns-in-Err-put_summaries-clause-told : goal.returns-in-Err-put_summaries-clause-told
returns-in-Err-put_summaries-clause-told g c = λ bytes ts told.
    let lines = lines_are ts _ _ c.deref.ensures.value (at_some _ ts _ told c.in-Ok.ensures.told) in
    cut_short bytes (list_lines ts) ts _ Listing _ _ refl (stays_at _ _ ts c.in-Ok.ensures.kept told)
    (subst (λ (l : List ℕ). AppendsPrefix (g.O.Sink.written c.args.output.now)
    (g.O.Sink.written c.put_summaries.new.sink) l) lines c.in-Err-put_summaries.ensures.bytes)

pub returns-clause-told : goal.returns-clause-told
returns-clause-told g c = λ bytes ts told.
    let lines = lines_are ts _ _ c.deref.ensures.value (at_some _ ts _ told c.in-Ok.ensures.told) in
    not_done bytes (list_lines ts) ts _ Listing _ _ _ refl (stays_at _ _ ts c.in-Ok.ensures.kept told)
    (subst (λ (l : List ℕ). Appends (g.O.Sink.written c.args.output.now)
    (g.O.Sink.written c.put_summaries.new.sink) l) lines c.in_default.ensures.bytes) c.in-Err-done.ensures.bytes
