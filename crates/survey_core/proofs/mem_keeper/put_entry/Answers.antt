use Rattle.std.proofs.Common.{length, get_or, refl, ap, subst, ◌∙◌, arith, length-set}
use lib.ListN.{set}
use Rattle.std.proofs.lemmas.List.{with_items_is}
use Rattle.survey_core.specs.declared.mem_keeper.Entry.{Entry}
use Rattle.survey_core.specs.Places.{IsPlace}
use Rattle.survey_core.specs.Mem.{tables_kept}
use Rattle.survey_core.proofs.PlaceLemmas.{put_found, put_new}
use Rattle.survey_core.proofs.mem_keeper.put_entry.Goals.{in-Ok, in-Err}
use Rattle.survey_core.proofs.mem_keeper.put_entry.Goals as goal

pub returns-then-found-clause-done : goal.returns-then-found-clause-done
returns-then-found-clause-done c =
    let items = c.args.entries.now.items in
    let place = c.place-at.result.0 in
    let at =
    subst (IsPlace items c.args.field place) c.if-found.true
    (subst (λ es. IsPlace es c.args.field place c.place-at.result.1) c.as_slice.ensures.value c.place-at.ensures.place) in
    let d : Entry = record { field = c.args.field; cells = c.args.cells } in
    let is = c.set_cells.ensures d in
    let len =
    ap length is ∙ length-set c.deref_mut.result.now place (record (get_or c.deref_mut.result.now place d) { cells = c.args.cells })
    ∙ c.deref_mut.ensures.len in
    ap tables_kept (with_items_is c.args.entries.now c.set_cells.new.entries len)
    ∙ ap tables_kept (is ∙ ap (λ xs. set xs place (record (get_or xs place d) { cells = c.args.cells })) c.deref_mut.ensures.value)
    ∙ put_found items c.args.field c.args.cells.items place (record (get_or items place d) { cells = c.args.cells }) d at refl refl

pub insert-requires : goal.insert-requires
insert-requires c = omega (arith, c.place-at.ensures.place.inside, c.as_slice.ensures.len)

pub returns-clause-done : goal.returns-clause-done
returns-clause-done c =
    let items = c.args.entries.now.items in
    let place = c.place-at.result.0 in
    let at =
    subst (IsPlace items c.args.field place) c.if-found.false
    (subst (λ es. IsPlace es c.args.field place c.place-at.result.1) c.as_slice.ensures.value c.place-at.ensures.place) in
    let x : Entry = record { field = c.args.field; cells = c.args.cells } in
    elim c.match-insert.branch [
      | in-Ok w ↦ rw w.result-is (ap tables_kept w.in-Ok.ensures.items ∙ put_new items place x at)
      | in-Err w ↦ rw w.result-is tt
    ]
