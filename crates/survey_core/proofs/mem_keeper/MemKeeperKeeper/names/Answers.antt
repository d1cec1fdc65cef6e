use Rattle.std.proofs.Common.{◌≡◌, List, [], ◌∷◌, ℕ, map, ap, ap₂, refl, ◌∙◌}
use Rattle.std.proofs.lemmas.List.{take_all}
use Rattle.survey_core.specs.declared.mem_keeper.Entry.{Entry}
use Rattle.survey_core.specs.Tables.{names_of}
use Rattle.survey_core.specs.Mem.{tables_kept}
use Rattle.survey_core.proofs.mem_keeper.MemKeeperKeeper.names.Goals as goal

fields_are : (es : List Entry) → map (λ (e : Entry). e.field) es ≡ names_of (tables_kept es)
fields_are [] = refl
fields_are (e ∷ es) = ap₂ ◌∷◌ refl (fields_are es)

pub returns-clause-names : goal.returns-clause-names
returns-clause-names c =
    let fields : List Entry → List (List ℕ) = map (λ (e : Entry). e.field) in
    c.loop-entry.invariant ∙ ap fields
    (take_all c.loop-entry.entry-index _ c.loop-entry-test.false ∙ c.deref-entry-items.ensures.value ∙ ap (λ v. v.items) c.fails.ensures.same)
    ∙ fields_are c.args.self.now.entries.items
