-- The names that rows have.
use Rattle.std.proofs.Common.{◌≡◌, ℕ, ◌+◌, ◌<◌, List, [], ◌∷◌, ◌++◌, All, length, take, get_or, map, refl, sym, ap, ap₂, subst, ◌∙◌}
use Rattle.std.proofs.lemmas.List.{take_more, map_push}
use Rattle.std.proofs.lemmas.List.Elements.{All-push}
use Rattle.sqlite.specs.Order.{Row}
use Rattle.survey_core.specs.Tables.{Table, names_of}
use Rattle.survey_sqlite.specs.Calls.{are_names}
use Rattle.survey_sqlite.specs.Rows.{text_in, IsNameRow}

pub names_read : (tables : List Table) → map text_in (are_names tables) ≡ names_of tables
names_read [] = refl
names_read (t ∷ ts) = ap₂ ◌∷◌ refl (names_read ts)

-- one row more with a name, and the name behind the others
pub more_named : (rows : List Row) (i : ℕ) (row : Row) (names : List (List ℕ)) → i < length rows → row ≡ get_or rows i row
    → (names ≡ map text_in (take i rows)) × All IsNameRow (take i rows) → IsNameRow row
    → (names ++ text_in row ∷ [] ≡ map text_in (take (i + 1) rows)) × All IsNameRow (take (i + 1) rows)
more_named rows i row names lt is both one =
    let same : take (i + 1) rows ≡ take i rows ++ row ∷ [] = take_more rows i row lt ∙ ap (λ r. take i rows ++ r ∷ []) (sym is) in (
      ap (λ n. n ++ text_in row ∷ []) both.0 ∙ sym (map_push text_in (take i rows) row) ∙ ap (map text_in) (sym same),
      subst (All IsNameRow) (sym same) (All-push IsNameRow (take i rows) row both.1 one),
    )
