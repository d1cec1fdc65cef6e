-- Model: what a call of a keeper does to its tables, where these are told, and what stands behind a fault.
use Rattle.std.specs.Prelude.{ℕ, ◌≡◌, ◌≤◌, List, Option, Some, None, Result, IfErr, ⊤}
use Rattle.dev_io.specs.Causes.{Rose}
use Rattle.survey_core.specs.declared.keeper.Refused.{Refused}
use Rattle.survey_core.specs.declared.keeper.Refused.TheVariants.{Fault}
use Rattle.survey_core.specs.Tables.{Table}

-- told tables become these
abbrev pub Becomes : Option (List Table) → Option (List Table) → (List Table → List Table) → Type 0
Becomes None new change = ⊤
Becomes (Some tables) new change = new ≡ Some (change tables)

-- told tables stay
abbrev pub Stays : Option (List Table) → Option (List Table) → Type 0
Stays old new = Becomes old new (λ tables. tables)

-- the count never falls, and a fault comes only where it rose
pub record HasFault {T : Type 0} (before now : ℕ) (result : Result T Refused) : Type 0 where
  pub later : before ≤ now
  pub rose : IfErr result (λ why. why ≡ Fault → Rose before now)
