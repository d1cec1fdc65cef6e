-- Bookkeeping: what a worker, its seat and a crew hold between two steps.
use Rattle.std.specs.Prelude.{◌≡◌, ℕ, ◌+◌, ◌*◌, ◌<◌, min, Bool, true, false, List, [], ◌∷◌, length, Option, None, IsSomeAnd, Result, IfOk}
use mathlib.Core.Option.{some}
use lib.ListN.{get_elem?}
use Rattle.atomic_table.specs.Table.{State}
use Rattle.atomic_table.specs.Seated.{TableId}
use Rattle.atomic_table.specs.declared.shared.Seat.{Seat}
use Rattle.strip_flood.specs.Jobs.{JobView}
use Rattle.strip_crew.specs.Run.{Plan, Run, strips, IsJobOf}
use Rattle.strip_crew.specs.Counting.{open_seat, fresh}
use Rattle.strip_crew.specs.Claims.{view, Seated, HasEnded, Settled, AreReady}
use Rattle.strip_crew.specs.declared.view.View.{View}

-- the seat may claim: it wasn't joined away, has no strip in hand, and owes a claim past the end
abbrev pub MayClaim : View → Type 0
MayClaim v = (v.claim.joined ≡ false) × (v.claim.hand ≡ None) × (0 < v.claim.due)

-- the seat of a worker between two claims: no strip in hand, no slot, and one claim past the end due
abbrev pub IsIdle : Run → Seated → Type 0
IsIdle run m = m ≡ (view (open_seat m.0.claim.claimed None 0 1) run, [])

-- the seat holds slot i alone, of whose job P holds
abbrev pub HoldsSlot : Seated → ℕ → (JobView → Type 0) → Type 0
HoldsSlot m i P = (job : JobView) × (m.1 ≡ (i, job) ∷ []) × P job

-- the new job is the old one, flooded
pub record IsFloodedFrom (old new : JobView) : Type 0 where
  pub flooded : new.flooded ≡ true
  pub width : new.width ≡ old.width
  pub height : new.height ≡ old.height
  pub connect : new.connect ≡ old.connect
  pub first_row : new.first_row ≡ old.first_row
  pub end_row : new.end_row ≡ old.end_row
  pub values : new.values ≡ old.values

-- a job of strip i, flooded or not
abbrev pub IsStripJob : Plan → ℕ → Bool → JobView → Type 0
IsStripJob plan i flooded job = IsJobOf plan i job × (job.flooded ≡ flooded)

-- the jobs of one group of strips, where each group has so many strips, or fewer at the end
abbrev pub AreGroup : Plan → ℕ → ℕ → List JobView → Type 0
AreGroup plan size group = AreReady plan (group * size) (min (group * size + size) (length plan.cut))

-- the jobs of all strips, flooded
pub record AreFlooded (plan : Plan) (jobs : List JobView) : Type 0 where
  pub count : length jobs ≡ length plan.cut
  pub each : (i : ℕ) (job : JobView) → get_elem? jobs i ≡ some job → IsJobOf plan i job × (job.flooded ≡ true)

-- a place with the seat of a worker that hasn't begun, at this table
abbrev pub IsRecruit : TableId → Run → Option (Seat JobView View) → Type 0
IsRecruit table run place = IsSomeAnd place (λ s. (s.table_id ≡ table) × (s.me ≡ (view (fresh 1) run, [])))

-- a place with the seat of a worker that ended
abbrev pub IsVeteran : TableId → Run → Option (Seat JobView View) → Type 0
IsVeteran table run place = IsSomeAnd place (λ s. (s.table_id ≡ table) × HasEnded run s.me)

-- a seat with no strip in hand, that has or took over so many claims past the end
abbrev pub HasPast : TableId → ℕ → Seat JobView View → Type 0
HasPast table past s = (s.table_id ≡ table) × (s.me.1 ≡ []) × (s.me.0.claim.joined ≡ false) × (s.me.0.claim.hand ≡ None) × (s.me.0.claim.past ≡ past)

-- the groups from group g on: each that was made has the jobs of its strips
abbrev pub AreParts : {V E : Type 0} → (V → List JobView) → Plan → ℕ → ℕ → List (Result V E) → Type 0
AreParts items plan size g [] = Unit {0}
AreParts items plan size g (r ∷ rs) =
    IfOk r (λ v. AreGroup plan size g (items v)) × AreParts items plan size (g + 1) rs

-- what a closed table's words and slots show: where all claims past the end were made
pub record HasSettled (run : Run) (words : List ℕ) (jobs : List JobView) : Type 0 where
  pub state : State JobView View
  pub seat : ℕ
  pub seen : View
  pub settled : Settled run state seat seen
  pub words_are : words ≡ (strips run + run.workers) ∷ strips run ∷ []
  pub jobs_are : AreFlooded run.plan jobs
