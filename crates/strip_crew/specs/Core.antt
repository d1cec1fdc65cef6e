-- Model: the claims of a run as a machine without threads.
use Rattle.std.specs.Prelude.{◌≡◌, ◌≢◌, ℕ, ◌+◌, ◌<◌, ◌≤◌, ◌==◌, cond, false, List, [], ◌∷◌, ◌++◌, length, replicate, Some, None, slice_set, slice_index_or}
use Rattle.strip_crew.specs.Counting.{SeatClaims, fresh, spent, after_claim, after_pass, after_give_back, after_split, after_join, total_weight, holds_of}
use Rattle.strip_crew.specs.Counting.{Counts}

-- what a strip is: not yet claimed, in a hand, or given back flooded
pub data Status : Type 0 where
  Waiting : Status
  Out : Status
  Flooded : Status

pub record Core : Type 0 where
  pub word0 : ℕ
  pub word1 : ℕ
  pub seats : List SeatClaims
  pub strips : List Status

-- the kinds of step, each with the number of its seat
pub data Event : Type 0 where
  Claims : (seat strip : ℕ) → Event
  Passes : (seat : ℕ) → Event
  Gives : (seat strip : ℕ) → Event
  Splits : (seat other : ℕ) → Event
  Joins : (seat other : ℕ) → Event

-- a seat by its number. One that isn't there can make no step, as one that was joined away
abbrev pub seat_at : Core → ℕ → SeatClaims
seat_at c j = slice_index_or c.seats j spent

-- no seat has claimed a strip, and the one seat owes a claim past the end for each worker
abbrev pub start : ℕ → ℕ → Core
start n k = record { word0 = 0; word1 = 0; seats = fresh k ∷ []; strips = replicate n Waiting }

-- what a step needs, among n strips
abbrev pub Needs : ℕ → Core → Event → Type 0
Needs n c (Claims j i) =
    ((seat_at c j).joined ≡ false) × ((seat_at c j).hand ≡ None) × (0 < (seat_at c j).due) × (i ≡ c.word0) × (i < n)
Needs n c (Passes j) = ((seat_at c j).joined ≡ false) × ((seat_at c j).hand ≡ None) × (0 < (seat_at c j).due) × (n ≤ c.word0)
Needs n c (Gives j i) = ((seat_at c j).joined ≡ false) × ((seat_at c j).hand ≡ Some i)
Needs n c (Splits j o) =
    ((seat_at c j).joined ≡ false) × ((seat_at c j).claimed ≡ []) × (0 < (seat_at c j).due) × (o ≡ length c.seats)
Needs n c (Joins j o) =
    (j ≢ o) × ((seat_at c j).joined ≡ false) × ((seat_at c o).joined ≡ false) × ((seat_at c j).hand ≡ None) × ((seat_at c o).hand ≡ None)

-- what a step makes of the machine
abbrev pub after : Core → Event → Core
after c (Claims j i) =
    record {
      word0 = c.word0 + 1;
      word1 = c.word1;
      seats = slice_set c.seats j (after_claim (seat_at c j) i);
      strips = slice_set c.strips i Out;
    }
after c (Passes j) =
    record {
      word0 = c.word0 + 1;
      word1 = c.word1;
      seats = slice_set c.seats j (after_pass (seat_at c j));
      strips = c.strips;
    }
after c (Gives j i) =
    record {
      word0 = c.word0;
      word1 = c.word1 + 1;
      seats = slice_set c.seats j (after_give_back (seat_at c j));
      strips = slice_set c.strips i Flooded;
    }
after c (Splits j o) =
    record {
      word0 = c.word0;
      word1 = c.word1;
      seats = slice_set c.seats j (after_split (seat_at c j)) ++ fresh 1 ∷ [];
      strips = c.strips;
    }
after c (Joins j o) =
    record {
      word0 = c.word0;
      word1 = c.word1;
      seats = slice_set (slice_set c.seats j (after_join (seat_at c j) (seat_at c o))) o spent;
      strips = c.strips;
    }

-- the machine comes from c to d by these events, each allowed where it stands
abbrev pub Leads : ℕ → Core → List Event → Core → Type 0
Leads n c [] d = c ≡ d
Leads n c (e ∷ es) d = Needs n c e × Leads n (after c e) es d

-- the status of strip i, or none past the end
abbrev pub status_of : Core → ℕ → Status
status_of c i = slice_index_or c.strips i Out

-- the rule of the machine
pub record KeepsRule (n k : ℕ) (c : Core) : Type 0 where
  pub counts : Counts n k c.word0 c.word1 c.seats
  pub wide : length c.strips ≡ n
  -- a strip from word 0 on is waiting
  pub waiting : (i : ℕ) → c.word0 ≤ i → i < n → status_of c i ≡ Waiting
  -- a strip below word 0 that is in no hand is flooded
  pub flooded : (i : ℕ) → i < c.word0 → i < n → total_weight (holds_of i) c.seats ≡ 0 → status_of c i ≡ Flooded

-- 1 where the event is the claim of strip i
abbrev pub is_claim : ℕ → Event → ℕ
is_claim i (Claims j r) = cond (r == i) 1 0
is_claim i (Passes j) = 0
is_claim i (Gives j r) = 0
is_claim i (Splits j o) = 0
is_claim i (Joins j o) = 0

-- 1 where the event is the give-back of strip i
abbrev pub is_give : ℕ → Event → ℕ
is_give i (Claims j r) = 0
is_give i (Passes j) = 0
is_give i (Gives j r) = cond (r == i) 1 0
is_give i (Splits j o) = 0
is_give i (Joins j o) = 0

-- whatever the machine did, its rule holds, and each strip was claimed at most once and given back at most once
pub record Lawful (n k : ℕ) (events : List Event) (c : Core) : Type 0 where
  pub keeps : KeepsRule n k c
  pub claimed_once : (i : ℕ) → total_weight (is_claim i) events ≤ 1
  pub given_once : (i : ℕ) → total_weight (is_give i) events ≤ 1
  -- a number that is no strip was neither claimed nor given back
  pub none_past : (i : ℕ) → n ≤ i → (total_weight (is_claim i) events ≡ 0) × (total_weight (is_give i) events ≡ 0)

-- these words and seats are those of the machine after some events
pub record Reached (n k word0 word1 : ℕ) (cs : List SeatClaims) : Type 0 where
  pub events : List Event
  pub statuses : List Status
  pub leads : Leads n (start n k) events (record { word0 = word0; word1 = word1; seats = cs; strips = statuses })

-- the law of the machine: for every list of events that it allows
abbrev pub CoreLaw : Type 0
CoreLaw = (n k : ℕ) (events : List Event) (c : Core) → Leads n (start n k) events c → Lawful n k events c

-- one seat made all claims past the end and has no strip in hand
abbrev pub IsLastToLeave : ℕ → Core → ℕ → Type 0
IsLastToLeave k c j = (j < length c.seats) × ((seat_at c j).past ≡ k) × ((seat_at c j).hand ≡ None)

-- at the end, each strip was claimed once and given back once
abbrev pub CoreEnds : Type 0
CoreEnds =
    (n k : ℕ) (events : List Event) (c : Core) (j : ℕ) → 0 < k → Leads n (start n k) events c → IsLastToLeave k c j
    → (i : ℕ) → i < n → (total_weight (is_claim i) events ≡ 1) × (total_weight (is_give i) events ≡ 1)

-- these words and seats are those of the machine after some events, among which each strip was claimed once and given back once
pub record HasEachOnce (n k word0 word1 : ℕ) (cs : List SeatClaims) : Type 0 where
  pub reached : Reached n k word0 word1 cs
  pub claimed_once : (i : ℕ) → i < n → total_weight (is_claim i) reached.events ≡ 1
  pub given_once : (i : ℕ) → i < n → total_weight (is_give i) reached.events ≡ 1
