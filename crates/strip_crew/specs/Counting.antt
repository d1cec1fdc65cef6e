-- Model: what the seats of a claims table have claimed, counted. Two lists of strips with the same weight under every test hold
-- the same strips, as often each.
use Rattle.std.specs.Prelude.{◌≡◌, ℕ, ◌+◌, ◌-◌, ◌<◌, ◌==◌, min, cond, Bool, true, false, List, [], ◌∷◌, ◌++◌, length, Option, Some, None}
use Rattle.comp_tree.specs.Counts.{sum_below}
use mathlib.Core.Option.{some}
use lib.ListN.{get_elem?}

-- what a seat has claimed, the strip in its hand, its claims past the end, those that are due, and whether it was joined away
pub record SeatClaims : Type 0 where
  pub claimed : List ℕ
  pub hand : Option ℕ
  pub past : ℕ
  pub due : ℕ
  pub joined : Bool

-- a seat that was not joined away
abbrev pub open_seat : List ℕ → Option ℕ → ℕ → ℕ → SeatClaims
open_seat claimed hand past due = record { claimed = claimed; hand = hand; past = past; due = due; joined = false }

-- a new seat, which owes so many claims past the end
abbrev pub fresh : ℕ → SeatClaims
fresh due = open_seat [] None 0 due

-- a seat that was joined away
abbrev pub spent : SeatClaims
spent = record { claimed = []; hand = None; past = 0; due = 0; joined = true }

-- a seat after each kind of step
abbrev pub after_claim : SeatClaims → ℕ → SeatClaims
after_claim c i = open_seat (c.claimed ++ i ∷ []) (Some i) c.past c.due

abbrev pub after_pass : SeatClaims → SeatClaims
after_pass c = open_seat c.claimed c.hand (c.past + 1) (c.due - 1)

abbrev pub after_give_back : SeatClaims → SeatClaims
after_give_back c = open_seat c.claimed None c.past c.due

abbrev pub after_split : SeatClaims → SeatClaims
after_split c = open_seat c.claimed c.hand c.past (c.due - 1)

abbrev pub after_join : SeatClaims → SeatClaims → SeatClaims
after_join c d = open_seat (c.claimed ++ d.claimed) None (c.past + d.past) (c.due + d.due)

-- what the items weigh together
abbrev pub total_weight : {A : Type 0} → (A → ℕ) → List A → ℕ
total_weight weight [] = 0
total_weight weight (item ∷ items) = weight item + total_weight weight items

abbrev pub weight_of : (ℕ → ℕ) → SeatClaims → ℕ
weight_of h c = total_weight h c.claimed

abbrev pub count_of : SeatClaims → ℕ
count_of c = length c.claimed

abbrev pub past_of : SeatClaims → ℕ
past_of c = c.past

abbrev pub due_of : SeatClaims → ℕ
due_of c = c.due

abbrev pub one_if_some : Option ℕ → ℕ
one_if_some None = 0
one_if_some (Some i) = 1

-- 1 where the seat has a strip in hand
abbrev pub hands_of : SeatClaims → ℕ
hands_of c = one_if_some c.hand

abbrev pub one_if_is : ℕ → Option ℕ → ℕ
one_if_is r None = 0
one_if_is r (Some i) = cond (i == r) 1 0

-- 1 where the seat has the strip r in hand
abbrev pub holds_of : ℕ → SeatClaims → ℕ
holds_of r c = one_if_is r c.hand

-- n strips, k workers, the two words, and the seats
pub record Counts (n k word0 word1 : ℕ) (cs : List SeatClaims) : Type 0 where
  -- the lists of all seats hold each strip below the smaller of word 0 and n once, and no other number
  pub once : (h : ℕ → ℕ) → total_weight (weight_of h) cs ≡ sum_below h (min word0 n)
  -- word 0 is the length of all lists and the number of claims past the end
  pub counted : word0 ≡ total_weight count_of cs + total_weight past_of cs
  -- a strip in hand is the last of its seat's list
  pub last : (j : ℕ) (c : SeatClaims) (i : ℕ) → get_elem? cs j ≡ some c → c.hand ≡ Some i → (before : List ℕ) × (c.claimed ≡ before ++ i ∷ [])
  -- word 1 and the number of strips in hand are the length of all lists
  pub given : word1 + total_weight hands_of cs ≡ total_weight count_of cs
  -- the claims past the end, made and due, are as many as the workers
  pub ends : total_weight due_of cs + total_weight past_of cs ≡ k
  -- a seat that claimed a strip made a claim past the end or has one due
  pub owing : (j : ℕ) (c : SeatClaims) → get_elem? cs j ≡ some c → 0 < length c.claimed → 0 < c.due + c.past
