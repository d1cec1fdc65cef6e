-- The machine keeps its rule, and claims and gives back each strip at most once.
use Rattle.std.proofs.Common.{◌≡◌, ℕ, zero, suc, ◌+◌, ◌<◌, ◌≢◌, min, List, [], ◌∷◌, ◌++◌, length, replicate, get_or, set, sym, refl, ap, ◌∙◌, subst, arith}
use Rattle.std.proofs.Common.{length-set, get_or-set_same, get_or-set_other, Some, false, true≢false}
use mathlib.Core.Logic.{dite}
use native.Mathlib.Decide.{ℕ_discrete}
use mathlib.Core.Option.{some, some-injective, some-ne-none}
use lib.ListN.{get_elem?}
use Rattle.atomic_table.proofs.Lists.{set_else, at_index}
use Rattle.comp_tree.specs.Counts.{sum_below}
use Rattle.strip_crew.specs.Counting.{SeatClaims, fresh, spent, after_claim, after_pass, after_give_back, after_split, after_join, total_weight, count_of}
use Rattle.strip_crew.specs.Counting.{holds_of, one_if_is, Counts}
use Rattle.strip_crew.specs.Core.{Waiting, Out, Flooded, Core, Event, Claims, Passes, Gives, Splits, Joins, seat_at, start, Needs, after, Leads, KeepsRule}
use Rattle.strip_crew.specs.Core.{is_claim, is_give, Lawful, CoreLaw, IsLastToLeave, CoreEnds}
use Rattle.strip_crew.proofs.Lists.{total_append, total_set, only, only_same, only_other, below_only, below_next}
use Rattle.strip_crew.proofs.Counting.{hand_inside, claims_counts, passes_counts, gives_counts, splits_counts, joins_counts, no_hand, held_by_none, word0_is}
use Rattle.lemmas.proofs.Exported.{or_same}

pub seat_there : (cs : List SeatClaims) (j : ℕ) → (get_or cs j spent).joined ≡ false → get_elem? cs j ≡ some (get_or cs j spent)
seat_there [] j e = absurd (true≢false e)
seat_there (c ∷ cs) zero e = refl
seat_there (c ∷ cs) (suc j) e = seat_there cs j e

pub or_at : {A : Type 0} (l : List A) (j : ℕ) (a d : A) → get_elem? l j ≡ some a → get_or l j d ≡ a
or_at [] j a d e = absurd (some-ne-none a (sym e))
or_at (x ∷ xs) zero a d e = some-injective x a e
or_at (x ∷ xs) (suc j) a d e = or_at xs j a d e

get_replicate : {A : Type 0} (n i : ℕ) (a d : A) → i < n → get_or (replicate n a) i d ≡ a
get_replicate zero i a d h = absurd (omega arith)
get_replicate (suc n) zero a d h = refl
get_replicate (suc n) (suc i) a d h = get_replicate n i a d (omega arith)

length_replicate : {A : Type 0} (n : ℕ) (a : A) → length (replicate n a) ≡ n
length_replicate zero a = refl
length_replicate (suc n) a = omega (arith, length_replicate n a)

pub starts_counts : (n k : ℕ) → Counts n k 0 0 (fresh k ∷ [])
starts_counts n k = record {
  once = λ h. let none : min 0 n ≡ 0 = omega arith in sym (ap (sum_below h) none);
  counted = refl;
  last = λ j c i found is. absurd (no_first j c i found is);
  given = refl;
  ends = omega arith;
  owing = λ j c found some_claimed. absurd (no_list j c found some_claimed);
}
  where
    no_first : (j : ℕ) (c : SeatClaims) (i : ℕ) → get_elem? (fresh k ∷ []) j ≡ some c → c.hand ≡ Some i → ⊥
    no_first zero c i found is = no_hand i (subst (λ (x : SeatClaims). x.hand ≡ Some i) (sym (some-injective (fresh k) c found)) is)
    no_first (suc j) c i found is = some-ne-none c (sym found)

    no_list : (j : ℕ) (c : SeatClaims) → get_elem? (fresh k ∷ []) j ≡ some c → 0 < length c.claimed → ⊥
    no_list zero c found h = let t = some-injective (fresh k) c found in omega (arith, ap count_of t)
    no_list (suc j) c found h = some-ne-none c (sym found)

pub starts_keeps : (n k : ℕ) → KeepsRule n k (start n k)
starts_keeps n k = record {
  counts = starts_counts n k;
  wide = length_replicate n Waiting;
  waiting = λ i z h. get_replicate n i Waiting Out h;
  flooded = λ i h z e. absurd (omega arith);
}

-- what one event adds to the counts of strip i
record Adds (n k i : ℕ) (c : Core) (e : Event) : Type 0 where
  keeps : KeepsRule n k (after c e)
  claimed : is_claim i e + sum_below (only i) (min c.word0 n) ≡ sum_below (only i) (min (after c e).word0 n)
  given : is_give i e + total_weight (holds_of i) (after c e).seats + sum_below (only i) (min c.word0 n)
      ≡ total_weight (holds_of i) c.seats + sum_below (only i) (min (after c e).word0 n)

module _ (n k r : ℕ) (c : Core) (o : KeepsRule n k c) where
  adds : (e : Event) → Needs n c e → Adds n k r c e
  adds (Claims j i) t =
      let s : SeatClaims = seat_at c j in let d : SeatClaims = after_claim s i in
      let at : get_elem? c.seats j ≡ some s = seat_there c.seats j t.0 in
      let w : ℕ = c.word0 in
      let near : w < n = omega (arith, t.3, t.4) in
      let moved : (x : ℕ) → total_weight (holds_of x) (set c.seats j d) ≡ total_weight (holds_of x) c.seats + only x i =
      λ x. omega (arith, total_set (holds_of x) c.seats j s d at, ap (one_if_is x) t.1) in
      let here : min (w + 1) n ≡ min w n + 1 = omega arith in let top : min w n ≡ i = omega (arith, t.3) in
      let more : sum_below (only r) (min (w + 1) n) ≡ sum_below (only r) (min w n) + only r i =
      ap (sum_below (only r)) here ∙ (below_next (only r) (min w n) ∙ ap (λ (x : ℕ). sum_below (only r) (min w n) + only r x) top) in
      record {
        keeps = record {
          counts = subst (λ (x : ℕ). Counts n k (w + 1) c.word1 (set c.seats j (after_claim s x))) (sym t.3)
              (claims_counts n k w c.word1 c.seats o.counts j s at t.1 t.2 near);
          wide = length-set c.strips i Out ∙ o.wide;
          waiting = λ x far in_strips. get_or-set_other c.strips i x Out Out (λ z. omega (arith, t.3)) ∙ o.waiting x (omega arith) in_strips;
          flooded = λ x low in_strips free. dite (ℕ_discrete x i)
              (λ is. absurd (omega (arith, moved x, ap (only x) is, only_same x, ap (λ (y : ℕ). only x y) (sym is))))
              (λ ne. get_or-set_other c.strips i x Out Out (λ z. ne (omega arith)) ∙ o.flooded x (omega (arith, t.3)) in_strips (omega (arith, moved x)));
        };
        claimed = omega (arith, more);
        given = omega (arith, more, moved r);
      }
  adds (Passes j) t =
      let s : SeatClaims = seat_at c j in let d : SeatClaims = after_pass s in
      let at : get_elem? c.seats j ≡ some s = seat_there c.seats j t.0 in
      let w : ℕ = c.word0 in
      let moved : (x : ℕ) → total_weight (holds_of x) (set c.seats j d) ≡ total_weight (holds_of x) c.seats =
      λ x. omega (arith, total_set (holds_of x) c.seats j s d at) in
      let same : sum_below (only r) (min (w + 1) n) ≡ sum_below (only r) (min w n) = let l : min (w + 1) n ≡ min w n =
      omega (arith, t.3) in ap (sum_below (only r)) l in
      record {
        keeps = record {
          counts = passes_counts n k w c.word1 c.seats o.counts j s at t.1 t.2 t.3;
          wide = o.wide;
          waiting = λ x far in_strips. o.waiting x (omega arith) in_strips;
          flooded = λ x low in_strips free. o.flooded x (omega (arith, t.3)) in_strips (omega (arith, moved x));
        };
        claimed = omega (arith, same);
        given = omega (arith, same, moved r);
      }
  adds (Gives j i) t =
      let s : SeatClaims = seat_at c j in let d : SeatClaims = after_give_back s in
      let at : get_elem? c.seats j ≡ some s = seat_there c.seats j t.0 in
      let w : ℕ = c.word0 in
      let mine = hand_inside n k w c.word1 c.seats o.counts j s i at t.1 in
      let moved : (x : ℕ) → total_weight (holds_of x) (set c.seats j d) + only x i ≡ total_weight (holds_of x) c.seats =
      λ x. omega (arith, total_set (holds_of x) c.seats j s d at, ap (one_if_is x) t.1) in
      record {
        keeps = record {
          counts = gives_counts n k w c.word1 c.seats o.counts j s at i t.1;
          wide = length-set c.strips i Flooded ∙ o.wide;
          waiting = λ x far in_strips. get_or-set_other c.strips i x Flooded Out (λ z. omega (arith, mine.0)) ∙ o.waiting x far in_strips;
          flooded = λ x low in_strips free. dite (ℕ_discrete x i)
              (λ is. subst (λ (y : ℕ). get_or (set c.strips i Flooded) y Out ≡ Flooded) (sym is)
              (get_or-set_same c.strips i Flooded Out (omega (arith, o.wide, mine.1))))
              (λ ne. get_or-set_other c.strips i x Flooded Out (λ z. ne (omega arith))
              ∙ o.flooded x low in_strips (omega (arith, moved x, only_other x i (λ z. ne (omega arith)))));
        };
        claimed = omega arith;
        given = omega (arith, moved r);
      }
  adds (Splits j l) t =
      let s : SeatClaims = seat_at c j in let d : SeatClaims = after_split s in let ds : List SeatClaims = set c.seats j d in
      let at : get_elem? c.seats j ≡ some s = seat_there c.seats j t.0 in
      let moved : (x : ℕ) → total_weight (holds_of x) (ds ++ fresh 1 ∷ []) ≡ total_weight (holds_of x) c.seats =
      λ x. omega (arith, total_append (holds_of x) ds (fresh 1 ∷ []), total_set (holds_of x) c.seats j s d at) in
      record {
        keeps = record {
          counts = splits_counts n k c.word0 c.word1 c.seats o.counts j s at t.1 t.2;
          wide = o.wide;
          waiting = o.waiting;
          flooded = λ x low in_strips free. o.flooded x low in_strips (omega (arith, moved x));
        };
        claimed = omega arith;
        given = omega (arith, moved r);
      }
  adds (Joins j l) t =
      let s : SeatClaims = seat_at c j in let b : SeatClaims = seat_at c l in let d : SeatClaims = after_join s b in let ds : List SeatClaims =
      set c.seats j d in
      let at : get_elem? c.seats j ≡ some s = seat_there c.seats j t.1 in
      let apart : l ≢ j = λ z. t.0 (sym z) in
      let there : get_elem? ds l ≡ some b = set_else c.seats j l d apart ∙ seat_there c.seats l t.2 in
      let moved : (x : ℕ) → total_weight (holds_of x) (set ds l spent) ≡ total_weight (holds_of x) c.seats =
      λ x. omega (arith, total_set (holds_of x) c.seats j s d at, total_set (holds_of x) ds l b spent there, ap (one_if_is x) t.3, ap (one_if_is x) t.4) in
      record {
        keeps = record {
          counts = joins_counts n k c.word0 c.word1 c.seats o.counts j s at l b there apart t.3 t.4;
          wide = o.wide;
          waiting = o.waiting;
          flooded = λ x low in_strips free. o.flooded x low in_strips (omega (arith, moved x));
        };
        claimed = omega arith;
        given = omega (arith, moved r);
      }

-- what a list of events adds
record AddsAll (n k i : ℕ) (c : Core) (es : List Event) (d : Core) : Type 0 where
  keeps : KeepsRule n k d
  claimed : total_weight (is_claim i) es + sum_below (only i) (min c.word0 n) ≡ sum_below (only i) (min d.word0 n)
  given : total_weight (is_give i) es + total_weight (holds_of i) d.seats + sum_below (only i) (min c.word0 n)
      ≡ total_weight (holds_of i) c.seats + sum_below (only i) (min d.word0 n)

adds_all : (n k i : ℕ) (c : Core) (es : List Event) (d : Core) → KeepsRule n k c → Leads n c es d → AddsAll n k i c es d
adds_all n k i c [] d o t = subst (AddsAll n k i c []) t (record { keeps = o; claimed = omega arith; given = omega arith })
adds_all n k i c (e ∷ es) d o t =
    let one = adds n k i c o e t.0 in
    let more = adds_all n k i (after c e) es d one.keeps t.1 in
    record { keeps = more.keeps; claimed = omega (arith, one.claimed, more.claimed); given = omega (arith, one.given, more.given) }

module _ (n k : ℕ) (es : List Event) (c : Core) (t : Leads n (start n k) es c) where
  all_adds : (i : ℕ) → AddsAll n k i (start n k) es c
  all_adds i = adds_all n k i (start n k) es c (starts_keeps n k) t

  none_below : (i : ℕ) → sum_below (only i) (min 0 n) ≡ 0
  none_below i = let z : min 0 n ≡ 0 = omega arith in ap (sum_below (only i)) z

  pub lawful : Lawful n k es c
  lawful = record {
    keeps = (all_adds 0).keeps;
    claimed_once = λ i. omega (arith, (all_adds i).claimed, (below_only i (min c.word0 n)).0);
    given_once = λ i. omega (arith, (all_adds i).given, none_below i, (below_only i (min c.word0 n)).0);
    none_past = λ i far. (let none = (below_only i (min c.word0 n)).1 (omega arith) in
        (omega (arith, (all_adds i).claimed, none), omega (arith, (all_adds i).given, none_below i, none)));
  }

  pub ended : (j : ℕ) → 0 < k → IsLastToLeave k c j → (i : ℕ) → i < n → (total_weight (is_claim i) es ≡ 1) × (total_weight (is_give i) es ≡ 1)
  ended j some_worker is i inside =
      let s : SeatClaims = seat_at c j in let at : get_elem? c.seats j ≡ some s = at_index c.seats j s is.0 refl_or in
      let o = lawful.keeps.counts in
      let far : c.word0 ≡ n + k = word0_is n k c.word0 c.word1 c.seats o j s at is.1 some_worker in
      let free = held_by_none n k c.word0 c.word1 c.seats o j s at is.1 is.2 i in
      let one = (below_only i (min c.word0 n)).2 (omega (arith, far)) in
      (omega (arith, (all_adds i).claimed, none_below i), omega (arith, (all_adds i).given, none_below i))
    where
      refl_or : seat_at c j ≡ get_or c.seats j (seat_at c j)
      refl_or = or_same c.seats j spent (seat_at c j) is.0

pub core_law : CoreLaw
core_law n k es c t = lawful n k es c t

pub core_ends : CoreEnds
core_ends n k es c j some_worker t is = ended n k es c t j some_worker is
