-- Each kind of step keeps the counts.
use Rattle.std.proofs.Common.{◌≡◌, ℕ, ◌+◌, ◌<◌, ◌≤◌, ◌≢◌, min, List, [], ◌∷◌, ◌++◌, length, set, sym, refl, ap, ◌∙◌, subst, ⊎_elim, arith, length-append}
use Rattle.std.proofs.Common.{Option, Some, None}
use mathlib.Core.Logic.{dite}
use native.Mathlib.Decide.{dec_le}
use mathlib.Core.Option.{some}
use lib.ListN.{get_elem?}
use Rattle.atomic_table.proofs.Lists.{at_set, set_else, at_snoc}
use Rattle.comp_tree.specs.Counts.{sum_below}
use Rattle.strip_crew.specs.Counting.{SeatClaims, fresh, spent, after_claim, after_pass, after_give_back, after_split, after_join, total_weight, weight_of}
use Rattle.strip_crew.specs.Counting.{count_of, past_of, due_of, hands_of, holds_of, one_if_some, one_if_is, Counts}
use Rattle.strip_crew.proofs.Lists.{no_items, total_alone, total_same, total_append, total_set, term_le, terms_le, total_one, below_one, below_next, only}
use Rattle.strip_crew.proofs.Lists.{only_same, below_only}

abbrev value_or : Option ℕ → ℕ
value_or None = 0
value_or (Some i) = i

pub hand_is : (a b : ℕ) → Some a ≡ Some b → a ≡ b
hand_is a b e = ap value_or e

pub no_hand : (a : ℕ) → None ≡ Some a → ⊥
no_hand a e = omega (arith, ap one_if_some e)

abbrev pub EndsWith : ℕ → SeatClaims → Type 0
EndsWith r c = (before : List ℕ) × (c.claimed ≡ before ++ r ∷ [])

-- a fact on each seat, after a change of one
each_set : (P : SeatClaims → Type 0) (cs : List SeatClaims) (j : ℕ) (d : SeatClaims) → P d → ((i : ℕ) (e : SeatClaims) → get_elem? cs i ≡ some e → P e)
    → (i : ℕ) (e : SeatClaims) → get_elem? (set cs j d) i ≡ some e → P e
each_set P cs j d here others i e found =
    ⊎_elim (λ (t : (i ≡ j) × (d ≡ e)). subst P t.1 here) (λ (t : (i ≢ j) × (get_elem? cs i ≡ some e)). others i e t.1) (at_set cs j i d e found)

each_snoc : (P : SeatClaims → Type 0) (cs : List SeatClaims) (d : SeatClaims) → P d → ((i : ℕ) (e : SeatClaims) → get_elem? cs i ≡ some e → P e)
    → (i : ℕ) (e : SeatClaims) → get_elem? (cs ++ d ∷ []) i ≡ some e → P e
each_snoc P cs d here others i e found = ⊎_elim (λ (t : get_elem? cs i ≡ some e). others i e t) (λ (t : d ≡ e). subst P t here) (at_snoc cs d e i found)

abbrev Lasts : ℕ → SeatClaims → Type 0
Lasts r c = c.hand ≡ Some r → EndsWith r c

abbrev Owes : SeatClaims → Type 0
Owes c = 0 < length c.claimed → 0 < c.due + c.past

module _ (n k w0 w1 : ℕ) (cs : List SeatClaims) (o : Counts n k w0 w1 cs) where
  -- a strip that a seat has claimed lies below word 0 and is one of the strips
  pub inside : (j : ℕ) (c : SeatClaims) (i : ℕ) → get_elem? cs j ≡ some c → 0 < total_weight (only i) c.claimed → (i < w0) × (i < n)
  inside j c i at has = dite (dec_le (min w0 n) i)
      (λ out. absurd (omega (arith, o.once (only i), term_le (weight_of (only i)) cs j c at, (below_only i (min w0 n)).1 out)))
      (λ near. let near' : i < min w0 n = omega arith in (omega arith, omega arith))

  pub hand_inside : (j : ℕ) (c : SeatClaims) (i : ℕ) → get_elem? cs j ≡ some c → c.hand ≡ Some i → (i < w0) × (i < n)
  hand_inside j c i at is = let t = o.last j c i at is in
      inside j c i at (omega (arith, ap (total_weight (only i)) t.1, total_append (only i) t.0 (i ∷ []), only_same i))

  claimed_in_all : total_weight count_of cs ≡ min w0 n
  claimed_in_all = sym (total_same (weight_of (λ _. 1)) count_of cs (λ u. total_one u.claimed)) ∙ (o.once (λ _. 1) ∙ below_one (min w0 n))

  pub word0_le : w0 ≤ n + k
  word0_le = omega (arith, claimed_in_all, o.counted, o.ends)

  pub word1_le : w1 ≤ n
  word1_le = omega (arith, claimed_in_all, o.given)

  module _ (j : ℕ) (c : SeatClaims) (at : get_elem? cs j ≡ some c) where
    pub claims_counts : c.hand ≡ None → 0 < c.due → w0 < n → Counts n k (w0 + 1) w1 (set cs j (after_claim c w0))
    claims_counts empty due near = let d : SeatClaims = after_claim c w0 in record {
      once = λ h. let more : min (w0 + 1) n ≡ min w0 n + 1 = omega arith in let here : min w0 n ≡ w0 = omega arith in
          omega (
            arith,
            total_set (weight_of h) cs j c d at,
            total_append h c.claimed (w0 ∷ []),
            o.once h,
            ap (sum_below h) more,
            below_next h (min w0 n),
            ap h here,
          );
      counted = omega (arith, o.counted, total_set count_of cs j c d at, total_set past_of cs j c d at, length-append c.claimed (w0 ∷ []));
      last = λ i e r. each_set (Lasts r) cs j d (λ is. (c.claimed, ap (λ (x : ℕ). c.claimed ++ x ∷ []) (hand_is w0 r is)))
          (λ i' e' found is. o.last i' e' r found is) i e;
      given = omega (arith, o.given, total_set count_of cs j c d at, total_set hands_of cs j c d at, length-append c.claimed (w0 ∷ []), ap one_if_some empty);
      ends = omega (arith, o.ends, total_set due_of cs j c d at, total_set past_of cs j c d at);
      owing = each_set Owes cs j d (λ _. omega (arith, due)) o.owing;
    }

    pub passes_counts : c.hand ≡ None → 0 < c.due → n ≤ w0 → Counts n k (w0 + 1) w1 (set cs j (after_pass c))
    passes_counts empty due far = let d : SeatClaims = after_pass c in record {
      once = λ h. let same : min (w0 + 1) n ≡ min w0 n = omega arith in omega (arith, total_set (weight_of h) cs j c d at, o.once h, ap (sum_below h) same);
      counted = omega (arith, o.counted, total_set count_of cs j c d at, total_set past_of cs j c d at);
      last = λ i e r. each_set (Lasts r) cs j d (λ is. o.last j c r at is) (λ i' e' found is. o.last i' e' r found is) i e;
      given = omega (arith, o.given, total_set count_of cs j c d at, total_set hands_of cs j c d at);
      ends = omega (arith, o.ends, due, total_set due_of cs j c d at, total_set past_of cs j c d at);
      owing = each_set Owes cs j d (λ _. omega arith) o.owing;
    }

    pub gives_counts : (i : ℕ) → c.hand ≡ Some i → Counts n k w0 (w1 + 1) (set cs j (after_give_back c))
    gives_counts i has = let d : SeatClaims = after_give_back c in record {
      once = λ h. omega (arith, total_set (weight_of h) cs j c d at, o.once h);
      counted = omega (arith, o.counted, total_set count_of cs j c d at, total_set past_of cs j c d at);
      last = λ x e r. each_set (Lasts r) cs j d (λ is. absurd (no_hand r is)) (λ i' e' found is. o.last i' e' r found is) x e;
      given = omega (arith, o.given, total_set count_of cs j c d at, total_set hands_of cs j c d at, ap one_if_some has);
      ends = omega (arith, o.ends, total_set due_of cs j c d at, total_set past_of cs j c d at);
      owing = each_set Owes cs j d (λ some_claimed. o.owing j c at some_claimed) o.owing;
    }

    pub splits_counts : c.claimed ≡ [] → 0 < c.due → Counts n k w0 w1 (set cs j (after_split c) ++ fresh 1 ∷ [])
    splits_counts empty due = let d : SeatClaims = after_split c in let ds : List SeatClaims = set cs j d in let f : SeatClaims = fresh 1 in record {
      once = λ h. omega (arith, total_append (weight_of h) ds (f ∷ []), total_set (weight_of h) cs j c d at, o.once h);
      counted = omega (
        arith,
        o.counted,
        total_append count_of ds (f ∷ []),
        total_append past_of ds (f ∷ []),
        total_set count_of cs j c d at,
        total_set past_of cs j c d at,
      );
      last = λ i e r. each_snoc (Lasts r) ds f (λ is. absurd (no_hand r is))
          (each_set (Lasts r) cs j d (λ is. o.last j c r at is) (λ i' e' found is. o.last i' e' r found is)) i e;
      given = omega (
        arith,
        o.given,
        total_append count_of ds (f ∷ []),
        total_append hands_of ds (f ∷ []),
        total_set count_of cs j c d at,
        total_set hands_of cs j c d at,
      );
      ends = omega (
        arith,
        o.ends,
        due,
        total_append due_of ds (f ∷ []),
        total_append past_of ds (f ∷ []),
        total_set due_of cs j c d at,
        total_set past_of cs j c d at,
      );
      owing = each_snoc Owes ds f (λ z. absurd (omega arith)) (each_set Owes cs j d (λ z. absurd (omega (arith, ap (λ (l : List ℕ). length l) empty))) o.owing);
    }

    pub joins_counts : (l : ℕ) (b : SeatClaims) → get_elem? (set cs j (after_join c b)) l ≡ some b → l ≢ j → c.hand ≡ None → b.hand ≡ None
        → Counts n k w0 w1 (set (set cs j (after_join c b)) l spent)
    joins_counts l b there apart empty free = let d : SeatClaims = after_join c b in let ds : List SeatClaims = set cs j d in
        let was : get_elem? cs l ≡ some b = sym (set_else cs j l d apart) ∙ there in
        let both : (g : SeatClaims → ℕ) → total_weight g (set ds l spent) + g b + g c ≡ total_weight g cs + g d + g spent =
        λ g. omega (arith, total_set g cs j c d at, total_set g ds l b spent there) in record {
          once = λ h. omega (arith, both (weight_of h), total_append h c.claimed b.claimed, o.once h);
          counted = omega (arith, o.counted, both count_of, both past_of, length-append c.claimed b.claimed);
          last = λ i e r. each_set (Lasts r) ds l spent (λ is. absurd (no_hand r is))
              (each_set (Lasts r) cs j d (λ is. absurd (no_hand r is)) (λ i' e' found is. o.last i' e' r found is)) i e;
          given = omega (arith, o.given, both count_of, both hands_of, length-append c.claimed b.claimed, ap one_if_some empty, ap one_if_some free);
          ends = omega (arith, o.ends, both due_of, both past_of);
          owing = each_set Owes ds l spent (λ z. absurd (omega arith)) (each_set Owes cs j d (λ more. dite (dec_le (length c.claimed) 0)
              (λ none. omega (arith, length-append c.claimed b.claimed, o.owing l b was (omega (arith, length-append c.claimed b.claimed))))
              (λ some_claimed. omega (arith, o.owing j c at (omega arith)))) o.owing);
        }

    module _ (all : c.past ≡ k) where
      others : (i : ℕ) (d : SeatClaims) → i ≢ j → get_elem? cs i ≡ some d → length d.claimed ≡ 0
      others i d ne found = dite (dec_le (length d.claimed) 0) (λ h. omega arith)
          (λ some_claimed.
          absurd (omega (arith, o.owing i d found (omega arith), o.ends, terms_le past_of cs j i c d ne at found, term_le due_of cs i d found)))

      pub nothing : (i : ℕ) (d : SeatClaims) → i ≢ j → get_elem? cs i ≡ some d → d.claimed ≡ []
      nothing i d ne found = no_items d.claimed (others i d ne found)

      no_end : (d : SeatClaims) (r : ℕ) → length d.claimed ≡ 0 → EndsWith r d → ⊥
      no_end d r none t = omega (arith, ap (λ (l : List ℕ). length l) t.1, length-append t.0 (r ∷ []))

      free_hand : (d : SeatClaims) (h : Option ℕ) → d.hand ≡ h → length d.claimed ≡ 0 → ((r : ℕ) → d.hand ≡ Some r → EndsWith r d) → h ≡ None
      free_hand d None is none lasts = refl
      free_hand d (Some r) is none lasts = absurd (no_end d r none (lasts r is))

      pub free_hands : (i : ℕ) (d : SeatClaims) → i ≢ j → get_elem? cs i ≡ some d → d.hand ≡ None
      free_hands i d ne found = free_hand d d.hand refl (others i d ne found) (λ r is. o.last i d r found is)

      pub alone : (h : ℕ → ℕ) → total_weight (weight_of h) cs ≡ total_weight h c.claimed
      alone h = total_alone (weight_of h) cs j c at (λ i d ne found. ap (total_weight h) (nothing i d ne found))

      count_alone : total_weight count_of cs ≡ length c.claimed
      count_alone = total_alone count_of cs j c at (λ i d ne found. others i d ne found)

      past_all : total_weight past_of cs ≡ k
      past_all = omega (arith, o.ends, all, term_le past_of cs j c at)

      whole : 0 < k → length c.claimed ≡ n
      whole some_worker = omega (arith, o.once (λ _. 1), alone (λ _. 1), total_one c.claimed, below_one (min w0 n), o.counted, count_alone, past_all)

      pub word0_is : 0 < k → w0 ≡ n + k
      word0_is some_worker = omega (arith, whole some_worker, o.counted, count_alone, past_all)

      pub each_once : 0 < k → (h : ℕ → ℕ) → total_weight h c.claimed ≡ sum_below h n
      each_once some_worker h = let all_below : min w0 n ≡ n = omega (arith, word0_is some_worker) in sym (alone h) ∙ (o.once h ∙ ap (sum_below h) all_below)

      module _ (empty : c.hand ≡ None) where
        pub word1_is : 0 < k → w1 ≡ n
        word1_is some_worker = omega (
          arith,
          whole some_worker,
          o.given,
          count_alone,
          total_alone hands_of cs j c at (λ i d ne found. ap one_if_some (free_hands i d ne found)),
          ap one_if_some empty,
        )

        pub held_by_none : (r : ℕ) → total_weight (holds_of r) cs ≡ 0
        held_by_none r = total_alone (holds_of r) cs j c at (λ i d ne found. ap (one_if_is r) (free_hands i d ne found)) ∙ ap (one_if_is r) empty
