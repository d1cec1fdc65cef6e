-- A strip that a seat lists is in no other seat's hand.
use Rattle.std.proofs.Common.{◌≡◌, ℕ, ◌<◌, ◌≢◌, List, [], ◌∷◌, map, get_or, sym, refl, ap, ◌∙◌, arith, Option, Some, None, min}
use mathlib.Core.Logic.{dite}
use native.Mathlib.Decide.{ℕ_discrete}
use mathlib.Core.Option.{some, some-injective}
use lib.ListN.{get_elem?}
use Rattle.atomic_table.proofs.Lists.{at_map}
use Rattle.strip_crew.specs.Run.{strips}
use Rattle.strip_crew.specs.Counting.{SeatClaims, total_weight, weight_of, holds_of, one_if_is, Counts}
use Rattle.strip_crew.specs.Claims.{claim_of, ListedLaw}
use Rattle.strip_crew.proofs.Lists.{total_append, total_none, term_le, terms_le, only, only_same, only_other, below_only}
use Rattle.strip_crew.proofs.Counting.{inside}

-- what stands in a list has weight in it
weighs : (l : List ℕ) (place i : ℕ) → get_elem? l place ≡ some i → 0 < total_weight (only i) l
weighs l place i at = omega (arith, term_le (only i) l place i at, only_same i)

module _ (n k w0 w1 : ℕ) (cs : List SeatClaims) (o : Counts n k w0 w1 cs) (j : ℕ) (c : SeatClaims) (i : ℕ) (at : get_elem? cs j ≡ some c)
    (has : 0 < total_weight (only i) c.claimed)
    (free : c.hand ≢ Some i) where
  not_held : (l : ℕ) (d : SeatClaims) → get_elem? cs l ≡ some d → d.hand ≡ Some i → ⊥
  not_held l d found held = dite (ℕ_discrete l j)
      (λ same. free (ap (λ (x : SeatClaims). x.hand) (some-injective c d (sym at ∙ (ap (get_elem? cs) (sym same) ∙ found))) ∙ held))
      (λ ne.
      let t = o.last l d i found held in
      omega (
        arith,
        terms_le (weight_of (only i)) cs j l c d ne at found,
        o.once (only i),
        (below_only i (min w0 n)).0,
        ap (total_weight (only i)) t.1,
        total_append (only i) t.0 (i ∷ []),
        only_same i,
      ))

  weightless : (l : ℕ) (d : SeatClaims) → get_elem? cs l ≡ some d → (h : Option ℕ) → d.hand ≡ h → one_if_is i h ≡ 0
  weightless l d found None is = refl
  weightless l d found (Some x) is = dite (ℕ_discrete x i)
      (λ same. absurd (not_held l d found (is ∙ ap (λ (y : ℕ). Some y) same)))
      (λ ne. only_other i x ne)

  pub in_no_hand : total_weight (holds_of i) cs ≡ 0
  in_no_hand = total_none (holds_of i) cs (λ l d found. weightless l d found d.hand refl)

pub listed : ListedLaw
listed run s j v place i o at lists free =
    let n : ℕ = strips run in let k : ℕ = run.workers in let w0 : ℕ = get_or s.words 0 0 in let w1 : ℕ = get_or s.words 1 0 in let cs : List SeatClaims =
    map claim_of s.views in let c : SeatClaims = v.claim in
    let there : get_elem? cs j ≡ some c = at_map claim_of s.views j v at in
    let has : 0 < total_weight (only i) c.claimed = weighs c.claimed place i lists in
    let near = inside n k w0 w1 cs o.counts j c i there has in
    o.done i near.0 near.1 (in_no_hand n k w0 w1 cs o.counts j c i there has free)
