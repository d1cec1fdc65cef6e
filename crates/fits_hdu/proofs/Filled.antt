-- A card's buffer after it was filled.
use Rattle.std.proofs.Common.{◌≡◌, ℕ, ◌+◌, ◌<◌, inl, inr, Bool, List, length, take, drop, Option, min, sym, ap, subst, ◌∙◌, arith, lit≤, length-drop, take_all}
use Rattle.std.proofs.lemmas.Bool.{cases_lt}
use Rattle.std.proofs.lemmas.List.{take-take, take_min}
use Rattle.std.specs.Str.{bytes_eq}
use Rattle.dev_io.specs.Streams.{Takes, TakesAtMost, Fills}
use Rattle.dev_io.specs.Laws.{Takes-after, TakesAtMost-after}
use Rattle.fits_hdu.specs.Headers.{is_beginning, beginning}
use Rattle.fits_hdu.specs.Reading.{CardRead}

front_is : (xs : List ℕ) (left : Option (List ℕ)) (n : ℕ) (buf : List ℕ) → length buf ≡ 80 → Fills xs left n buf → take n buf ≡ take 80 xs
front_is xs left n buf long fills = fills.front ∙ ap (λ k. take k xs) (fills.count ∙ ap (λ k. min k (length xs)) long) ∙ take_min 80 xs

pub card_read : (bytes : List ℕ) (at : ℕ) (a b : Option (List ℕ)) (n : ℕ) (buf : List ℕ) → Takes bytes a at → length buf ≡ 80 → Fills (drop at bytes) b n buf
    → n ≡ 80 → CardRead bytes at b buf
card_read bytes at a b n buf takes long fills full = record {
  card_is = sym (take_all n buf (omega arith)) ∙ front_is (drop at bytes) b n buf long fills;
  takes = subst (λ k. Takes bytes b (at + k)) full (Takes-after bytes a b at n takes fills.takes);
}

pub filled_cut : (bytes : List ℕ) (at : ℕ) (a b : Option (List ℕ)) (n : ℕ) (buf : List ℕ) → Takes bytes a at → length buf ≡ 80 → Fills (drop at bytes) b n buf
    → n < 80 → (length bytes < at + 80) × Takes bytes b (length bytes)
filled_cut bytes at a b n buf takes long fills short =
    let all : at + n ≡ length bytes = omega (arith, fills.count, length-drop at bytes, long, takes.within) in
    (omega arith, subst (Takes bytes b) all (Takes-after bytes a b at n takes fills.takes))

pub card_cut : (bytes : List ℕ) (at : ℕ) (a b : Option (List ℕ)) (n : ℕ) (buf : List ℕ) → Takes bytes a at → length buf ≡ 80 → Fills (drop at bytes) b n buf
    → (n ≡ 80 → ⊥) → (length bytes < at + 80) × Takes bytes b (length bytes)
card_cut bytes at a b n buf takes long fills other =
    elim (cases_lt n 80) [ inl less ↦ filled_cut bytes at a b n buf takes long fills less | inr more ↦ absurd (other (omega (arith, fills.count, long))) ]

pub card_lost : (bytes : List ℕ) (at : ℕ) (a b : Option (List ℕ)) (buf : List ℕ) → Takes bytes a at → length buf ≡ 80
    → TakesAtMost (drop at bytes) b (length buf) → TakesAtMost bytes b (at + 80)
card_lost bytes at a b buf takes long lost = subst (λ k. TakesAtMost bytes b (at + k)) long (TakesAtMost-after bytes a b at (length buf) takes lost)

-- how an HDU begins shows in the first card
pub beginning_is : (primary : Bool) (xs : List ℕ) (left : Option (List ℕ)) (n : ℕ) (buf : List ℕ) → length buf ≡ 80 → Fills xs left n buf
    → is_beginning primary (take n buf) ≡ is_beginning primary xs
unfolding is_beginning
beginning_is primary xs left n buf long fills =
    ap (λ l. bytes_eq (take 8 l) (beginning primary)) (front_is xs left n buf long fills)
    ∙ ap (λ l. bytes_eq l (beginning primary)) (take-take 8 80 xs (lit≤ tt))
