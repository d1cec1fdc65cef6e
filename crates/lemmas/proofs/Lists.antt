-- Lists: their members and places, lists one behind the other.
use Rattle.std.proofs.Common.{◌≡◌, ◌∙◌, ℕ, ◌+◌, ◌<◌, zero, suc, Bool, List, [], ◌∷◌, ◌++◌, get_or, length, take, drop, refl, ap, sym, inl, inr, arith}
use Rattle.std.proofs.Common.{append-nil, append_assoc, take-append-drop}
use Rattle.std.specs.Prelude.{Contains, Some, slice_get, filter}
use Rattle.std.specs.List.{concat}
use Rattle.std.proofs.lemmas.List.{take_more}
use Rattle.std.proofs.lemmas.List.Folds.{concat-append}
use Rattle.lemmas.proofs.Members.{IsAmong}

-- ---- members

-- two ways to say that a list has a member
pub contains_from_among : {X : Type 0} (x : X) (xs : List X) → IsAmong x xs → Contains xs x
contains_from_among x [] h = absurd h
contains_from_among x (y ∷ xs) (inl e) = (0, omega arith, e)
contains_from_among x (y ∷ xs) (inr h) = let k : Contains xs x = contains_from_among x xs h in (suc k.0, omega arith, k.2)

pub among_at_place : {X : Type 0} (x : X) (xs : List X) (k : ℕ) → k < length xs → get_or xs k x ≡ x → IsAmong x xs
among_at_place x [] k lt e = absurd (omega arith)
among_at_place x (y ∷ xs) zero lt e = inl e
among_at_place x (y ∷ xs) (suc k) lt e = inr (among_at_place x xs k (omega arith) e)

-- and back
pub among_of : {X : Type 0} (x : X) (xs : List X) → Contains xs x → IsAmong x xs
among_of x xs c = among_at_place x xs c.0 c.1 c.2

-- a member stands at a place
pub among_get : {X : Type 0} (x : X) (xs : List X) → IsAmong x xs → (j : ℕ) × (slice_get xs j ≡ Some x)
among_get x [] h = absurd h
among_get x (y ∷ xs) (inl e) = (0, ap Some e)
among_get x (y ∷ xs) (inr h) = let k : (j : ℕ) × (slice_get xs j ≡ Some x) = among_get x xs h in (suc k.0, k.1)

-- a list with a member isn't empty
pub not_empty : (ps : List ℕ) (x : ℕ) → IsAmong x ps → 0 < length ps
not_empty [] x h = absurd h
not_empty (y ∷ ys) x h = omega arith

-- tests that agree on the members leave the same of them
pub filter_same_among : (f g : ℕ → Bool) (ps : List ℕ) → ((q : ℕ) → IsAmong q ps → f q ≡ g q) → filter f ps ≡ filter g ps
filter_same_among f g [] at = refl
filter_same_among f g (p ∷ ps) at =
    let first : f p ≡ g p = at p (inl refl) in
    let rest : filter f ps ≡ filter g ps = filter_same_among f g ps (λ q m. at q (inr m)) in
    rw (first, rest) refl

-- ---- what stands at a place

-- of a place in the list it makes no difference what is read beyond its end
pub or_same : {A : Type 0} (l : List A) (j : ℕ) (d e : A) → j < length l → get_or l j d ≡ get_or l j e
or_same [] j d e h = absurd (omega arith)
or_same (x ∷ xs) zero d e h = refl
or_same (x ∷ xs) (suc j) d e h = or_same xs j d e (omega arith)

-- ---- lists one behind the other

pub concat-more : (xss : List (List ℕ)) (i : ℕ) → i < length xss → concat (take (i + 1) xss) ≡ concat (take i xss) ++ get_or xss i []
concat-more xss i h =
    ap concat (take_more xss i [] h) ∙ concat-append (take i xss) (get_or xss i [] ∷ []) ∙ ap (λ l. concat (take i xss) ++ l) (append-nil (get_or xss i []))

pub concat-split : (xss : List (List ℕ)) (i : ℕ) → i < length xss → concat xss ≡ concat (take i xss) ++ (get_or xss i [] ++ concat (drop (i + 1) xss))
concat-split xss i h =
    ap concat (sym (take-append-drop (i + 1) xss)) ∙ concat-append (take (i + 1) xss) (drop (i + 1) xss)
    ∙ ap (λ l. l ++ concat (drop (i + 1) xss)) (concat-more xss i h) ∙ append_assoc (concat (take i xss)) (get_or xss i []) (concat (drop (i + 1) xss))
