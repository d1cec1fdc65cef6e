-- A line of spaces that is written from the left.
use Rattle.std.proofs.Common.{◌≡◌, ℕ, ◌+◌, ◌-◌, ◌≤◌, List, [], ◌∷◌, ◌++◌, length, take, drop, max, refl, sym, ap, ◌∙◌, arith, append_assoc, length-append}
use Rattle.std.specs.Prelude.{codes}
use Rattle.std.proofs.lemmas.List.{take_at, drop_at, length-replicate, drop-replicate, replicate-append-replicate, drop-drop}
use Rattle.fits_card.specs.Written.{spaces, left_justified, written_value}

drop-past : (front : List ℕ) (at k n : ℕ) → length front ≡ at → drop (at + n) (front ++ spaces k) ≡ spaces (k - n)
drop-past front at k n l =
    sym (drop-drop n at (front ++ spaces k)) ∙ ap (drop n) (drop_at front (spaces k) at l) ∙ drop-replicate n k 32

-- bytes that are put behind the front of a line which is filled with spaces
pub put-filled : (line front bytes new : List ℕ) (at k : ℕ) → line ≡ front ++ spaces k → length front ≡ at
    → new ≡ take at line ++ bytes ++ drop (at + length bytes) line → new ≡ (front ++ bytes) ++ spaces (k - length bytes)
put-filled line front bytes new at k e l n =
    n ∙ ap (λ (xs : List ℕ). take at xs ++ bytes ++ drop (at + length bytes) xs) e
    ∙ ap (λ (xs : List ℕ). xs ++ bytes ++ drop (at + length bytes) (front ++ spaces k)) (take_at front (spaces k) at l)
    ∙ ap (λ (xs : List ℕ). (front ++ bytes) ++ xs) (drop-past front at k (length bytes) l)

length-named : (name : List ℕ) → length name ≡ 8 → length (name ++ codes "= ") ≡ 10
length-named name l = length-append name (codes "= ") ∙ ap (λ n. n + 2) l

filled-rest : (name value : List ℕ) → 80 - length name - 2 - length value ≡ 80 - length (name ++ codes "= " ++ value)
filled-rest name value = omega (arith, length-append (name ++ codes "= ") value, length-append name (codes "= "))

pub value-written : (name value first second third : List ℕ) → length name ≡ 8 → first ≡ take 0 (spaces 80) ++ name ++ drop (0 + length name) (spaces 80)
    → second ≡ take 8 first ++ codes "= " ++ drop (8 + 2) first → third ≡ take 10 second ++ value ++ drop (10 + length value) second
    → third ≡ written_value name value
value-written name value first second third l e₁ e₂ e₃ =
    let a : first ≡ name ++ spaces (80 - length name) = put-filled (spaces 80) [] name first 0 80 refl refl e₁ in
    let b : second ≡ (name ++ codes "= ") ++ spaces (80 - length name - 2) = put-filled first name (codes "= ") second 8 (80 - length name) a l e₂ in
    let c : third ≡ ((name ++ codes "= ") ++ value) ++ spaces (80 - length name - 2 - length value) =
    put-filled second (name ++ codes "= ") value third 10 (80 - length name - 2) b (length-named name l) e₃ in
    c ∙ ap (λ n. (name ++ codes "= " ++ value) ++ spaces n) (filled-rest name value)

split-spaces : (n m : ℕ) → m ≤ n → spaces n ≡ spaces m ++ spaces (n - m)
split-spaces n m h = ap spaces (omega arith) ∙ sym (replicate-append-replicate m (n - m) 32)

length-filled : (text : List ℕ) (width : ℕ) → width ≡ max (length text) 8 → length ((39 ∷ text) ++ spaces (8 - length text)) ≡ 1 + width
length-filled text width w = omega (arith, length-append (39 ∷ text) (spaces (8 - length text)), length-replicate {A = ℕ} (8 - length text) 32)

-- a text between its quotes, in a line of 70 spaces
pub text-between : (text first second third : List ℕ) (width : ℕ) → length text ≤ 68 → width ≡ max (length text) 8
    → first ≡ take 0 (spaces 70) ++ (39 ∷ []) ++ drop (0 + 1) (spaces 70) → second ≡ take 1 first ++ text ++ drop (1 + length text) first
    → third ≡ take (1 + width) second ++ (39 ∷ []) ++ drop (1 + width + 1) second → take (2 + width) third ≡ (39 ∷ left_justified 8 text) ++ (39 ∷ [])
text-between text first second third width short w e₁ e₂ e₃ =
    let a : first ≡ (39 ∷ []) ++ spaces 69 = put-filled (spaces 70) [] (39 ∷ []) first 0 70 refl refl e₁ in
    let b : second ≡ (39 ∷ text) ++ spaces (69 - length text) = put-filled first (39 ∷ []) text second 1 69 a refl e₂ in
    let front : List ℕ = (39 ∷ text) ++ spaces (8 - length text) in
    let rest : ℕ = 69 - length text - (8 - length text) in
    let b' : second ≡ front ++ spaces rest =
    b ∙ ap (λ xs. (39 ∷ text) ++ xs) (split-spaces (69 - length text) (8 - length text) (omega arith))
    ∙ sym (append_assoc (39 ∷ text) (spaces (8 - length text)) (spaces rest)) in
    let l : length front ≡ 1 + width = length-filled text width w in
    let d : third ≡ (front ++ (39 ∷ [])) ++ spaces (rest - 1) = put-filled second front (39 ∷ []) third (1 + width) rest b' l e₃ in
    let n : length (front ++ (39 ∷ [])) ≡ 2 + width = omega (arith, length-append front (39 ∷ []), l) in
    ap (take (2 + width)) d ∙ take_at (front ++ (39 ∷ [])) (spaces (rest - 1)) (2 + width) n
