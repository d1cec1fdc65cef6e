-- Things that are written one behind the other, and taken off one by one.
use Rattle.std.proofs.Common.{◌≡◌, ◌∙◌, false, eqb, length, List, [], ◌∷◌, ◌++◌, flat_map, sym, ap, append_assoc, append-nil, ap₂, length-append, mul-suc, mul-zero, add_comm}
use Rattle.std.proofs.Common.{ℕ, ◌+◌, ◌*◌}
use Rattle.std.specs.List.{AllByRecursion}
use Rattle.std.proofs.lemmas.List.Concat.{flat_map-append}

module _ (X A : Type 0) (write : X → List A) (P : X → Type 0) (some : (x : X) (rest : List A) → write x ++ rest ≡ [] → ⊥)
    (apart : (x y : X) (a b : List A) → P x → P y → write x ++ a ≡ write y ++ b → a ≡ b) where
  -- what is left of some when others that stand in front of it were taken off
  record IsLeft (rest : List A) : Type 0 where
    left : List X
    written : rest ≡ flat_map write left
    all : AllByRecursion P left

  go_on : (xs ys : List X) (rest : List A) → AllByRecursion P xs → AllByRecursion P ys → flat_map write xs ++ rest ≡ flat_map write ys → IsLeft rest
  go_on [] ys rest taken all is = record { left = ys; written = is; all = all }
  go_on (x ∷ xs) [] rest taken all is = absurd (some x (flat_map write xs ++ rest) (sym (append_assoc (write x) (flat_map write xs) rest) ∙ is))
  go_on (x ∷ xs) (y ∷ ys) rest taken all is =
      go_on xs ys rest taken.1 all.1
      (apart x y (flat_map write xs ++ rest) (flat_map write ys) taken.0 all.0 (sym (append_assoc (write x) (flat_map write xs) rest) ∙ is))

  none_left : (rest : List A) → (rest ≡ [] → ⊥) → ((x : X) (behind : List A) → P x → rest ≡ write x ++ behind → ⊥) → IsLeft rest → ⊥
  none_left rest more none is = go is.left is.written is.all
    where
      go : (xs : List X) → rest ≡ flat_map write xs → AllByRecursion P xs → ⊥
      go [] written all = more written
      go (x ∷ xs) written all = none x (flat_map write xs) all.0 written

  -- where none stands in front of what is left, there are none that were written
  pub nothing_else : (xs ys : List X) (rest : List A) → AllByRecursion P xs → AllByRecursion P ys → (rest ≡ [] → ⊥)
      → ((x : X) (behind : List A) → P x → rest ≡ write x ++ behind → ⊥) → flat_map write xs ++ rest ≡ flat_map write ys → ⊥
  nothing_else xs ys rest taken all more none is = none_left rest more none (go_on xs ys rest taken all is)

-- one more was taken off
pub one_more : {X A : Type 0} (write : X → List A) (xs : List X) (x : X) (whole rest behind : List A) → whole ≡ flat_map write xs ++ rest
    → rest ≡ write x ++ behind → whole ≡ flat_map write (xs ++ x ∷ []) ++ behind
one_more write xs x whole rest behind before front =
    before ∙ ap (λ l. flat_map write xs ++ l) front
    ∙ ap (λ l. flat_map write xs ++ (l ++ behind)) (sym (append-nil (write x)))
    ∙ sym (append_assoc (flat_map write xs) (write x ++ []) behind) ∙ ap (λ l. l ++ behind) (sym (flat_map-append write xs (x ∷ [])))

-- all were taken off
pub all_taken : {X A : Type 0} (write : X → List A) (xs : List X) (whole rest : List A) → whole ≡ flat_map write xs ++ rest → rest ≡ []
    → whole ≡ flat_map write xs
all_taken write xs whole rest before none = before ∙ ap (λ l. flat_map write xs ++ l) none ∙ append-nil (flat_map write xs)

-- how many are written of each
pub length_of_all : {X A : Type 0} (write : X → List A) (n : ℕ) (xs : List X) → ((x : X) → length (write x) ≡ n)
    → length (flat_map write xs) ≡ n * length xs
length_of_all write n [] each = sym (mul-zero n)
length_of_all write n (x ∷ xs) each =
    length-append (write x) (flat_map write xs) ∙ ap₂ ◌+◌ (each x) (length_of_all write n xs each) ∙ add_comm n (n * length xs)
    ∙ sym (mul-suc n (length xs))

-- there is more where the test says so
pub more_left : {X : Type 0} (xs : List X) → false ≡ eqb (length xs) 0 → xs ≡ [] → ⊥
more_left [] test is = cc
more_left (x ∷ xs) test is = cc
