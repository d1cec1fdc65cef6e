-- Counts of the members of a list that pass a test.
use Rattle.std.proofs.Common.{◌≡◌, ◌+◌, ◌≤◌, Bool, true, false, cond, List, [], ◌∷◌, ◌++◌, length, refl, sym, ap, arith}
use Rattle.std.specs.Prelude.{count_by}
use Rattle.std.specs.List.{All}
use Rattle.std.proofs.lemmas.Bool.{true≢false}
use Rattle.std.proofs.lemmas.List.Elements.{All-head, All-tail}
use Rattle.std.proofs.lemmas.List.Sums.{sum_by-cons, sum_by-append, sum_by-le-sum_by, count_by-le-length}
use Rattle.lemmas.proofs.Exported.{one_if}

module _ {X : Type 0} where
  -- a test that passes more members has a greater count
  pub count-weaker : (f g : X → Bool) (xs : List X) → ((x : X) → f x ≡ true → g x ≡ true) → count_by f xs ≤ count_by g xs
  count-weaker f g xs h = sum_by-le-sum_by (λ x. cond (f x) 1 0) (λ x. cond (g x) 1 0) xs (λ x. go (f x) (g x) (h x))
    where
      go : (a b : Bool) → (a ≡ true → b ≡ true) → cond a 1 0 ≤ cond b 1 0
      go true true k = omega arith
      go true false k = absurd (true≢false (sym (k refl)))
      go false b k = omega arith

  pub count-all : (f : X → Bool) (xs : List X) → All (λ x. f x ≡ true) xs → count_by f xs ≡ length xs
  count-all f [] h = refl
  count-all f (x ∷ xs) h =
      let here : one_if (f x) ≡ 1 = ap one_if (All-head (λ y. f y ≡ true) x xs h) in
      let rest : count_by f xs ≡ length xs = count-all f xs (All-tail (λ y. f y ≡ true) x xs h) in
      let both : count_by f (x ∷ xs) ≡ one_if (f x) + count_by f xs = sum_by-cons (λ y. cond (f y) 1 0) x xs in
      omega arith

  pub count-none : (f : X → Bool) (xs : List X) → All (λ x. f x ≡ false) xs → count_by f xs ≡ 0
  count-none f [] h = refl
  count-none f (x ∷ xs) h =
      let here : one_if (f x) ≡ 0 = ap one_if (All-head (λ y. f y ≡ false) x xs h) in
      let rest : count_by f xs ≡ 0 = count-none f xs (All-tail (λ y. f y ≡ false) x xs h) in
      let both : count_by f (x ∷ xs) ≡ one_if (f x) + count_by f xs = sum_by-cons (λ y. cond (f y) 1 0) x xs in
      omega arith

  pub count-append : (f : X → Bool) (xs ys : List X) → count_by f (xs ++ ys) ≡ count_by f xs + count_by f ys
  count-append f xs ys = sum_by-append (λ y. cond (f y) 1 0) xs ys

  -- where no member from place m on passes, at most m do; and where those before it all pass, at least m do
  pub count_most : (f : X → Bool) (xs ys : List X) → All (λ x. f x ≡ false) ys → count_by f (xs ++ ys) ≤ length xs
  count_most f xs ys h =
      let a : count_by f (xs ++ ys) ≡ count_by f xs + count_by f ys = count-append f xs ys in
      let b : count_by f ys ≡ 0 = count-none f ys h in
      let c : count_by f xs ≤ length xs = count_by-le-length f xs in
      omega arith

  pub count_least : (f : X → Bool) (xs ys : List X) → All (λ x. f x ≡ true) xs → length xs ≤ count_by f (xs ++ ys)
  count_least f xs ys h =
      let a : count_by f (xs ++ ys) ≡ count_by f xs + count_by f ys = count-append f xs ys in
      let b : count_by f xs ≡ length xs = count-all f xs h in
      omega arith
