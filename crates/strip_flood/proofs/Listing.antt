-- The lists of the queue have the queued pixels, after each kind of step.
use Rattle.std.proofs.Common.{◌≡◌, ℕ, zero, suc, ◌+◌, ◌-◌, ◌<◌, ◌≤◌, List, [], ◌∷◌, ◌++◌, length, set, get_or, Contains, ◌⊎◌, inl, inr, refl, sym, subst, ap}
use Rattle.std.proofs.Common.{◌∙◌, ⊎_elim, arith, get_or-set_same, get_or-set_other}
use Rattle.std.proofs.lemmas.Bool.{cases_eq}
use Rattle.std.proofs.lemmas.List.Elements.{Contains-push, Contains-push_cases, Contains-append_left}
use Rattle.strip_flood.specs.Flood.{Ground, list_at, IsOf, rank_of, IsInQueue, IsListed}
use Rattle.strip_flood.proofs.Flow.{queued_new, queued_old, queued_cases, queued_done}

pub list_new : (lists : List (List ℕ)) (r : ℕ) (l : List ℕ) → r < length lists → list_at (set lists r l) r ≡ l
list_new lists r l lt = get_or-set_same lists r l [] lt

pub list_old : (lists : List (List ℕ)) (r : ℕ) (l : List ℕ) (s : ℕ) → (s ≡ r → ⊥) → list_at (set lists r l) s ≡ list_at lists s
list_old lists r l s ne = get_or-set_other lists r s l [] ne

-- an element of a list whose first is x
pub Contains-first : (xs : List ℕ) (x : ℕ) → Contains (x ∷ xs) x
Contains-first xs x = (0, omega arith, refl)

pub Contains-rest : (xs : List ℕ) (x y : ℕ) → Contains xs y → Contains (x ∷ xs) y
Contains-rest xs x y c = (suc c.0, (let l : c.0 < length xs = c.1 in omega arith), c.2)

pub Contains-cases : (xs : List ℕ) (x y : ℕ) → Contains (x ∷ xs) y → (y ≡ x) ⊎ Contains xs y
Contains-cases xs x y c = at c.0 c.1 c.2 where
  at : (k : ℕ) → k < length (x ∷ xs) → get_or (x ∷ xs) k y ≡ y → (y ≡ x) ⊎ Contains xs y
  at zero l e = inl (sym e)
  at (suc k) l e = inr (k, omega arith, e)

module _ (g : Ground) (lists : List (List ℕ)) (cursors : List ℕ) (long : length cursors ≡ length g.ranks) (p : ℕ) (inside : IsOf g p)
    (listed : IsListed g lists cursors) where
  at_place : g.first + (p - g.first) ≡ p
  at_place = let a : g.first ≤ p = inside.low in omega arith

  place_of : (i : ℕ) → g.first + i ≡ p → i ≡ p - g.first
  place_of i e = omega arith

  pub push_listed : (r : ℕ) → r < length lists → rank_of g p ≡ r
      → IsListed g (set lists r (list_at lists r ++ (p - g.first) ∷ [])) (set cursors (p - g.first) 1)
  push_listed r lt rank = record { to = to; from = from } where
    new : List (List ℕ)
    new = set lists r (list_at lists r ++ (p - g.first) ∷ [])

    To : ℕ → ℕ → Type 0
    To s q = (rank_of g q ≡ s) × IsInQueue g (set cursors (p - g.first) 1) q

    old_to : (s i : ℕ) → Contains (list_at lists s) i → To s (g.first + i)
    old_to s i c = let o : (rank_of g (g.first + i) ≡ s) × IsInQueue g cursors (g.first + i) = listed.to s i c in (
      o.0,
      ⊎_elim
          (λ (e : g.first + i ≡ p). subst (λ q. IsInQueue g (set cursors (p - g.first) 1) q) (sym e)
          (queued_new g cursors long p 1 inside (omega arith) (omega arith)))
          (λ (ne : g.first + i ≡ p → ⊥). queued_old g cursors long p 1 inside (g.first + i) ne o.1)
          (cases_eq (g.first + i) p),
    )

    to : (s i : ℕ) → Contains (list_at new s) i → To s (g.first + i)
    to s i c = ⊎_elim
        (λ (e : s ≡ r). ⊎_elim
        (λ (o : Contains (list_at lists r) i). subst (λ t. To t (g.first + i)) (sym e) (old_to r i o))
        (λ (n : p - g.first ≡ i). let at : p ≡ g.first + i = (let a : g.first + (p - g.first) ≡ p = at_place in omega arith) in
        subst (λ q. To s q) at (rank ∙ sym e, queued_new g cursors long p 1 inside (omega arith) (omega arith)))
        (Contains-push_cases (list_at lists r) (p - g.first) i
        (subst (λ l. Contains l i) (ap (λ t. list_at new t) e ∙ list_new lists r (list_at lists r ++ (p - g.first) ∷ []) lt) c)))
        (λ (ne : s ≡ r → ⊥). old_to s i (subst (λ l. Contains l i) (list_old lists r (list_at lists r ++ (p - g.first) ∷ []) s ne) c))
        (cases_eq s r)

    in_new : (q s : ℕ) → Contains (list_at lists s) (q - g.first) → Contains (list_at new s) (q - g.first)
    in_new q s c = ⊎_elim
        (λ (e : s ≡ r). subst (λ l. Contains l (q - g.first)) (sym (ap (λ t. list_at new t) e ∙ list_new lists r (list_at lists r ++ (p - g.first) ∷ []) lt))
        (Contains-append_left (list_at lists r) ((p - g.first) ∷ []) (q - g.first) (subst (λ t. Contains (list_at lists t) (q - g.first)) e c)))
        (λ (ne : s ≡ r → ⊥). subst (λ l. Contains l (q - g.first)) (sym (list_old lists r (list_at lists r ++ (p - g.first) ∷ []) s ne)) c)
        (cases_eq s r)

    from : (q : ℕ) → IsInQueue g (set cursors (p - g.first) 1) q → Contains (list_at new (rank_of g q)) (q - g.first)
    from q w = ⊎_elim
        (λ (o : (q ≡ p → ⊥) × IsInQueue g cursors q). in_new q (rank_of g q) (listed.from q o.1))
        (λ (e : q ≡ p). subst (λ x. Contains (list_at new (rank_of g x)) (x - g.first)) (sym e)
        (subst (λ s. Contains (list_at new s) (p - g.first)) (sym rank)
        (subst (λ l. Contains l (p - g.first)) (sym (list_new lists r (list_at lists r ++ (p - g.first) ∷ []) lt))
        (Contains-push (list_at lists r) (p - g.first)))))
        (queued_cases g cursors long p 1 inside q w)

  pub look_listed : (v : ℕ) → 0 < v → v < 10 → IsInQueue g cursors p → IsListed g lists (set cursors (p - g.first) v)
  look_listed v low high queued = record { to = to; from = from } where
    to : (s i : ℕ) → Contains (list_at lists s) i → (rank_of g (g.first + i) ≡ s) × IsInQueue g (set cursors (p - g.first) v) (g.first + i)
    to s i c = let o : (rank_of g (g.first + i) ≡ s) × IsInQueue g cursors (g.first + i) = listed.to s i c in (
      o.0,
      ⊎_elim
          (λ (e : g.first + i ≡ p). subst (λ q. IsInQueue g (set cursors (p - g.first) v) q) (sym e) (queued_new g cursors long p v inside low high))
          (λ (ne : g.first + i ≡ p → ⊥). queued_old g cursors long p v inside (g.first + i) ne o.1)
          (cases_eq (g.first + i) p),
    )

    from : (q : ℕ) → IsInQueue g (set cursors (p - g.first) v) q → Contains (list_at lists (rank_of g q)) (q - g.first)
    from q w = ⊎_elim
        (λ (o : (q ≡ p → ⊥) × IsInQueue g cursors q). listed.from q o.1)
        (λ (e : q ≡ p). subst (λ x. Contains (list_at lists (rank_of g x)) (x - g.first)) (sym e) (listed.from p queued))
        (queued_cases g cursors long p v inside q w)

  pub pop_listed : (r : ℕ) (rest : List ℕ) → r < length lists → list_at lists r ≡ (p - g.first) ∷ rest → (Contains rest (p - g.first) → ⊥)
      → IsListed g (set lists r rest) (set cursors (p - g.first) 10)
  pop_listed r rest lt front once = record { to = to; from = from } where
    place : ℕ
    place = p - g.first

    rank : rank_of g p ≡ r
    rank = let o : (rank_of g (g.first + (p - g.first)) ≡ r) × IsInQueue g cursors (g.first + (p - g.first)) =
        listed.to r (p - g.first) (subst (λ l. Contains l (p - g.first)) (sym front) (Contains-first rest (p - g.first))) in
        subst (λ q. rank_of g q ≡ r) at_place o.0

    To : ℕ → ℕ → Type 0
    To s q = (rank_of g q ≡ s) × IsInQueue g (set cursors (p - g.first) 10) q

    old_to : (s i : ℕ) → (i ≡ p - g.first → ⊥) → Contains (list_at lists s) i → To s (g.first + i)
    old_to s i ne c = let o : (rank_of g (g.first + i) ≡ s) × IsInQueue g cursors (g.first + i) = listed.to s i c in
        (o.0, queued_old g cursors long p 10 inside (g.first + i) (λ e. ne (place_of i e)) o.1)

    to : (s i : ℕ) → Contains (list_at (set lists r rest) s) i → To s (g.first + i)
    to s i c = ⊎_elim
        (λ (e : s ≡ r). let there : Contains rest i = subst (λ l. Contains l i) (ap (λ t. list_at (set lists r rest) t) e ∙ list_new lists r rest lt) c in
        old_to s i (λ ei. once (subst (λ j. Contains rest j) ei there))
        (subst (λ t. Contains (list_at lists t) i) (sym e) (subst (λ l. Contains l i) (sym front) (Contains-rest rest (p - g.first) i there))))
        (λ (ne : s ≡ r → ⊥). let there : Contains (list_at lists s) i = subst (λ l. Contains l i) (list_old lists r rest s ne) c in
        old_to s i (λ ei. let o : (rank_of g (g.first + i) ≡ s) × IsInQueue g cursors (g.first + i) = listed.to s i there in
        ne (sym (subst (λ q. rank_of g q ≡ s) (let a : g.first + (p - g.first) ≡ p = at_place in let b : g.first + i ≡ p = omega arith in b) o.0)
        ∙ rank)) there)
        (cases_eq s r)

    from : (q : ℕ) → IsInQueue g (set cursors (p - g.first) 10) q → Contains (list_at (set lists r rest) (rank_of g q)) (q - g.first)
    from q w = let o : (q ≡ p → ⊥) × IsInQueue g cursors q = queued_done g cursors long p 10 inside refl q w in
        let there : Contains (list_at lists (rank_of g q)) (q - g.first) = listed.from q o.1 in
        ⊎_elim
        (λ (e : rank_of g q ≡ r). subst (λ l. Contains l (q - g.first)) (sym (ap (λ t. list_at (set lists r rest) t) e ∙ list_new lists r rest lt))
        (⊎_elim
        (λ (first : q - g.first ≡ p - g.first). absurd (o.0 (let a : g.first ≤ p = inside.low in let b : g.first ≤ q = o.1.inside.low in omega arith)))
        (λ (c : Contains rest (q - g.first)). c)
        (Contains-cases rest (p - g.first) (q - g.first) (subst (λ l. Contains l (q - g.first)) (ap (λ t. list_at lists t) e ∙ front) there))))
        (λ (ne : rank_of g q ≡ r → ⊥). subst (λ l. Contains l (q - g.first)) (sym (list_old lists r rest (rank_of g q) ne)) there)
        (cases_eq (rank_of g q) r)
