-- Lists of tables in the order of their fields.
use Rattle.std.proofs.Common.{◌≡◌, ◌≢◌, ◌⊎◌, inl, inr, ℕ, ℤ, Bool, true, not, List, [], ◌∷◌, filter, Some, None, refl, sym, ap, ap₂, subst, ◌∙◌}
use Rattle.std.proofs.Common.{arith, Ordering, Less, Equal, Greater, nat_cmp, is_eq, Result, Ok, Err, OnOk, OnErr}
use Rattle.std.specs.List.{AllByRecursion}
use Rattle.std.specs.Ordering.{ordering_reverse, ordering_then, match_ordering}
use Rattle.std.proofs.lemmas.Cmp.{tied_itself, nat_list_cmp_total}
use Rattle.std.proofs.lemmas.Bool.{cases_Bool}
use Rattle.std.proofs.lemmas.Bool.Decides.{nat_tests}
use Rattle.survey_core.specs.Fields.{name_cmp, is_name}
use Rattle.survey_core.specs.Tables.{Table, IsFieldTable, IsNumbered, AreTables, AreInOrder, cells_of_field, put, without_field}

-- one of them is this
abbrev pub Among : {X : Type 0} → List X → X → Type 0
Among [] x = ⊥
Among (y ∷ ys) x = (x ≡ y) ⊎ Among ys x

-- ---- names

pub then_equal : (o p : Ordering) → ordering_then o p ≡ Equal → (o ≡ Equal) × (p ≡ Equal)
then_equal Less p h = absurd (cc)
then_equal Equal p h = (refl, h)
then_equal Greater p h = absurd (cc)

pub same_name : (a b : List ℕ) → name_cmp a b ≡ Equal → a ≡ b
same_name [] [] h = refl
same_name [] (y ∷ b) h = absurd (cc)
same_name (x ∷ a) [] h = absurd (cc)
same_name (x ∷ a) (y ∷ b) h =
    let both = then_equal (nat_cmp x y) (name_cmp a b) h in
    let first : x ≡ y = let e = both.0 in grind (arith, nat_tests) in
    ap₂ ◌∷◌ first (same_name a b both.1)

pub name_turned : (a b : List ℕ) → is_eq (name_cmp a b) ≡ is_eq (name_cmp b a)
name_turned a b = ap is_eq (nat_list_cmp_total.antisymm a b) ∙ by (name_cmp b a)
  where
    by : (o : Ordering) → is_eq (ordering_reverse o) ≡ is_eq o
    by Less = refl
    by Equal = refl
    by Greater = refl

pub name_itself : (a : List ℕ) → name_cmp a a ≡ Equal
name_itself = tied_itself nat_list_cmp_total

pub before_trans : (a b c : List ℕ) → name_cmp a b ≡ Less → name_cmp b c ≡ Less → name_cmp a c ≡ Less
before_trans = nat_list_cmp_total.trans

pub after_is : (a b : List ℕ) → name_cmp a b ≡ Greater → name_cmp b a ≡ Less
after_is a b h = nat_list_cmp_total.antisymm b a ∙ ap ordering_reverse h

pub never_before : (a b : List ℕ) → a ≡ b → name_cmp a b ≡ Less → ⊥
never_before a b e h = let itself = name_itself b in let less : name_cmp b b ≡ Less = subst (λ x. name_cmp x b ≡ Less) e h in let bad : Less
    ≡ Equal = sym less ∙ itself in cc

pub never_both : (a b : List ℕ) → name_cmp a b ≡ Less → name_cmp b a ≡ Less → ⊥
never_both a b p q = never_before a a refl (before_trans a b a p q)

-- ---- lists

pub all_among : {X : Type 0} (P : X → Type 0) (xs : List X) (x : X) → AllByRecursion P xs → Among xs x → P x
all_among P [] x all h = absurd h
all_among P (y ∷ ys) x all (inl e) = subst P (sym e) all.0
all_among P (y ∷ ys) x all (inr h) = all_among P ys x all.1 h

pub all_from : {X : Type 0} (P : X → Type 0) (xs : List X) → ((x : X) → Among xs x → P x) → AllByRecursion P xs
all_from P [] h = tt
all_from P (y ∷ ys) h = (h y (inl refl), all_from P ys (λ x m. h x (inr m)))

pub among_filter : {X : Type 0} (p : X → Bool) (xs : List X) (x : X) → Among (filter p xs) x → Among xs x × (p x ≡ true)
among_filter p [] x h = absurd h
among_filter p (y ∷ ys) x h = elim (cases_Bool (p y)) [
  | inl yes_it ↦ elim (rw yes_it at h) [
    | inl e ↦ (inl e, ap p e ∙ yes_it)
    | inr m ↦ let more = among_filter p ys x m in (inr more.0, more.1)
  ]
  | inr no_it ↦ let more = among_filter p ys x (rw no_it at h) in (inr more.0, more.1)
]

pub filter_among : {X : Type 0} (p : X → Bool) (xs : List X) (x : X) → Among xs x → p x ≡ true → Among (filter p xs) x
filter_among p [] x h t = absurd h
filter_among p (y ∷ ys) x (inl e) t = let here : p y ≡ true = ap p (sym e) ∙ t in rw here (inl e)
filter_among p (y ∷ ys) x (inr m) t = elim (cases_Bool (p y)) [
  | inl yes_it ↦ rw yes_it (inr (filter_among p ys x m t))
  | inr no_it ↦ rw no_it (filter_among p ys x m t)
]

-- ---- tables

pub above_first : (t : Table) (ts : List Table) (u : Table) → AreInOrder (t ∷ ts) → Among ts u → name_cmp t.0 u.0 ≡ Less
above_first t ts u up m = all_among (λ v. name_cmp t.0 v.0 ≡ Less) ts u up.0 m

-- lists in order with the same elements are the same
pub same_tables : (ts us : List Table) → AreInOrder ts → AreInOrder us → ((t : Table) → Among ts t → Among us t) → ((t : Table) → Among us t → Among ts t)
    → ts ≡ us
same_tables [] [] a b to from = refl
same_tables [] (u ∷ us) a b to from = absurd (from u (inl refl))
same_tables (t ∷ ts) [] a b to from = absurd (to t (inl refl))
same_tables (t ∷ ts) (u ∷ us) a b to from = ap₂ ◌∷◌ first (same_tables ts us a.1 b.1 down up)
  where
    first : t ≡ u
    first = elim (to t (inl refl)) [
      | inl e ↦ e
      | inr m ↦ elim (from u (inl refl)) [
        | inl e ↦ sym e
        | inr n ↦ absurd (never_both t.0 u.0 (above_first t ts u a n) (above_first u us t b m))
      ]
    ]

    down : (x : Table) → Among ts x → Among us x
    down x m = elim (to x (inr m)) [
      | inl e ↦ absurd (never_before t.0 x.0 (ap (λ (v : Table). v.0) (first ∙ sym e)) (above_first t ts x a m))
      | inr n ↦ n
    ]

    up : (x : Table) → Among us x → Among ts x
    up x m = elim (from x (inr m)) [
      | inl e ↦ absurd (never_before u.0 x.0 (ap (λ (v : Table). v.0) (sym first ∙ sym e)) (above_first u us x b m))
      | inr n ↦ n
    ]

-- a field stands once
pub same_field : (ts : List Table) (t u : Table) → AreInOrder ts → Among ts t → Among ts u → t.0 ≡ u.0 → t ≡ u
same_field [] t u up m n e = absurd m
same_field (x ∷ ts) t u up (inl p) (inl q) e = p ∙ sym q
same_field (x ∷ ts) t u up (inl p) (inr n) e = absurd (never_before x.0 u.0 (ap (λ (v : Table). v.0) (sym p) ∙ e) (above_first x ts u up n))
same_field (x ∷ ts) t u up (inr m) (inl q) e = absurd (never_before x.0 t.0 (ap (λ (v : Table). v.0) (sym q) ∙ sym e) (above_first x ts t up m))
same_field (x ∷ ts) t u up (inr m) (inr n) e = same_field ts t u up.1 m n e

pub cells_found : (ts : List Table) (t : Table) → AreInOrder ts → Among ts t → cells_of_field t.0 ts ≡ Some t.1
cells_found [] t up m = absurd m
cells_found (x ∷ ts) t up (inl e) = rw (ap (λ (v : Table). v.0) (sym e), name_itself t.0) (ap (λ (v : Table). Some v.1) (sym e))
cells_found (x ∷ ts) t up (inr m) = rw (above_first x ts t up m) (cells_found ts t up.1 m)

pub cells_missing : (ts : List Table) (field : List ℕ) → ((t : Table) → Among ts t → t.0 ≢ field) → cells_of_field field ts ≡ None
cells_missing [] field none = refl
cells_missing (x ∷ ts) field none = go (cells_missing ts field (λ t m. none t (inr m))) (name_cmp x.0 field) refl
  where
    go : cells_of_field field ts ≡ None → (o : Ordering) → name_cmp x.0 field ≡ o → cells_of_field field (x ∷ ts) ≡ None
    go more Less e = rw e more
    go more Equal e = absurd (none x (inl refl) (same_name x.0 field e))
    go more Greater e = rw e more

-- ---- put

module _ (field : List ℕ) (cells : List ℤ) where
  pub put_there : (ts : List Table) → Among (put field cells ts) (field, cells)
  put_there [] = inl refl
  put_there (t ∷ ts) = go (put_there ts) (name_cmp t.0 field)
    where
      go : Among (put field cells ts) (field, cells) → (o : Ordering)
          → Among (match_ordering o (t ∷ put field cells ts) ((field, cells) ∷ ts) ((field, cells) ∷ t ∷ ts)) (field, cells)
      go more Less = inr more
      go more Equal = inl refl
      go more Greater = inl refl

  pub put_keeps : (ts : List Table) (x : Table) → Among ts x → x.0 ≢ field → Among (put field cells ts) x
  put_keeps [] x m other = absurd m
  put_keeps (t ∷ ts) x m other = go (put_keeps ts x) m (name_cmp t.0 field) refl
    where
      go : (Among ts x → x.0 ≢ field → Among (put field cells ts) x) → Among (t ∷ ts) x → (o : Ordering) → name_cmp t.0 field ≡ o
          → Among (match_ordering o (t ∷ put field cells ts) ((field, cells) ∷ ts) ((field, cells) ∷ t ∷ ts)) x
      go more (inl e) Less r = inl e
      go more (inr n) Less r = inr (more n other)
      go more (inl e) Equal r = absurd (other (ap (λ (v : Table). v.0) e ∙ same_name t.0 field r))
      go more (inr n) Equal r = inr n
      go more n Greater r = inr n

  pub put_from : (ts : List Table) (x : Table) → AreInOrder ts → Among (put field cells ts) x → (x ≡ (field, cells)) ⊎ (Among ts x × (x.0 ≢ field))
  put_from [] x up (inl e) = inl e
  put_from [] x up (inr m) = absurd m
  put_from (t ∷ ts) x up m = go (put_from ts x up.1) (name_cmp t.0 field) refl m
    where
      below : name_cmp t.0 field ≡ Less → t.0 ≢ field
      below r e = never_before t.0 field e r

      later : (u : Table) → name_cmp field t.0 ≡ Less → Among (t ∷ ts) u → u.0 ≢ field
      later u r (inl e) same = never_before field t.0 (sym same ∙ ap (λ (v : Table). v.0) e) r
      later u r (inr n) same = never_before field u.0 (sym same) (before_trans field t.0 u.0 r (above_first t ts u up n))

      go : (Among (put field cells ts) x → (x ≡ (field, cells)) ⊎ (Among ts x × (x.0 ≢ field))) → (o : Ordering) → name_cmp t.0 field ≡ o
          → Among (match_ordering o (t ∷ put field cells ts) ((field, cells) ∷ ts) ((field, cells) ∷ t ∷ ts)) x
          → (x ≡ (field, cells)) ⊎ (Among (t ∷ ts) x × (x.0 ≢ field))
      go more Less r (inl e) = inr (inl e, λ same. below r (ap (λ (v : Table). v.0) (sym e) ∙ same))
      go more Less r (inr n) = elim (more n) [ inl e ↦ inl e | inr k ↦ inr (inr k.0, k.1) ]
      go more Equal r (inl e) = inl e
      go more Equal r (inr n) = inr (inr n, λ same. never_before t.0 x.0 (same_name t.0 field r ∙ sym same) (above_first t ts x up n))
      go more Greater r (inl e) = inl e
      go more Greater r (inr n) = inr (n, later x (after_is t.0 field r) n)

  pub all_put : (P : Table → Type 0) (ts : List Table) → P (field, cells) → AllByRecursion P ts → AllByRecursion P (put field cells ts)
  all_put P [] h all = (h, tt)
  all_put P (t ∷ ts) h all = go (all_put P ts h all.1) (name_cmp t.0 field)
    where
      go : AllByRecursion P (put field cells ts) → (o : Ordering)
          → AllByRecursion P (match_ordering o (t ∷ put field cells ts) ((field, cells) ∷ ts) ((field, cells) ∷ t ∷ ts))
      go more Less = (all.0, more)
      go more Equal = (h, all.1)
      go more Greater = (h, all)

  pub order_put : (ts : List Table) → AreInOrder ts → AreInOrder (put field cells ts)
  order_put [] up = (tt, tt)
  order_put (t ∷ ts) up = go (order_put ts up.1) (name_cmp t.0 field) refl
    where
      go : AreInOrder (put field cells ts) → (o : Ordering) → name_cmp t.0 field ≡ o
          → AreInOrder (match_ordering o (t ∷ put field cells ts) ((field, cells) ∷ ts) ((field, cells) ∷ t ∷ ts))
      go more Less r = (all_put (λ u. name_cmp t.0 u.0 ≡ Less) ts r up.0, more)
      go more Equal r = (all_from _ ts (λ u n. subst (λ f. name_cmp f u.0 ≡ Less) (same_name t.0 field r) (above_first t ts u up n)), up.1)
      go more Greater r = let first = after_is t.0 field r in ((first, all_from _ ts (λ u n. before_trans field t.0 u.0 first (above_first t ts u up n))), up)

-- ---- without

pub order_filter : (p : Table → Bool) (ts : List Table) → AreInOrder ts → AreInOrder (filter p ts)
order_filter p [] up = tt
order_filter p (t ∷ ts) up = elim (cases_Bool (p t)) [
  | inl yes_it ↦ rw yes_it (all_from _ (filter p ts) (λ u m. above_first t ts u up (among_filter p ts u m).0), order_filter p ts up.1)
  | inr no_it ↦ rw no_it (order_filter p ts up.1)
]

other_test : (a b : List ℕ) → not (is_eq (name_cmp a b)) ≡ true → a ≢ b
other_test a b h e = let same : name_cmp a b ≡ Equal = subst (λ x. name_cmp a x ≡ Equal) e (name_itself a) in let bad = rw same at h in cc

other_from : (a b : List ℕ) → a ≢ b → not (is_eq (name_cmp a b)) ≡ true
other_from a b other = go (name_cmp a b) refl
  where
    go : (o : Ordering) → name_cmp a b ≡ o → not (is_eq o) ≡ true
    go Less r = refl
    go Equal r = absurd (other (same_name a b r))
    go Greater r = refl

pub without_from : (field : List ℕ) (ts : List Table) (x : Table) → Among (without_field field ts) x → Among ts x × (x.0 ≢ field)
without_from field ts x m = let both = among_filter _ ts x m in (both.0, other_test x.0 field both.1)

pub without_keeps : (field : List ℕ) (ts : List Table) (x : Table) → Among ts x → x.0 ≢ field → Among (without_field field ts) x
without_keeps field ts x m other = filter_among _ ts x m (other_from x.0 field other)

pub order_without : (field : List ℕ) (ts : List Table) → AreInOrder ts → AreInOrder (without_field field ts)
order_without field ts up = order_filter _ ts up

pub all_without : (P : Table → Type 0) (field : List ℕ) (ts : List Table) → AllByRecursion P ts → AllByRecursion P (without_field field ts)
all_without P field ts all = all_from P _ (λ x m. all_among P ts x all (without_from field ts x m).0)

-- ---- tables stay tables

pub put_are : (field : List ℕ) (cells : List ℤ) (ts us : List Table) → us ≡ put field cells ts → AreTables ts → is_name field ≡ true → IsNumbered cells
    → AreTables us
put_are field cells ts us is are named numbered =
    subst AreTables (sym is) (order_put field cells ts are.0, all_put field cells IsFieldTable ts (named, numbered) are.1)

pub without_are : (field : List ℕ) (ts us : List Table) → us ≡ without_field field ts → AreTables ts → AreTables us
without_are field ts us is are = subst AreTables (sym is) (order_without field ts are.0, all_without IsFieldTable field ts are.1)

pub put_are_if : {X E : Type 0} (field : List ℕ) (cells : List ℤ) (ts us : List Table) (r : Result X E) → OnOk r (us ≡ put field cells ts) → OnErr r (us ≡ ts)
    → AreTables ts → is_name field ≡ true → IsNumbered cells → AreTables us
put_are_if field cells ts us (Ok x) done kept are named numbered = put_are field cells ts us done are named numbered
put_are_if field cells ts us (Err e) done kept are named numbered = subst AreTables (sym kept) are

pub cells_put : (field : List ℕ) (cells : List ℤ) (ts : List Table) → AreInOrder ts → cells_of_field field (put field cells ts) ≡ Some cells
cells_put field cells ts up = cells_found (put field cells ts) (field, cells) (order_put field cells ts up) (put_there field cells ts)
