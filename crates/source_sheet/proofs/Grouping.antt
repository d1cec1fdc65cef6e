-- Groups of pixels that are flooded: marks spread, and what is marked stands in a list.
use Rattle.std.proofs.Common.{◌≡◌, ◌∙◌, ℕ, ◌+◌, ◌-◌, ◌*◌, ◌<◌, ◌≤◌, Bool, true, false, List, [], ◌∷◌, ◌++◌, length, refl, sym, ap, subst, arith}
use Rattle.std.proofs.Common.{◌⊎◌, inl, inr, append-nil, append_assoc, length-append, get_or, get_or-set_same, get_or-set_other, length-set, take}
use Rattle.std.specs.Prelude.{IsTrue, All, Contains, Some, slice_get, slice_set, ◌==◌, ℤ, filter}
use Rattle.std.specs.List.{list_any, range_with_len}
use Rattle.std.proofs.lemmas.Bool.{cases_lt, eqb-true, eqb-false, true≢false}
use Rattle.std.proofs.lemmas.List.Elements.{All-nil, All-cons, All-append, All-filter}
use Rattle.std.proofs.lemmas.List.FromFn.{get_or-range_with_len, length-range_with_len}
use Rattle.std.proofs.lemmas.Option.{slice_get_within}
use Rattle.lemmas.proofs.Exported.{IsAmong, among-append_left, among-append_right, among-filter, among-range, among_of, among_get, contains_from_among, any_from_among}
use Rattle.comp_tree.specs.declared.shape.Connect.{Connect}
use Rattle.comp_tree.specs.declared.shape.Shape.{Shape}
use Rattle.comp_tree.specs.Raster.{Raster, pixels, is_at_least}
use Rattle.comp_tree.specs.Grid.{are_neighbours, IsAdjacency}
use Rattle.comp_tree.specs.Joined.{IsPairOf}
use Rattle.comp_tree.specs.Marks.{is_marked}
use Rattle.comp_tree.proofs.Exported.{along_joined, adjacent_ends, adjacent_turned, among_from_defined, defined_from_at_least}
use Rattle.source_sheet.specs.Laid.{HasFewAround}
use Rattle.source_sheet.specs.Groups.{IsSurrounded, HasListed, HasLookedAt, HasLookedAtFirst, HasSpread, IsFlooding, IsFlooded, AreGrouped, HasGrouped, AreGroupedBefore}

-- ---- lists

contains-left : (x : ℕ) (xs ys : List ℕ) → Contains xs x → Contains (xs ++ ys) x
contains-left x xs ys c = contains_from_among x (xs ++ ys) (among-append_left x xs ys (among_of x xs c))

contains-right : (x : ℕ) (xs ys : List ℕ) → Contains ys x → Contains (xs ++ ys) x
contains-right x xs ys c = contains_from_among x (xs ++ ys) (among-append_right x xs ys (among_of x ys c))

contains-one : (x y : ℕ) → y ≡ x → Contains (y ∷ []) x
contains-one x y e = contains_from_among x (y ∷ []) (inl e)

at_cut : (seen rest : List ℕ) (x d : ℕ) → get_or (seen ++ x ∷ rest) (length seen) d ≡ x
at_cut [] rest x d = refl
at_cut (y ∷ seen) rest x d = at_cut seen rest x d

take_front : (front added : List ℕ) → take (length front) (front ++ added) ≡ front
take_front [] added = refl
take_front (x ∷ front) added = ap (λ xs. x ∷ xs) (take_front front added)

-- what was added is taken off again
pub taken_off : (front added items : List ℕ) (n : ℕ) → items ≡ front ++ added → n ≡ length front → take n items ≡ front
taken_off front added items n e f = rw (e, f) (take_front front added)

-- the place between seen pixels and those that wait moves on by one, while others are added
cut-moved : (seen rest added : List ℕ) (x : ℕ) → (seen ++ x ∷ rest) ++ added ≡ (seen ++ x ∷ []) ++ (rest ++ added)
cut-moved seen rest added x = append_assoc seen (x ∷ rest) added ∙ sym (append_assoc seen (x ∷ []) (rest ++ added))

-- ---- marks

mark_kept : (marks : List Bool) (p a : ℕ) → p < length marks → IsTrue (is_marked marks a) → IsTrue (is_marked (slice_set marks p true) a)
mark_kept marks p a below m = go (a == p) refl
  where
    go : (t : Bool) → a == p ≡ t → IsTrue (is_marked (slice_set marks p true) a)
    go true u = subst (λ (x : ℕ). IsTrue (is_marked (slice_set marks p true) x)) (sym (eqb-true a p u)) (get_or-set_same marks p true false below)
    go false u = get_or-set_other marks p a true false (eqb-false a p u) ∙ m

mark_set : (marks : List Bool) (p a : ℕ) → IsTrue (is_marked (slice_set marks p true) a) → IsTrue (is_marked marks a) ⊎ (p ≡ a)
mark_set marks p a m = go (a == p) refl
  where
    go : (t : Bool) → a == p ≡ t → IsTrue (is_marked marks a) ⊎ (p ≡ a)
    go true u = inr (sym (eqb-true a p u))
    go false u = inl (sym (get_or-set_other marks p a true false (eqb-false a p u)) ∙ m)

-- one more mark
listed_one : (r : Raster) (old : List Bool) (front : List ℕ) (p : ℕ) → p < length r.values → length old ≡ length r.values
    → HasListed r old front (slice_set old p true) (front ++ p ∷ [])
listed_one r old front p below each = record {
  one_each = length-set old p true;
  added = p ∷ [];
  items_are = refl;
  below = All-cons (λ a. a < length r.values) p [] below (All-nil (λ a. a < length r.values));
  kept = λ a m. mark_kept old p a (omega (arith, each)) m;
  listed = λ a m. elim (mark_set old p a m) [ inl k ↦ inl k | inr e ↦ inr (contains-one a p e) ];
}

listed_none : (r : Raster) (marks : List Bool) (items : List ℕ) → HasListed r marks items marks items
listed_none r marks items = record {
  one_each = refl;
  added = [];
  items_are = sym (append-nil items);
  below = All-nil (λ a. a < length r.values);
  kept = λ a m. m;
  listed = λ a m. inl m;
}

listed_trans : (r : Raster) (old : List Bool) (front : List ℕ) (mid : List Bool) (most : List ℕ) (new : List Bool) (items : List ℕ)
    → HasListed r old front mid most → HasListed r mid most new items → HasListed r old front new items
listed_trans r old front mid most new items f g = record {
  one_each = g.one_each ∙ f.one_each;
  added = f.added ++ g.added;
  items_are = g.items_are ∙ ap (λ xs. xs ++ g.added) f.items_are ∙ append_assoc front f.added g.added;
  below = All-append (λ a. a < length r.values) f.added g.added f.below g.below;
  kept = λ a m. g.kept a (f.kept a m);
  listed = λ a m. elim (g.listed a m) [
    | inl k ↦ elim (f.listed a k) [ inl l ↦ inl l | inr l ↦ inr (contains-left a f.added g.added l) ]
    | inr k ↦ inr (contains-right a f.added g.added k)
  ];
}

listed_below : (r : Raster) (old : List Bool) (front : List ℕ) (new : List Bool) (items : List ℕ) → HasListed r old front new items
    → All (λ a. a < length r.values) front → All (λ a. a < length r.values) items
listed_below r old front new items f below =
    subst (λ (xs : List ℕ). All (λ a. a < length r.values) xs) (sym f.items_are) (All-append (λ a. a < length r.values) front f.added below f.below)

-- ---- pixels that are looked at

pub first_none : (r : Raster) (h : ℤ) (near : List ℕ) (marks : List Bool) (items : List ℕ) → HasLookedAtFirst r h near 0 marks items marks items
first_none r h near marks items = record { more = listed_none r marks items; marked = λ k b l _ _. absurd (omega arith) }

pub first_more : (r : Raster) (h : ℤ) (near : List ℕ) (count b : ℕ) (old : List Bool) (front : List ℕ) (mid : List Bool) (most : List ℕ) (new : List Bool)
    (items : List ℕ) → HasLookedAtFirst r h near count old front mid most → slice_get near count ≡ Some b → HasLookedAt r h b mid most new items
    → HasLookedAtFirst r h near (count + 1) old front new items
first_more r h near count b old front mid most new items f is g = record {
  more = listed_trans r old front mid most new items f.more g.more;
  marked = λ k c l there high. go k c there high (cases_lt k count) l;
}
  where
    go : (k c : ℕ) → slice_get near k ≡ Some c → IsTrue (is_at_least r h c) → (k < count) ⊎ (count ≤ k) → k < count + 1 → IsTrue (is_marked new c)
    go k c there high (inl m) l = g.more.kept c (f.marked k c m there high)
    go k c there high (inr m) l =
        let e : count ≡ k = omega arith in
        let same : Some b ≡ Some c = sym is ∙ ap (slice_get near) e ∙ there in
        let here : b ≡ c = cc in
        subst (λ (x : ℕ). IsTrue (is_at_least r h x) → IsTrue (is_marked new x)) here g.marked high

-- the neighbours in the grid of a plane's shape are those among the plane's pixels
pub near_is : (r : Raster) (shape : Shape) (connect : Connect) (a : ℕ) (near : List ℕ) → shape ≡ r.shape → length r.values ≡ shape.width * shape.height
    → near ≡ filter (are_neighbours connect shape.width a) (range_with_len 0 (shape.width * shape.height))
    → near ≡ filter (are_neighbours connect r.shape.width a) (pixels r)
unfolding pixels
near_is r shape connect a near same count e = cc

pub near_below : (r : Raster) (connect : Connect) (a : ℕ) (near : List ℕ)
    → near ≡ filter (are_neighbours connect r.shape.width a) (pixels r) → All (λ b. b < length r.values) near
unfolding pixels
near_below r connect a near e =
    rw e (All-filter (are_neighbours connect r.shape.width a) (λ b. b < length r.values) (range_with_len 0 (length r.values)) all_below)
  where
    all_below : All (λ b. b < length r.values) (range_with_len 0 (length r.values))
    all_below k d l =
        let in_range : k < length r.values = omega (arith, length-range_with_len 0 (length r.values)) in
        rw (get_or-range_with_len 0 (length r.values) k d in_range) (omega arith)

-- all neighbours were looked at
pub spread_all : (r : Raster) (connect : Connect) (h : ℤ) (a : ℕ) (near : List ℕ) (old : List Bool) (front : List ℕ) (new : List Bool) (items : List ℕ)
    → near ≡ filter (are_neighbours connect r.shape.width a) (pixels r) → HasLookedAtFirst r h near (length near) old front new items
    → HasSpread r connect h a old front new items
spread_all r connect h a near old front new items e f = record { more = f.more; surrounded = beside }
  where
    beside : IsSurrounded r connect h new a
    beside b high link =
        let among : IsAmong b (filter (are_neighbours connect r.shape.width a) (pixels r)) =
        among-filter (are_neighbours connect r.shape.width a) b (pixels r) (among_from_defined r b (defined_from_at_least r h b high))
        (adjacent_ends r.values r.shape.width connect a b link).2 in
        let place : (k : ℕ) × (slice_get near k ≡ Some b) = among_get b near (subst (λ (xs : List ℕ). IsAmong b xs) (sym e) among) in
        f.marked place.0 b (slice_get_within near place.0 b place.1) place.1 high

-- ---- a flood

surrounded_more : (r : Raster) (connect : Connect) (h : ℤ) (old : List Bool) (front : List ℕ) (new : List Bool) (items : List ℕ) (a : ℕ)
    → HasListed r old front new items → IsSurrounded r connect h old a → IsSurrounded r connect h new a
surrounded_more r connect h old front new items a f s = λ b high link. f.kept b (s b high link)

pub flood_start : (r : Raster) (connect : Connect) (h : ℤ) (p : ℕ) (old : List Bool) (front : List ℕ) (new : List Bool) (items : List ℕ)
    → p < length r.values → length old ≡ length r.values → All (λ a. a < length r.values) front → new ≡ slice_set old p true → items ≡ front ++ p ∷ []
    → IsFlooding r connect h p old front (length front) new items
flood_start r connect h p old front new items below each all e f =
    subst (λ (xs : List Bool). IsFlooding r connect h p old front (length front) xs items) (sym e)
    (subst (λ (ys : List ℕ). IsFlooding r connect h p old front (length front) (slice_set old p true) ys) (sym f) begun)
  where
    one : HasListed r old front (slice_set old p true) (front ++ p ∷ [])
    one = listed_one r old front p below each

    begun : IsFlooding r connect h p old front (length front) (slice_set old p true) (front ++ p ∷ [])
    begun = record {
      more = one;
      begun = get_or-set_same old p true false (omega (arith, each));
      seen = front;
      rest = p ∷ [];
      cut = refl;
      at = refl;
      all_below = listed_below r old front (slice_set old p true) (front ++ p ∷ []) one all;
      surrounded = λ a m. elim (mark_set old p a m) [ inl k ↦ inl k | inr k ↦ inr (inr (contains-one a p k)) ];
    }

pub flood_step : (r : Raster) (connect : Connect) (h : ℤ) (p : ℕ) (old : List Bool) (front : List ℕ) (cursor a : ℕ) (mid : List Bool) (most : List ℕ)
    (new : List Bool) (items : List ℕ) → IsFlooding r connect h p old front cursor mid most → cursor < length most → a ≡ get_or most cursor a
    → HasSpread r connect h a mid most new items → IsFlooding r connect h p old front (cursor + 1) new items
flood_step r connect h p old front cursor a mid most new items f below is s = go f.seen f.rest f.cut f.at f.surrounded
  where
    go : (seen rest : List ℕ) → most ≡ seen ++ rest → length seen ≡ cursor
        → ((b : ℕ) → IsTrue (is_marked mid b) → IsTrue (is_marked old b) ⊎ (IsSurrounded r connect h mid b ⊎ Contains rest b))
        → IsFlooding r connect h p old front (cursor + 1) new items
    go seen [] cut at around = absurd (omega (arith, ap length cut, ap length (append-nil seen)))
    go seen (x ∷ rest) cut at around = record {
      more = listed_trans r old front mid most new items f.more s.more;
      begun = s.more.kept p f.begun;
      seen = seen ++ x ∷ [];
      rest = rest ++ s.more.added;
      cut = s.more.items_are ∙ ap (λ xs. xs ++ s.more.added) cut ∙ cut-moved seen rest s.more.added x;
      at = length-append seen (x ∷ []) ∙ ap (λ n. n + 1) at;
      all_below = listed_below r mid most new items s.more f.all_below;
      surrounded = λ b m. elim (s.more.listed b m) [ inl k ↦ before b (around b k) | inr k ↦ inr (inr (contains-right b rest s.more.added k)) ];
    }
      where
        here : a ≡ x
        here = is ∙ ap (λ xs. get_or xs cursor a) cut ∙ ap (λ k. get_or (seen ++ x ∷ rest) k a) (sym at) ∙ at_cut seen rest x a

        before : (b : ℕ) → IsTrue (is_marked old b) ⊎ (IsSurrounded r connect h mid b ⊎ Contains (x ∷ rest) b)
            → IsTrue (is_marked old b) ⊎ (IsSurrounded r connect h new b ⊎ Contains (rest ++ s.more.added) b)
        before b (inl k) = inl k
        before b (inr (inl k)) = inr (inl (surrounded_more r connect h mid most new items b s.more k))
        before b (inr (inr k)) = elim (among_of b (x ∷ rest) k) [
          | inl e ↦ inr (inl (subst (λ (y : ℕ). IsSurrounded r connect h new y) (here ∙ e) s.surrounded))
          | inr l ↦ inr (inr (contains-left b rest s.more.added (contains_from_among b rest l)))
        ]

-- ---- groups

module _ (r : Raster) (connect : Connect) (h : ℤ) (min_area p : ℕ) (old : List Bool) (front : List ℕ) (new : List Bool) (items : List ℕ)
    (g : AreGrouped r connect h min_area old front) (f : IsFlooded r connect h p old front new items) where
  each : length new ≡ length r.values
  each = f.more.one_each ∙ g.one_each

  closed : (a : ℕ) → IsTrue (is_marked new a) → IsSurrounded r connect h new a
  closed a m = elim (f.surrounded a m) [
    | inl k ↦ surrounded_more r connect h old front new items a f.more (g.closed a k)
    | inr k ↦ k
  ]

  -- a path from a pixel that was marked now leads to such pixels alone: those that were marked before are whole groups
  record IsNew (a : ℕ) : Type 0 where
    pub unmarked : is_marked old a ≡ false
    pub marked : IsTrue (is_marked new a)

  either : (a b : ℕ) → IsPairOf (IsAdjacency r.values r.shape.width connect) a b → IsAdjacency r.values r.shape.width connect a b
  either a b (inl l) = l
  either a b (inr l) = adjacent_turned r.values r.shape.width connect b a l

  new_step : (a b : ℕ) → IsNew a → IsTrue (is_at_least r h a) → IsPairOf (IsAdjacency r.values r.shape.width connect) a b → IsTrue (is_at_least r h b)
      → IsNew b
  new_step a b n high_a pair high_b = record { unmarked = go (is_marked old b) refl; marked = closed a n.marked b high_b (either a b pair) }
    where
      go : (t : Bool) → is_marked old b ≡ t → is_marked old b ≡ false
      go false u = u
      go true u = absurd (true≢false (sym (g.closed b u a high_a (adjacent_turned r.values r.shape.width connect a b (either a b pair))) ∙ n.unmarked))

  new_listed : (a : ℕ) → IsNew a → Contains f.more.added a
  new_listed a n = elim (f.more.listed a n.marked) [ inl k ↦ absurd (true≢false (sym k ∙ n.unmarked)) | inr k ↦ k ]

  few_around : (a : ℕ) → length f.more.added < min_area → IsNew a → HasFewAround r connect h min_area a
  few_around a few n = record {
    reached = f.more.added;
    few = few;
    all = λ b path. new_listed b (along_joined IsNew new_step path n);
  }

  pub grouped_small : length items < length front + min_area → HasGrouped r connect h min_area p old new front
  grouped_small small = record {
    grouped = record { one_each = each; below = g.below; closed = closed; held = λ a m. go a m (is_marked old a) refl };
    kept = f.more.kept;
    begun = f.begun;
  }
    where
      few : length f.more.added < min_area
      few = omega (arith, small, ap length f.more.items_are, length-append front f.more.added)

      go : (a : ℕ) → IsTrue (is_marked new a) → (t : Bool) → is_marked old a ≡ t → Contains front a ⊎ HasFewAround r connect h min_area a
      go a m true u = g.held a u
      go a m false u = inr (few_around a few (record { unmarked = u; marked = m }))

  pub grouped_large : HasGrouped r connect h min_area p old new items
  grouped_large = record {
    grouped = record { one_each = each; below = listed_below r old front new items f.more g.below; closed = closed; held = λ a m. go a (f.more.listed a m) };
    kept = f.more.kept;
    begun = f.begun;
  }
    where
      behind : (a : ℕ) → Contains (front ++ f.more.added) a → Contains items a
      behind a c = subst (λ (xs : List ℕ). Contains xs a) (sym f.more.items_are) c

      go : (a : ℕ) → IsTrue (is_marked old a) ⊎ Contains f.more.added a → Contains items a ⊎ HasFewAround r connect h min_area a
      go a (inl k) = elim (g.held a k) [ inl l ↦ inl (behind a (contains-left a front f.more.added l)) | inr l ↦ inr l ]
      go a (inr k) = inl (behind a (contains-right a front f.more.added k))

-- ---- pixels that are passed over

-- the pixels before `end` are grouped, where those before `first` are and no other one is high
pub passed_over : (r : Raster) (connect : Connect) (h : ℤ) (min_area first end : ℕ) (marks : List Bool) (items : List ℕ)
    → AreGroupedBefore r connect h min_area first marks items → list_any (is_at_least r h) (range_with_len first (end - first)) ≡ false
    → AreGroupedBefore r connect h min_area end marks items
passed_over r connect h min_area first end marks items f none = record {
  grouped = f.grouped;
  marked = λ a below high. elim (cases_lt a first) [
    | inl l ↦ f.marked a l high
    | inr l ↦ absurd (true≢false (sym (found a l below high) ∙ none))
  ];
}
  where
    found : (a : ℕ) → first ≤ a → a < end → IsTrue (is_at_least r h a) → IsTrue (list_any (is_at_least r h) (range_with_len first (end - first)))
    found a l below high = any_from_among (is_at_least r h) a (range_with_len first (end - first)) (among-range first (end - first) a l (omega arith)) high
