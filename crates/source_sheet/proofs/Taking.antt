-- The sources of the sheet that places hold, in the order of their least pixels in the plane.
use Rattle.std.proofs.Common.{◌≡◌, ℕ, ◌+◌, ◌<◌, ◌≤◌, zero, suc, Bool, true, false, cond, List, [], ◌∷◌, ◌++◌, length, map, take, get_or, eqb, IsPermutation, refl, sym, ◌∙◌, ap, subst, arith, ◌⊎◌, inl, inr, append-nil, zero-mul, ◌*◌}
use Rattle.std.specs.Prelude.{IsTrue, ℤ, Contains, Some, slice_get, slice_index, filter, not}
use Rattle.std.specs.Option.{option_map}
use Rattle.std.specs.List.{IsDistinct, AllByRecursion, range_with_len, list_any}
use Rattle.std.proofs.lemmas.Nat.{mul-add-lt}
use Rattle.std.proofs.lemmas.Map.Steps.{length-le_from_distinct_below}
use Rattle.std.specs.List.Sorted.{IsNonDecreasingBy}
use Rattle.std.proofs.lemmas.Bool.{ne_eqb, eqb-false, eq-eqb, cases_eq, cases_lt, eqb-true, or_cases, true≢false}
use Rattle.std.proofs.lemmas.Cmp.{nat_eq_equiv}
use Rattle.std.proofs.lemmas.Option.{slice_get_within, slice_get-map, get_or_from_slice_get, same_Some, none-some}
use Rattle.std.proofs.lemmas.List.{length-map, map_push, take_all, get_or-map}
use Rattle.std.proofs.lemmas.List.FromFn.{get_or-map-range_with_len, length-range_with_len}
use Rattle.std.proofs.lemmas.List.Elements.{All-nil, All-push, All-contains, filter_more}
use Rattle.std.proofs.lemmas.List.Sorted.{All-permutation, Contains-permutation, IsPermutation-map, IsPermutation-sym}
use Rattle.std.proofs.lemmas.Map.Keys.{IsDistinct-IsPermutation, apart_from_distinct}
use Rattle.lemmas.proofs.Exported.{IsAmong, IsRisingBy, among-map, among-filter, among_from_filter, among_of, contains_from_among}
use Rattle.comp_tree.specs.declared.shape.Connect.{Connect}
use Rattle.comp_tree.specs.declared.shape.Shape.{Shape}
use Rattle.comp_tree.specs.Raster.{Raster, IsPlane}
use Rattle.comp_tree.specs.ComponentTree.{ComponentTree}
use Rattle.comp_tree.specs.Components.{is_in_node, nodes, tree_of}
use Rattle.comp_tree.specs.Laws.{IsNode, top_of}
use Rattle.comp_tree.specs.Windows.{IsInside, in_whole}
use Rattle.comp_tree.proofs.Exported.{below_from_defined, in_node-defined, in_whole-below}
use Rattle.node_sums.specs.declared.entry.Sums.{Sums}
use Rattle.node_sums.specs.Sums.{sums_of, sums_in, AreSumsOfNode, AreSumsOfNodes}
use Rattle.node_sums.proofs.Exported.{rows_are}
use Rattle.source_pick.specs.declared.choice.Choice.{Choice}
use Rattle.source_pick.specs.Sources.{is_source, sources}
use Rattle.node_sums.specs.DisjointNodes.{AreDisjointNodes}
use Rattle.source_pick.specs.Sheets.{Part, IsHeld, AreTakenBack, taken_back, window_size}
use Rattle.source_pick.proofs.Exported.{first_inside, among_sources, source_from_among, sources_rise}
use Rattle.source_sheet.specs.declared.sheet.Place.{Place}
use Rattle.source_sheet.specs.declared.sheet.Sheet.{Sheet}
use Rattle.source_sheet.specs.declared.back.Taken.{Taken}
use Rattle.source_sheet.specs.Laid.{windows_of, part_of, IsLaidOut, AreApartThere}
use Rattle.source_sheet.specs.Checks.{IsInWindow}
use Rattle.source_sheet.specs.Backs.{SheetLaws, AreOwners, IsOwned, first_in, AreFirstsOf, HasOwnSums, HaveOwnSums, has_owner, IsTakenAs, AreTaken, found_as, found_of, nodes_in, parts_of}
use Rattle.source_sheet.proofs.Spots.{back_is}
use Rattle.source_sheet.proofs.Sheeted.{IsMapped, mapped_from, among_got, placed, held_lies, held_all, held_top, IsPlacedSource, one_source}

-- ---- the pass over the picked nodes

pub none_taken : (width columns : ℕ) (places : List Place) (owners : List ℕ) (sums : List Sums) (picked : List ℕ) (taken : List Taken) → taken ≡ []
    → AreTaken width columns places owners sums picked 0 taken
none_taken width columns places owners sums picked taken e =
    subst (AreTaken width columns places owners sums picked 0) (sym e)
    (record { nodes = refl; each = All-nil (λ (x : Taken). IsTakenAs width columns places owners sums x.node x) })

owner_there : (owners : List ℕ) (sums : List Sums) (n i : ℕ) → slice_index owners (first_in sums n) ≡ i + 1 → has_owner owners sums n ≡ true
owner_there owners sums n i e = ap not (ne_eqb (slice_index owners (first_in sums n)) 0 (λ z. absurd (omega (arith, e, z))))

owner_not_there : (owners : List ℕ) (sums : List Sums) (n : ℕ) → slice_index owners (first_in sums n) ≡ 0 → has_owner owners sums n ≡ false
owner_not_there owners sums n e = ap not (eq-eqb (slice_index owners (first_in sums n)) 0 e)

pub more_taken : (width columns : ℕ) (places : List Place) (owners : List ℕ) (sums : List Sums) (picked : List ℕ) (k : ℕ) (e : Taken) (taken : List Taken)
    → AreTaken width columns places owners sums picked k taken → k < length picked
    → IsTakenAs width columns places owners sums (get_or picked k 0) e → AreTaken width columns places owners sums picked (k + 1) (taken ++ e ∷ [])
more_taken width columns places owners sums picked k e taken h l a = record {
  nodes =
      map_push (λ (x : Taken). x.node) taken e
      ∙ ap (λ (ns : List ℕ). ns ++ e.node ∷ []) h.nodes
      ∙ ap (λ (n : ℕ). filter (has_owner owners sums) (take k picked) ++ n ∷ []) a.node
      ∙ sym (filter_more (has_owner owners sums) picked k 0 l
      ∙ ap (λ (b : Bool). filter (has_owner owners sums) (take k picked) ++ cond b (get_or picked k 0 ∷ []) [])
      (owner_there owners sums (get_or picked k 0) a.it a.number));
  each =
      All-push (λ (x : Taken). IsTakenAs width columns places owners sums x.node x) taken e h.each
      (subst (λ (n : ℕ). IsTakenAs width columns places owners sums n e) (sym a.node) a);
}

pub same_taken : (width columns : ℕ) (places : List Place) (owners : List ℕ) (sums : List Sums) (picked : List ℕ) (k : ℕ) (taken : List Taken)
    → AreTaken width columns places owners sums picked k taken → k < length picked → slice_index owners (first_in sums (get_or picked k 0)) ≡ 0
    → AreTaken width columns places owners sums picked (k + 1) taken
same_taken width columns places owners sums picked k taken h l none = record {
  nodes =
      h.nodes ∙ sym (append-nil (filter (has_owner owners sums) (take k picked)))
      ∙ sym (filter_more (has_owner owners sums) picked k 0 l
      ∙ ap (λ (b : Bool). filter (has_owner owners sums) (take k picked) ++ cond b (get_or picked k 0 ∷ []) [])
      (owner_not_there owners sums (get_or picked k 0) none));
  each = h.each;
}

pub taken_up_to : (width columns : ℕ) (places : List Place) (owners : List ℕ) (sums : List Sums) (picked : List ℕ) (j k : ℕ) (taken : List Taken)
    → AreTaken width columns places owners sums picked k taken → j ≡ k → AreTaken width columns places owners sums picked j taken
taken_up_to width columns places owners sums picked j k taken h e =
    subst (λ (n : ℕ). AreTaken width columns places owners sums picked n taken) (sym e) h

-- ---- their sums

pub none_own : (picked : List ℕ) (own : List Sums) (taken : List Taken) → taken ≡ [] → HaveOwnSums picked own taken
none_own picked own taken e = subst (HaveOwnSums picked own) (sym e) (All-nil (HasOwnSums picked own))

pub more_own : (picked : List ℕ) (own : List Sums) (i n : ℕ) (entry : Sums) (e : Taken) (taken : List Taken) → HaveOwnSums picked own taken
    → slice_get picked i ≡ Some n → slice_get own i ≡ Some entry → e.node ≡ n → e.sums ≡ entry → HaveOwnSums picked own (taken ++ e ∷ [])
more_own picked own i n entry e taken before node sums same_node same_sums =
    All-push (HasOwnSums picked own) taken e before (record { it = i; node = node ∙ ap Some (sym same_node); sums = sums ∙ ap Some (sym same_sums) })

-- ---- lists

less_from : (a b : ℕ) → a ≤ b → (a ≡ b → ⊥) → a < b
less_from a b l d = go (cases_lt a b)
  where
    go : (a < b) ⊎ (b ≤ a) → a < b
    go (inl k) = k
    go (inr k) = absurd (d (omega (arith, l, k)))

distinct_from_rising : (f : ℕ → ℕ) (xs : List ℕ) → IsRisingBy f xs → IsDistinct eqb xs
unfolding IsDistinct
distinct_from_rising f [] h = tt
distinct_from_rising f (x ∷ xs) h = (apart xs h.0, distinct_from_rising f xs h.1)
  where
    apart : (ys : List ℕ) → ((y : ℕ) → IsAmong y ys → f x < f y) → AllByRecursion (λ y. eqb x y ≡ false) ys
    apart [] above = tt
    apart (y ∷ ys) above =
        (ne_eqb x y (λ e. let l : f x < f y = above y (inl refl) in let d : f x ≡ f y = ap f e in absurd (omega (arith, l, d))), apart ys (λ z m. above z (inr m)))

rising_filter : (f : ℕ → ℕ) (test : ℕ → Bool) (xs : List ℕ) → IsRisingBy f xs → IsRisingBy f (filter test xs)
rising_filter f test [] k = tt
rising_filter f test (x ∷ xs) k = go (test x) (rising_filter f test xs k.1)
  where
    go : (t : Bool) → IsRisingBy f (filter test xs) → IsRisingBy f (cond t (x ∷ filter test xs) (filter test xs))
    go true rest = ((λ y m. k.0 y (among_from_filter test y xs m).0), rest)
    go false rest = rest

-- what stands at a place of a mapped list
pub got_mapped : {X Y : Type 0} (f : X → Y) (xs : List X) (i : ℕ) (y : Y) → slice_get (map f xs) i ≡ Some y → (x : X) × (slice_get xs i ≡ Some x) × (f x ≡ y)
got_mapped f [] i y e = absurd (none-some y e)
got_mapped f (x ∷ xs) zero y e = (x, refl, same_Some (f x) y e)
got_mapped f (x ∷ xs) (suc i) y e = got_mapped f xs i y e

pub get_mapped : {X Y : Type 0} (f : X → Y) (xs : List X) (i : ℕ) (x : X) → slice_get xs i ≡ Some x → slice_get (map f xs) i ≡ Some (f x)
get_mapped f xs i x e = slice_get-map f xs i ∙ ap (option_map f) e

-- so they have the sums of their nodes
pub own_sums : (s : Raster) (connect : Connect) (picked : List ℕ) (own : List Sums) (e : Taken) → own ≡ map (sums_of s connect) picked
    → HasOwnSums picked own e → e.sums ≡ sums_of s connect e.node
own_sums s connect picked own e are h =
    same_Some e.sums (sums_of s connect e.node)
    (sym h.sums ∙ ap (λ (xs : List Sums). slice_get xs h.it) are ∙ get_mapped (sums_of s connect) picked h.it e.node h.node)

own_read : (picked picked' : List ℕ) (own own' : List Sums) (taken : List Taken) → picked' ≡ picked → own' ≡ own → HaveOwnSums picked' own' taken
    → HaveOwnSums picked own taken
own_read picked picked' own own' taken e f h =
    subst (λ (ns : List ℕ). HaveOwnSums ns own taken) e (subst (λ (ss : List Sums). HaveOwnSums picked' ss taken) f h)

-- in whatever order they stand
pub own_moved : (picked picked' : List ℕ) (own own' : List Sums) (taken sorted : List Taken) → picked' ≡ picked → own' ≡ own
    → IsPermutation taken sorted → HaveOwnSums picked' own' taken → (i : ℕ) (e : Taken) → slice_get sorted i ≡ Some e → HasOwnSums picked own e
own_moved picked picked' own own' taken sorted same_picked same_own moved h i e got =
    All-contains (HasOwnSums picked own) sorted e
    (All-permutation (HasOwnSums picked own) taken sorted moved (own_read picked picked' own own' taken same_picked same_own h))
    (contains_from_among e sorted (among_got e sorted i got))

pub own_of_node : (tree : ComponentTree) (picked : List ℕ) (own : List Sums) (e : Taken) → AreSumsOfNodes tree picked own → HasOwnSums picked own e
    → AreSumsOfNode tree e.node e.sums
own_of_node tree picked own e are h = record {
  plane = are.plane;
  connect = are.connect;
  one_each = are.one_each;
  in_range = are.in_range;
  tree_is = are.tree_is;
  sums_are = own_sums are.plane are.connect picked own e are.sums_are h;
}

-- the least pixel, as the sums have it
pub first-is : (s : Raster) (connect : Connect) (sums : List Sums) (n : ℕ) → sums ≡ sums_in s connect → IsNode s connect n
    → first_in sums n ≡ (sums_of s connect n).first
unfolding sums_in
first-is s connect sums n e hn =
    ap (λ (xs : List Sums). first_in xs n) e
    ∙ get_or-map (λ (x : Sums). x.first) (map (sums_of s connect) (range_with_len 0 (length (nodes s connect)))) n (sums_of s connect n) 0
    (subst (λ (x : ℕ). n < x) (sym (length-map (range_with_len 0 (length (nodes s connect))) (sums_of s connect) ∙ length-range_with_len 0 (length (nodes s connect)))) hn)
    ∙ ap (λ (x : Sums). x.first) (get_or-map-range_with_len (sums_of s connect) 0 (length (nodes s connect)) n n (sums_of s connect n) hn (omega arith))

-- the least pixels of the picked nodes, as their own sums have them
pub firsts_of_picked : (s : Raster) (connect : Connect) (choice : Choice) (picked : List ℕ) (own : List Sums) → IsPlane s → picked ≡ sources s connect choice
    → own ≡ map (sums_of s connect) picked → AreFirstsOf (sums_in s connect) picked own
firsts_of_picked s connect choice picked own plane picked_are own_are = record {
  each = λ i n entry g k.
      let node : IsNode s connect n × IsTrue (is_source s connect choice n) =
      source_from_among s connect choice n plane (subst (λ (ns : List ℕ). IsAmong n ns) picked_are (among_got n picked i g)) in
      ap (λ (x : Sums). x.first)
      (same_Some entry (sums_of s connect n)
      (sym k ∙ ap (λ (xs : List Sums). slice_get xs i) own_are ∙ get_mapped (sums_of s connect) picked i n g))
      ∙ sym (first-is s connect (sums_in s connect) n refl node.0);
}

pub firsts_read : (all : List Sums) (picked picked' : List ℕ) (own own' : List Sums) → picked' ≡ picked → own' ≡ own → AreFirstsOf all picked own
    → AreFirstsOf all picked' own'
firsts_read all picked picked' own own' e f h =
    subst (λ (ns : List ℕ). AreFirstsOf all ns own') (sym e) (subst (λ (ss : List Sums). AreFirstsOf all picked ss) (sym f) h)

-- they are pixels of the sheet
pub firsts_within : (s : Raster) (connect : Connect) (choice : Choice) (picked : List ℕ) (own : List Sums) → IsPlane s → picked ≡ sources s connect choice
    → own ≡ map (sums_of s connect) picked → (i : ℕ) (entry : Sums) → slice_get own i ≡ Some entry → entry.first < s.shape.width * s.shape.height
firsts_within s connect choice picked own plane picked_are own_are i entry g =
    let from : (n : ℕ) × (slice_get picked i ≡ Some n) × (sums_of s connect n ≡ entry) =
    got_mapped (sums_of s connect) picked i entry (ap (λ (xs : List Sums). slice_get xs i) (sym own_are) ∙ g) in
    let node : IsNode s connect from.0 × IsTrue (is_source s connect choice from.0) =
    source_from_among s connect choice from.0 plane (subst (λ (ns : List ℕ). IsAmong from.0 ns) picked_are (among_got from.0 picked i from.1)) in
    let b : (sums_of s connect from.0).first < length s.values =
    below_from_defined s (sums_of s connect from.0).first
    (in_node-defined s connect from.0 (sums_of s connect from.0).first (first_inside s connect from.0 plane node.0)) in
    let e : length s.values ≡ s.shape.width * s.shape.height = plane in
    subst (λ (x : Sums). x.first < s.shape.width * s.shape.height) from.2 (omega (arith, b, e))

distinct_from : (xs : List ℕ) → ((i j a b : ℕ) → i < j → slice_get xs i ≡ Some a → slice_get xs j ≡ Some b → a ≡ b → ⊥) → IsDistinct eqb xs
unfolding IsDistinct
distinct_from [] h = tt
distinct_from (x ∷ xs) h =
    (others xs (λ j b g. h 0 (suc j) x b (omega arith) refl g), distinct_from xs (λ i j a b l f g. h (suc i) (suc j) a b (omega (arith, l)) f g))
  where
    others : (ys : List ℕ) → ((j b : ℕ) → slice_get ys j ≡ Some b → x ≡ b → ⊥) → AllByRecursion (λ y. eqb x y ≡ false) ys
    others [] k = tt
    others (y ∷ ys) k = (ne_eqb x y (k 0 y refl), others ys (λ j b g. k (suc j) b g))

any_got : (xs : List ℕ) (q : ℕ) → list_any (eqb q) xs ≡ true → (i : ℕ) × (slice_get xs i ≡ Some q)
any_got [] q h = absurd (true≢false (sym h))
any_got (x ∷ xs) q h = go (or_cases (eqb q x) (list_any (eqb q) xs) h) (any_got xs q)
  where
    later : (i : ℕ) × (slice_get xs i ≡ Some q) → (i : ℕ) × (slice_get (x ∷ xs) i ≡ Some q)
    later (i, g) = (suc i, g)

    go : (eqb q x ≡ true) ⊎ (list_any (eqb q) xs ≡ true) → (list_any (eqb q) xs ≡ true → (i : ℕ) × (slice_get xs i ≡ Some q))
        → (i : ℕ) × (slice_get (x ∷ xs) i ≡ Some q)
    go (inl e) ih = (0, ap Some (sym (eqb-true q x e)))
    go (inr e) ih = later (ih e)

-- there are few places: the first pixels of their windows on the sheet are different ones
pub few_places : (s : Raster) (places : List Place) → ((i : ℕ) (c : Place) → slice_get places i ≡ Some c → IsInside s.shape (windows_of c).to)
    → AreApartThere s places → length places ≤ 2147483647
few_places s places inside apart =
    let a : length firsts ≤ s.shape.width * s.shape.height =
    length-le_from_distinct_below firsts (s.shape.width * s.shape.height) (distinct_from firsts different) (λ q h. below q (any_got firsts q h)) in
    let b : length firsts ≡ length places = length-map places first in
    let f : s.shape.width * s.shape.height ≤ 2147483647 = s.shape.within_limits.few_pixels in
    omega (arith, a, b, f)
  where
    first : Place → ℕ
    first c = in_whole s.shape.width (windows_of c).to 0

    firsts : List ℕ
    firsts = map first places

    some : (c : Place) → 0 < window_size (windows_of c).to
    some c =
        let l : 0 * c.shape.width + 0 < c.shape.width * c.shape.height =
        mul-add-lt 0 c.shape.width 0 c.shape.height c.shape.within_limits.some_rows c.shape.within_limits.some_columns in
        omega (arith, l, zero-mul c.shape.width)

    below : (q : ℕ) → (i : ℕ) × (slice_get firsts i ≡ Some q) → q < s.shape.width * s.shape.height
    below q (i, g) =
        let e : (c : Place) × (slice_get places i ≡ Some c) × (first c ≡ q) = got_mapped first places i q g in
        subst (λ (x : ℕ). x < s.shape.width * s.shape.height) e.2 (in_whole-below s.shape (windows_of e.0).to 0 (inside i e.0 e.1) (some e.0))

    different : (i j a b : ℕ) → i < j → slice_get firsts i ≡ Some a → slice_get firsts j ≡ Some b → a ≡ b → ⊥
    different i j a b less f g same =
        let c : (c : Place) × (slice_get places i ≡ Some c) × (first c ≡ a) = got_mapped first places i a f in
        let e : (c : Place) × (slice_get places j ≡ Some c) × (first c ≡ b) = got_mapped first places j b g in
        let k : i ≡ j =
        apart i j a c.0 e.0 c.1 e.1 (record { it = 0; below = some c.0; place = c.2 }) (record { it = 0; below = some e.0; place = e.2 ∙ sym same }) in
        absurd (omega (arith, less, k))

-- ---- sorted

module _ (r : Raster) (connect : Connect) (choice : Choice) (sheet : Sheet) (l : IsLaidOut r connect choice sheet) (laws : SheetLaws)
    (sums : List Sums) (picked owners : List ℕ) (taken sorted : List Taken) (sums_are : sums ≡ sums_in sheet.plane connect)
    (picked_are : picked ≡ sources sheet.plane connect choice)
    (owned : AreOwners sheet.plane.shape.width sheet.places.items (length sheet.places.items) owners)
    (t : AreTaken sheet.whole.width sheet.plane.shape.width sheet.places.items owners sums picked (length picked) taken)
    (moved : IsPermutation taken sorted) (up : IsNonDecreasingBy (λ (x : Taken). x.first) sorted) where
  abbrev s : Raster
  s = sheet.plane

  abbrev h : ℤ
  h = choice.threshold

  abbrev IsEntry : Taken → Type 0
  IsEntry e = IsTakenAs sheet.whole.width s.shape.width sheet.places.items owners sums e.node e

  entry : (e : Taken) → IsAmong e sorted → IsEntry e
  entry e m = All-contains IsEntry sorted e (All-permutation IsEntry taken sorted moved t.each) (contains_from_among e sorted m)

  -- the picked nodes that have owners
  abbrev own : List ℕ
  own = filter (has_owner owners sums) picked

  nodes_moved : IsPermutation own (nodes_in sorted)
  nodes_moved =
      subst (λ (ns : List ℕ). IsPermutation ns (nodes_in sorted))
      (t.nodes ∙ ap (filter (has_owner owners sums)) (take_all (length picked) picked (omega arith)))
      (IsPermutation-map (λ (x : Taken). x.node) taken sorted moved)

  distinct : IsDistinct eqb (nodes_in sorted)
  distinct =
      IsDistinct-IsPermutation eqb nat_eq_equiv.symm own (nodes_in sorted) nodes_moved
      (distinct_from_rising (λ n. (sums_of s connect n).first) own
      (rising_filter (λ n. (sums_of s connect n).first) (has_owner owners sums) picked
      (subst (λ (ns : List ℕ). IsRisingBy (λ n. (sums_of s connect n).first) ns) (sym picked_are) (sources_rise s connect choice l.one_each_there))))

  source_there : (e : Taken) → IsAmong e sorted → IsNode s connect e.node × IsTrue (is_source s connect choice e.node)
  source_there e m =
      let n : IsAmong e.node own =
      among_of e.node own (Contains-permutation (nodes_in sorted) own e.node (IsPermutation-sym own (nodes_in sorted) nodes_moved)
      (contains_from_among e.node (nodes_in sorted) (among-map (λ (x : Taken). x.node) e sorted m))) in
      source_from_among s connect choice e.node l.one_each_there
      (subst (λ (ns : List ℕ). IsAmong e.node ns) picked_are (among_from_filter (has_owner owners sums) e.node picked n).0)

  first_there : (e : Taken) → IsAmong e sorted → first_in sums e.node ≡ (sums_of s connect e.node).first
  first_there e m = first-is s connect sums e.node sums_are (source_there e m).0

  first_within : (e : Taken) → IsAmong e sorted → is_in_node s connect e.node (first_in sums e.node) ≡ true
  first_within e m =
      subst (λ (p : ℕ). is_in_node s connect e.node p ≡ true) (sym (first_there e m)) (first_inside s connect e.node l.one_each_there (source_there e m).0)

  placed_source : (e : Taken) → IsAmong e sorted → IsPlacedSource r connect choice sheet l laws e.place e.node
  placed_source e m =
      let a : IsEntry e = entry e m in
      record {
        place = a.it;
        got = a.at;
        node = (source_there e m).0;
        source = (source_there e m).1;
        held =
            held_top r connect choice sheet l laws a.it e.place a.at e.node (first_in sums e.node) (source_there e m).0 (source_there e m).1 a.lies
            (first_within e m);
      }

  pub at_places : (i : ℕ) (e : Taken) → slice_get sorted i ≡ Some e → (j : ℕ) × (slice_get sheet.places.items j ≡ Some e.place)
  at_places i e g = let a : IsEntry e = entry e (among_got e sorted i g) in (a.it, a.at)

  -- its least pixel in the plane
  first_back : (e : Taken) → IsAmong e sorted → e.first ≡ taken_back r.shape.width s.shape.width (part_of s h e.place) (sums_of s connect e.node).first
  first_back e m =
      (entry e m).back s h
      ∙ ap (λ (x : ℕ). taken_back x s.shape.width (part_of s h e.place) (first_in sums e.node)) (ap (λ (x : Shape). x.width) l.whole)
      ∙ ap (taken_back r.shape.width s.shape.width (part_of s h e.place)) (first_there e m)

  first_place : (e : Taken) → (m : IsAmong e sorted)
      → e.first ≡ in_whole r.shape.width (windows_of e.place).from ((entry e m).lies).it
  first_place e m =
      (entry e m).back s h
      ∙ ap (λ (x : ℕ). taken_back x s.shape.width (part_of s h e.place) (first_in sums e.node)) (ap (λ (x : Shape). x.width) l.whole)
      ∙ back_is r.shape s.shape s h e.place (first_in sums e.node) (placed r connect choice sheet l laws (entry e m).it e.place (entry e m).at) (entry e m).lies

  -- two with one least pixel there are one
  same_nodes : (d e : Taken) → IsAmong d sorted → IsAmong e sorted → d.first ≡ e.first → d.node ≡ e.node
  same_nodes d e m n same =
      (one_source r connect choice sheet l laws d.place e.place d.node e.node (placed_source d m) (placed_source e n)
      ((entry d m).lies).it ((entry e n).lies).it ((entry d m).lies).below ((entry e n).lies).below
      (sym (first_place d m) ∙ same ∙ first_place e n)
      (subst (λ (p : ℕ). is_in_node s connect d.node p ≡ true) (sym ((entry d m).lies).place) (first_within d m))
      (subst (λ (p : ℕ). is_in_node s connect e.node p ≡ true) (sym ((entry e n).lies).place) (first_within e n))).2

  pub nodes_apart : (i j a b : ℕ) → i < j → slice_get (nodes_in sorted) i ≡ Some a → slice_get (nodes_in sorted) j ≡ Some b → a ≡ b → ⊥
  nodes_apart i j a b less f g e =
      eqb-false (get_or (nodes_in sorted) i 0) (get_or (nodes_in sorted) j 0)
      (apart_from_distinct eqb (nodes_in sorted) i j 0 distinct less (slice_get_within (nodes_in sorted) j b g))
      (get_or_from_slice_get (nodes_in sorted) i a 0 f ∙ e ∙ sym (get_or_from_slice_get (nodes_in sorted) j b 0 g))

  rises : (i j : ℕ) (d e : Taken) → i < j → slice_get sorted i ≡ Some d → slice_get sorted j ≡ Some e
      → taken_back r.shape.width s.shape.width (part_of s h d.place) (sums_of s connect d.node).first
      < taken_back r.shape.width s.shape.width (part_of s h e.place) (sums_of s connect e.node).first
  rises i j d e less f g = go (cases_eq d.first e.first)
    where
      m : IsAmong d sorted
      m = among_got d sorted i f

      n : IsAmong e sorted
      n = among_got e sorted j g

      order : d.first ≤ e.first
      order =
          let a : get_or sorted i d ≡ d = get_or_from_slice_get sorted i d d f in
          let b : get_or sorted j d ≡ e = get_or_from_slice_get sorted j e d g in
          let o : (get_or sorted i d).first ≤ (get_or sorted j d).first = up i j d (omega (arith, less)) (slice_get_within sorted j e g) in
          subst (λ (x : Taken). x.first ≤ e.first) a (subst (λ (x : Taken). (get_or sorted i d).first ≤ x.first) b o)

      go : (d.first ≡ e.first) ⊎ (d.first ≡ e.first → ⊥)
          → taken_back r.shape.width s.shape.width (part_of s h d.place) (sums_of s connect d.node).first
          < taken_back r.shape.width s.shape.width (part_of s h e.place) (sums_of s connect e.node).first
      go (inl same) =
          absurd (nodes_apart i j d.node e.node less (get_mapped (λ (x : Taken). x.node) sorted i d f) (get_mapped (λ (x : Taken). x.node) sorted j e g)
          (same_nodes d e m n same))
      go (inr other) =
          let a = first_back d m in
          let b = first_back e n in
          let k : d.first < e.first = less_from d.first e.first order other in
          subst (λ (x : ℕ). x < taken_back r.shape.width s.shape.width (part_of s h e.place) (sums_of s connect e.node).first) a
          (subst (λ (x : ℕ). d.first < x) b k)

  -- a source that a part holds is there
  all_there : (c : Place) (i k : ℕ) → slice_get sheet.places.items i ≡ Some c → IsNode s connect k → IsTrue (is_source s connect choice k)
      → IsHeld s (part_of s h c).to (part_of s h c).own (top_of s connect k) → Contains (found_of s h sorted) (part_of s h c, k)
  all_there c i k got hk source held =
      subst (λ (x : Part × ℕ). Contains (found_of s h sorted) x) same
      (contains_from_among (found_as s h g.it) (found_of s h sorted) (among-map (found_as s h) g.it sorted (among_got g.it sorted g.place g.got)))
    where
      p : ℕ
      p = first_in sums k

      inside : is_in_node s connect k p ≡ true
      inside = subst (λ (x : ℕ). is_in_node s connect k x ≡ true) (sym (first-is s connect sums k sums_are hk)) (first_inside s connect k l.one_each_there hk)

      lies : IsInWindow s.shape.width (windows_of c).to p
      lies = held_lies r connect choice sheet l laws c p (held_all r connect choice sheet l laws i c got k p hk source held inside)

      there : has_owner owners sums k ≡ true
      there = go (owned.sound p)
        where
          go : (slice_index owners p ≡ 0) ⊎ IsOwned s.shape.width sheet.places.items owners p → has_owner owners sums k ≡ true
          go (inl z) = absurd (owned.complete i p c (slice_get_within sheet.places.items i c got) got lies z)
          go (inr o) = owner_there owners sums k o.it o.number

      among : IsAmong k (nodes_in sorted)
      among =
          among_of k (nodes_in sorted) (Contains-permutation own (nodes_in sorted) k nodes_moved (contains_from_among k own
          (among-filter (has_owner owners sums) k picked
          (subst (λ (ns : List ℕ). IsAmong k ns) (sym picked_are) (among_sources s connect choice k l.one_each_there hk source)) there)))

      g : IsMapped (λ (x : Taken). x.node) sorted k
      g = mapped_from (λ (x : Taken). x.node) sorted k among

      a : IsEntry g.it
      a = entry g.it (among_got g.it sorted g.place g.got)

      lies_too : IsInWindow s.shape.width (windows_of g.it.place).to p
      lies_too = subst (λ (x : ℕ). IsInWindow s.shape.width (windows_of g.it.place).to (first_in sums x)) g.is a.lies

      places : a.it ≡ i
      places =
          l.apart_there a.it i p g.it.place c a.at got (record { it = lies_too.it; below = lies_too.below; place = lies_too.place })
          (record { it = lies.it; below = lies.below; place = lies.place })

      same_place : g.it.place ≡ c
      same_place = same_Some g.it.place c (sym a.at ∙ ap (slice_get sheet.places.items) places ∙ got)

      same : found_as s h g.it ≡ (part_of s h c, k)
      same = λ i. (part_of s h (same_place i), g.is i)

  pub are_taken_back : AreTakenBack r s connect choice (parts_of s h sheet.places.items) (found_of s h sorted)
  are_taken_back = record {
    each = λ i u k g.
        let e : (x : Taken) × (slice_get sorted i ≡ Some x) × (found_as s h x ≡ (u, k)) = got_mapped (found_as s h) sorted i (u, k) g in
        let m : IsAmong e.0 sorted = among_got e.0 sorted i e.1 in
        let f = placed_source e.0 m in
        subst (λ (x : Part × ℕ). Contains (parts_of s h sheet.places.items) x.0 × IsNode s connect x.1 × IsTrue (is_source s connect choice x.1)
        × IsHeld s x.0.to x.0.own (top_of s connect x.1)) e.2 (
          contains_from_among (part_of s h e.0.place) (parts_of s h sheet.places.items)
              (among-map (part_of s h) e.0.place sheet.places.items (among_got e.0.place sheet.places.items f.place f.got)),
          f.node,
          f.source,
          f.held,
        );
    rise = λ i j u v k m less f g.
        let d : (x : Taken) × (slice_get sorted i ≡ Some x) × (found_as s h x ≡ (u, k)) = got_mapped (found_as s h) sorted i (u, k) f in
        let e : (x : Taken) × (slice_get sorted j ≡ Some x) × (found_as s h x ≡ (v, m)) = got_mapped (found_as s h) sorted j (v, m) g in
        subst (λ (x : Part × ℕ). taken_back r.shape.width s.shape.width x.0 (sums_of s connect x.1).first
        < taken_back r.shape.width s.shape.width v (sums_of s connect m).first) d.2
        (subst (λ (x : Part × ℕ). taken_back r.shape.width s.shape.width (part_of s h d.0.place) (sums_of s connect d.0.node).first
        < taken_back r.shape.width s.shape.width x.0 (sums_of s connect x.1).first) e.2 (rises i j d.0 e.0 less d.1 e.1));
    all = λ u k c hk source held.
        let g : IsMapped (part_of s h) sheet.places.items u =
        mapped_from (part_of s h) sheet.places.items u (among_of u (parts_of s h sheet.places.items) c) in
        subst (λ (x : Part). Contains (found_of s h sorted) (x, k)) g.is
        (all_there g.it g.place k g.got hk source (subst (λ (x : Part). IsHeld s x.to x.own (top_of s connect k)) (sym g.is) held));
  }

  pub are_disjoint_nodes : (tree : ComponentTree) → tree ≡ tree_of s connect → AreDisjointNodes tree (nodes_in sorted)
  are_disjoint_nodes tree tree_is = record {
    plane = s;
    connect = connect;
    one_each = l.one_each_there;
    tree_is = tree_is;
    nodes = λ i n g. let b : n < length (nodes s connect) = (there i n g).0 in let e : length tree.rows ≡ length (nodes s connect) = rows_are s connect tree tree_is in omega (arith, b, e);
    disjoint = λ i j a b less f g.
        laws.disjoint s connect choice a b l.one_each_there (there i a f).0 (there j b g).0 (there i a f).1 (there j b g).1 (nodes_apart i j a b less f g);
  }
    where
      there : (i n : ℕ) → slice_get (nodes_in sorted) i ≡ Some n → IsNode s connect n × IsTrue (is_source s connect choice n)
      there i n g =
          let e : (x : Taken) × (slice_get sorted i ≡ Some x) × (x.node ≡ n) = got_mapped (λ (x : Taken). x.node) sorted i n g in
          subst (λ (x : ℕ). IsNode s connect x × IsTrue (is_source s connect choice x)) e.2 (source_there e.0 (among_got e.0 sorted i e.1))

-- ---- as the code makes them

-- what was done to the picked nodes: places were looked up, and the sources sorted
pub record IsRun (sheet : Sheet) (sums : List Sums) (picked : List ℕ) (sorted : List Taken) : Type 0 where
  pub owners : List ℕ
  pub taken : List Taken
  pub owned : AreOwners sheet.plane.shape.width sheet.places.items (length sheet.places.items) owners
  pub taken_are : AreTaken sheet.whole.width sheet.plane.shape.width sheet.places.items owners sums picked (length picked) taken
  pub moved : IsPermutation taken sorted
  pub up : IsNonDecreasingBy (λ (x : Taken). x.first) sorted

-- the same from what the code read and wrote
pub run_from : (sheet : Sheet) (sums : List Sums) (onto : Shape) (places places' : List Place) (picked picked' owners owners' : List ℕ)
    (taken sorted : List Taken) → onto ≡ sheet.plane.shape → places ≡ sheet.places.items → places' ≡ sheet.places.items → picked' ≡ picked
    → owners' ≡ owners → AreOwners onto.width places (length places) owners
    → AreTaken sheet.whole.width onto.width places' owners' sums picked' (length picked') taken → IsPermutation taken sorted
    → IsNonDecreasingBy (λ (x : Taken). x.first) sorted → IsRun sheet sums picked sorted
run_from sheet sums onto places places' picked picked' owners owners' taken sorted e f g i j owned are moved up = record {
  owners = owners;
  taken = taken;
  owned = subst (λ (x : Shape). AreOwners x.width sheet.places.items (length sheet.places.items) owners) e
      (subst (λ (x : List Place). AreOwners onto.width x (length x) owners) f owned);
  taken_are = subst (λ (x : Shape). AreTaken sheet.whole.width x.width sheet.places.items owners sums picked (length picked) taken) e
      (subst (λ (x : List Place). AreTaken sheet.whole.width onto.width x owners sums picked (length picked) taken) g
      (subst (λ (x : List ℕ). AreTaken sheet.whole.width onto.width places' owners sums x (length x) taken) i
      (subst (λ (x : List ℕ). AreTaken sheet.whole.width onto.width places' x sums picked' (length picked') taken) j are)));
  moved = moved;
  up = up;
}

pub run_taken_back : (r : Raster) (connect : Connect) (choice : Choice) (sheet : Sheet) → IsLaidOut r connect choice sheet → SheetLaws → (sums : List Sums)
    (picked : List ℕ) (sorted : List Taken) → sums ≡ sums_in sheet.plane connect → picked ≡ sources sheet.plane connect choice
    → IsRun sheet sums picked sorted
    → AreTakenBack r sheet.plane connect choice (parts_of sheet.plane choice.threshold sheet.places.items) (found_of sheet.plane choice.threshold sorted)
run_taken_back r connect choice sheet l laws sums picked sorted e f k =
    are_taken_back r connect choice sheet l laws sums picked k.owners k.taken sorted e f k.owned k.taken_are k.moved k.up

pub run_disjoint : (r : Raster) (connect : Connect) (choice : Choice) (sheet : Sheet) → IsLaidOut r connect choice sheet → SheetLaws → (sums : List Sums)
    (picked : List ℕ) (sorted : List Taken) → sums ≡ sums_in sheet.plane connect → picked ≡ sources sheet.plane connect choice
    → IsRun sheet sums picked sorted → (tree : ComponentTree) → tree ≡ tree_of sheet.plane connect → AreDisjointNodes tree (nodes_in sorted)
run_disjoint r connect choice sheet l laws sums picked sorted e f k tree same =
    are_disjoint_nodes r connect choice sheet l laws sums picked k.owners k.taken sorted e f k.owned k.taken_are k.moved k.up tree same

pub run_placed : (r : Raster) (connect : Connect) (choice : Choice) (sheet : Sheet) → IsLaidOut r connect choice sheet → SheetLaws → (sums : List Sums)
    (picked : List ℕ) (sorted : List Taken) → sums ≡ sums_in sheet.plane connect → picked ≡ sources sheet.plane connect choice
    → IsRun sheet sums picked sorted → (i : ℕ) (e : Taken) → slice_get sorted i ≡ Some e → (j : ℕ) × (slice_get sheet.places.items j ≡ Some e.place)
run_placed r connect choice sheet l laws sums picked sorted e f k =
    at_places r connect choice sheet l laws sums picked k.owners k.taken sorted e f k.owned k.taken_are k.moved k.up
