-- Pixels that are kept in blocks are the same as those of which each is kept.
use Rattle.std.proofs.Common.{◌≡◌, ◌≢◌, ◌∙◌, ℕ, ◌+◌, ◌-◌, ◌*◌, ◌/◌, ◌%◌, ◌==◌, ◌<◌, ◌≤◌, Bool, true, false, ◌⊎◌, inl, inr, List, [], ◌∷◌, ◌++◌}
use Rattle.std.proofs.Common.{length, map, min, get_or, set, refl, sym, ap, subst, arith}
use Rattle.std.specs.Prelude.{Result, Ok, Err, IfOk, OnOk}
use Rattle.std.specs.Prelude.{ℤ, Option, Some, None, IfSome, IsTrue, is_some, slice_set, nat_le, nat_lt, ◌&&◌, if◌then◌else◌}
use Rattle.std.specs.Option.{option_map}
use Rattle.std.proofs.lemmas.List.{ext_get_or, length-set, get_or-set_same, get_or-set_other, set-get_or}
use Rattle.std.proofs.lemmas.List.{get_or_append_left, get_or_push, get_or_past, get_or-append-add, get_or_default}
use Rattle.std.proofs.lemmas.List.{length-append}
use Rattle.std.proofs.lemmas.List.FromFn.{length-map-range_with_len, get_or-map-range_with_len, map-range_with_len_more}
use Rattle.std.proofs.lemmas.Bool.{eqb-true, eqb-false, cases_lt, le-leb, lt-ltb, le-ltb, lt-leb}
use Rattle.comp_tree.specs.declared.pixels.Run.{Run}
use Rattle.comp_tree.specs.Raster.{value_at, HasGap}
use Rattle.comp_tree.specs.Stored.{empty_run, run_of_block, place_in_run}
use Rattle.comp_tree.specs.Stored.{kept_place, kept_value, kept_pixels, AreRunsApart, AreKept, AreBlocksOf, AreAllInBlocks}
use Rattle.comp_tree.specs.Stored.{marked_values, shown_values}
use Rattle.std.specs.List.{range_with_len}
use denote.Ref.{Bor}
use Rattle.std.specs.Prelude.{cond, slice_index_or}

-- ---- the values of marked pixels

pub length-marked : (values : List (Option ℤ)) (marks : List Bool) → length (marked_values values marks) ≡ length values
unfolding marked_values
length-marked values marks = length-map-range_with_len (λ p. cond (slice_index_or marks p false) (value_at values p) None) 0 (length values)

pub marked-at : (values : List (Option ℤ)) (marks : List Bool) (p : ℕ) → p < length values
    → value_at (marked_values values marks) p ≡ cond (slice_index_or marks p false) (value_at values p) None
unfolding marked_values
marked-at values marks p lt =
    get_or-map-range_with_len (λ q. cond (slice_index_or marks q false) (value_at values q) None) 0 (length values) p p None lt (omega arith)

-- ---- one pixel

pub kept-length : (count : ℕ) (runs : Option (List Run)) (values : List (Option ℤ)) → length (kept_pixels count runs values) ≡ count
unfolding kept_pixels
kept-length count runs values = length-map-range_with_len (λ p. kept_value values (kept_place runs p)) 0 count

pub kept-at : (count : ℕ) (runs : Option (List Run)) (values : List (Option ℤ)) (p : ℕ) → p < count
    → value_at (kept_pixels count runs values) p ≡ kept_value values (kept_place runs p)
unfolding kept_pixels
kept-at count runs values p within =
    get_or-map-range_with_len (λ q. kept_value values (kept_place runs q)) 0 count p p None within (omega arith)

-- ---- each pixel kept

pub kept-each : (values : List (Option ℤ)) → kept_pixels (length values) None values ≡ values
unfolding kept_place
kept-each values =
    ext_get_or None (kept_pixels (length values) None values) values (kept-length (length values) None values)
    (λ i within. kept-at (length values) None values i (subst (λ n. i < n) (kept-length (length values) None values) within))

pub same-each : (count : ℕ) (runs : Option (List Run)) (values : List (Option ℤ)) → AreKept count runs values → runs ≡ None
    → values ≡ kept_pixels count runs values
same-each count None values kept e = sym (subst (λ n. kept_pixels n None values ≡ values) kept (kept-each values))
same-each count (Some runs) values kept e = let wrong : (let o : Option (List Run) = Some runs in o) ≡ None = e in absurd cc

-- the same, of a list of runs that isn't there
pub all-kept : {X : Type 0} (items : X → List Run) (count : ℕ) (runs : Option X) (values : List (Option ℤ)) → AreKept count (option_map items runs) values
    → runs ≡ None → values ≡ kept_pixels count (option_map items runs) values
all-kept items count runs values kept e = same-each count (option_map items runs) values kept (ap (option_map items) e)

pub count-each : (count : ℕ) (runs : Option (List Run)) (values : List (Option ℤ)) → AreKept count runs values → runs ≡ None
    → length values ≡ count
count-each count None values kept e = kept
count-each count (Some runs) values kept e = let wrong : (let o : Option (List Run) = Some runs in o) ≡ None = e in absurd cc

-- with as many others kept in their place, these are all pixels
pub each-changed : (count : ℕ) (runs : Option (List Run)) (values new : List (Option ℤ)) → AreKept count runs values → runs ≡ None
    → length new ≡ length values → new ≡ kept_pixels count runs new
each-changed count None values new kept e all = same-each count None new (all ∙ kept) e
each-changed count (Some runs) values new kept e all = let wrong : (let o : Option (List Run) = Some runs in o) ≡ None = e in absurd cc

pub none_there : {X Y : Type 0} (f : X → Y) (o : Option X) → is_some o ≡ false → option_map f o ≡ None
none_there f None e = refl
none_there f (Some x) e = absurd cc

-- ---- places

-- a place in a run, and none beside it
place-in : (run : Run) (k : ℕ) → run.first ≤ k → k < run.end → place_in_run run k ≡ Some (run.start + (k - run.first))
unfolding place_in_run
place-in run k low high =
    let a : nat_le run.first k ≡ true = le-leb run.first k low in
    let b : nat_lt k run.end ≡ true = lt-ltb k run.end high in
    rw (a, b) refl

pub place-beside : (run : Run) (k : ℕ) → (k < run.first) ⊎ (run.end ≤ k) → place_in_run run k ≡ None
unfolding place_in_run
place-beside run k (inl lt) = let a : nat_le run.first k ≡ false = lt-leb run.first k lt in rw a refl
place-beside run k (inr ge) = let b : nat_lt k run.end ≡ false = le-ltb k run.end ge in go (nat_le run.first k) b
  where
    go : (a : Bool) → nat_lt k run.end ≡ false
        → (if a && nat_lt k run.end then Some (run.start + (k - run.first)) else (let o : Option ℕ = None in o)) ≡ None
    go true e = rw e refl
    go false e = refl

-- a pixel that has a place is one of a run, and its place tells which
pub record IsPlaceIn (run : Run) (k i : ℕ) : Type 0 where
  pub low : run.first ≤ k
  pub high : k < run.end
  pub place : run.start + (k - run.first) ≡ i

place-told : (run : Run) (k i : ℕ) → place_in_run run k ≡ Some i → IsPlaceIn run k i
place-told run k i e = go (cases_lt k run.first) (cases_lt k run.end)
  where
    go : (k < run.first) ⊎ (run.first ≤ k) → (k < run.end) ⊎ (run.end ≤ k) → IsPlaceIn run k i
    go (inl before) d = let none : place_in_run run k ≡ None = place-beside run k (inl before) in absurd cc
    go (inr low) (inr behind) = let none : place_in_run run k ≡ None = place-beside run k (inr behind) in absurd cc
    go (inr low) (inl high) =
        let there : place_in_run run k ≡ Some (run.start + (k - run.first)) = place-in run k low high in
        record { low = low; high = high; place = cc }

-- a place is one of the values
pub place-inside : (count : ℕ) (runs : Option (List Run)) (values : List (Option ℤ)) (p i : ℕ) → AreKept count runs values → p < count
    → kept_place runs p ≡ Some i → i < length values
unfolding kept_place
place-inside count None values p i kept within e = let same : p ≡ i = cc in omega (arith, same, within, kept)
place-inside count (Some runs) values p i kept within e =
    let told : IsPlaceIn (run_of_block runs (p / 32)) (p % 32) i = place-told (run_of_block runs (p / 32)) (p % 32) i e in
    let inside : _ = kept.1.inside (p / 32) (omega (arith, within, kept.0)) in
    let low : _ = told.low in
    let high : _ = told.high in
    let place : _ = told.place in
    omega (arith, low, high, place, inside)

-- pixels have places apart
pub place-apart : (count : ℕ) (runs : Option (List Run)) (values : List (Option ℤ)) (p q i : ℕ) → AreKept count runs values → p < count → q < count
    → kept_place runs p ≡ Some i → kept_place runs q ≡ Some i → p ≡ q
unfolding kept_place
place-apart count None values p q i kept here there at at' = cc
place-apart count (Some runs) values p q i kept here there at at' =
    let one : IsPlaceIn (run_of_block runs (p / 32)) (p % 32) i = place-told (run_of_block runs (p / 32)) (p % 32) i at in
    let other : IsPlaceIn (run_of_block runs (q / 32)) (q % 32) i = place-told (run_of_block runs (q / 32)) (q % 32) i at' in
    go one other (cases_lt (p / 32) (q / 32)) (cases_lt (q / 32) (p / 32))
  where
    go : IsPlaceIn (run_of_block runs (p / 32)) (p % 32) i → IsPlaceIn (run_of_block runs (q / 32)) (q % 32) i
        → (p / 32 < q / 32) ⊎ (q / 32 ≤ p / 32) → (q / 32 < p / 32) ⊎ (p / 32 ≤ q / 32) → p ≡ q
    go one other (inl lt) d =
        let apart : _ = kept.1.apart (p / 32) (q / 32) lt (omega (arith, there, kept.0)) in
        absurd (omega (arith, apart, one.low, one.high, one.place, other.place))
    go one other (inr ge) (inl gt) =
        let apart : _ = kept.1.apart (q / 32) (p / 32) gt (omega (arith, here, kept.0)) in
        absurd (omega (arith, apart, other.low, other.high, other.place, one.place))
    go one other (inr ge) (inr le) =
        let eq : p / 32 ≡ q / 32 = omega (arith, ge, le) in
        let alike : run_of_block runs (p / 32) ≡ run_of_block runs (q / 32) = ap (run_of_block runs) eq in
        let moved : IsPlaceIn (run_of_block runs (q / 32)) (p % 32) i = subst (λ run. IsPlaceIn run (p % 32) i) alike one in
        omega (arith, eq, moved.low, moved.place, other.low, other.place)

-- there is a block for each pixel
pub block-there : {X : Type 0} (items : X → List Run) (count : ℕ) (runs : Option X) (values : List (Option ℤ)) (p : ℕ)
    → AreKept count (option_map items runs) values → p < count → IfSome runs (λ x. p < length (items x) * 32)
block-there items count None values p kept within = tt
block-there items count (Some x) values p kept within = omega (arith, within, kept.0)

pub block-is-there : {X : Type 0} (items : X → List Run) (count : ℕ) (runs : Option X) (x : X) (values : List (Option ℤ)) (p : ℕ)
    → AreKept count (option_map items runs) values → p < count → runs ≡ Some x → p < length (items x) * 32
block-is-there items count runs x values p kept within e =
    subst (λ o. IfSome o (λ y. p < length (items y) * 32)) e (block-there items count runs values p kept within)

-- what is read at a place is the pixel, and where there is no place the pixel is undefined
pub read-at : (count : ℕ) (runs : Option (List Run)) (values : List (Option ℤ)) (p i : ℕ) (value d : Option ℤ) → AreKept count runs values → p < count
    → kept_place runs p ≡ Some i → value ≡ get_or values i d → value ≡ value_at (kept_pixels count runs values) p
read-at count runs values p i value d kept within e is =
    is ∙ get_or_default values i d None (place-inside count runs values p i kept within e) ∙ sym (ap (kept_value values) e)
    ∙ sym (kept-at count runs values p within)

pub unread-at : (count : ℕ) (runs : Option (List Run)) (values : List (Option ℤ)) (p : ℕ) → p < count → kept_place runs p ≡ None
    → value_at (kept_pixels count runs values) p ≡ None
unread-at count runs values p within e = kept-at count runs values p within ∙ ap (kept_value values) e

-- behind a pixel nothing is defined up to where its block has a place again
pub block-gap : (count : ℕ) (runs : List Run) (values : List (Option ℤ)) (p r : ℕ) (run : Run) → run ≡ get_or runs (p / 32) run → p / 32 < length runs
    → r ≤ 32 → ((j : ℕ) → p % 32 < j → j < r → place_in_run run j ≡ None) → HasGap (kept_pixels count (Some runs) values) (p + 1) (p / 32 * 32 + r)
unfolding kept_place
block-gap count runs values p r run is there most none q low high = at (cases_lt q count)
  where
    same : q / 32 ≡ p / 32
    same = omega (arith, low, high, most)

    block : run_of_block runs (q / 32) ≡ run
    block = ap (run_of_block runs) same ∙ sym (is ∙ get_or_default runs (p / 32) run empty_run there)

    unplaced : kept_place (Some runs) q ≡ None
    unplaced = ap (λ b. place_in_run b (q % 32)) block ∙ none (q % 32) (omega (arith, low, high, most)) (omega (arith, low, high, most))

    at : (q < count) ⊎ (count ≤ q) → value_at (kept_pixels count (Some runs) values) q ≡ None
    at (inl lt) = unread-at count (Some runs) values q lt unplaced
    at (inr ge) = get_or_past (kept_pixels count (Some runs) values) q None (omega (arith, kept-length count (Some runs) values, ge))

-- ---- a write

pub kept-set : (count : ℕ) (runs : Option (List Run)) (values : List (Option ℤ)) (p i : ℕ) (value : Option ℤ) → AreKept count runs values → p < count
    → kept_place runs p ≡ Some i → kept_pixels count runs (set values i value) ≡ slice_set (kept_pixels count runs values) p value
kept-set count runs values p i value kept within e =
    ext_get_or None (kept_pixels count runs (set values i value)) (set (kept_pixels count runs values) p value)
    (kept-length count runs (set values i value) ∙ sym (length-set (kept_pixels count runs values) p value ∙ kept-length count runs values))
    (λ q below. at q (subst (λ n. q < n) (kept-length count runs (set values i value)) below))
  where
    inside : i < length values
    inside = place-inside count runs values p i kept within e

    here : kept_value (set values i value) (kept_place runs p) ≡ value
    here = ap (kept_value (set values i value)) e ∙ get_or-set_same values i value None inside

    elsewhere : (q : ℕ) → q < count → p ≢ q → (o : Option ℕ) → kept_place runs q ≡ o → kept_value (set values i value) o ≡ kept_value values o
    elsewhere q lt other None f = refl
    elsewhere q lt other (Some j) f =
        get_or-set_other values i j value None
        (λ same. other (place-apart count runs values p q i kept within lt e (f ∙ ap (λ (k : ℕ). let o : Option ℕ = Some k in o) same)))

    at : (q : ℕ) → q < count
        → get_or (kept_pixels count runs (set values i value)) q None ≡ get_or (set (kept_pixels count runs values) p value) q None
    at q lt = choose (p == q) refl
      where
        choose : (b : Bool) → p == q ≡ b
            → get_or (kept_pixels count runs (set values i value)) q None
            ≡ get_or (set (kept_pixels count runs values) p value) q None
        choose true e =
            subst
            (λ (r : ℕ). get_or (kept_pixels count runs (set values i value)) r None
            ≡ get_or (set (kept_pixels count runs values) p value) r None)
            (eqb-true p q e)
            (kept-at count runs (set values i value) p within ∙ here
            ∙ sym (get_or-set_same (kept_pixels count runs values) p value None
            (subst (λ n. p < n) (sym (kept-length count runs values)) within)))
        choose false e =
            let other : p ≢ q = eqb-false p q e in
            kept-at count runs (set values i value) q lt ∙ elsewhere q lt other (kept_place runs q) refl
            ∙ sym (kept-at count runs values q lt)
            ∙ sym (get_or-set_other (kept_pixels count runs values) p q value None (λ same. other (sym same)))

-- what is not kept stays undefined
pub unkept-set : (count : ℕ) (runs : Option (List Run)) (values : List (Option ℤ)) (p : ℕ) (value : Option ℤ) → p < count → kept_place runs p ≡ None
    → IfSome value (λ _. IsTrue (is_some (value_at (kept_pixels count runs values) p)))
    → kept_pixels count runs values ≡ slice_set (kept_pixels count runs values) p value
unkept-set count runs values p value within e defined =
    sym (ap (set (kept_pixels count runs values) p) (same value defined)
    ∙ set-get_or (kept_pixels count runs values) p None)
  where
    undefined : value_at (kept_pixels count runs values) p ≡ None
    undefined = unread-at count runs values p within e

    same : (o : Option ℤ) → IfSome o (λ _. IsTrue (is_some (value_at (kept_pixels count runs values) p)))
        → o ≡ get_or (kept_pixels count runs values) p None
    same None h = sym undefined
    same (Some v) h = let wrong : IsTrue (is_some (let o : Option ℤ = None in o)) = subst (λ (o : Option ℤ). IsTrue (is_some o)) undefined h in cc

-- ---- blocks one after the other

-- runs, when one more is added: those before, and the new one
run-before : (runs : List Run) (x : Run) (b : ℕ) → b < length runs → run_of_block (runs ++ x ∷ []) b ≡ run_of_block runs b
run-before runs x b lt = get_or_append_left runs (x ∷ []) empty_run b lt

run-new : (runs : List Run) (x : Run) (b : ℕ) → length runs ≡ b → run_of_block (runs ++ x ∷ []) b ≡ x
run-new runs x b e = get_or_push runs x empty_run b e

-- a run behind all others is apart from them
apart-more : (runs : List Run) (kept more : List (Option ℤ)) (x : Run) → AreRunsApart runs kept → x.start ≡ length kept → x.end - x.first ≤ length more
    → AreRunsApart (runs ++ x ∷ []) (kept ++ more)
apart-more runs kept more x apart start size = record {
  inside = λ b lt. inside b (cases_lt b (length runs)) (omega (arith, lt, longer));
  apart = λ a b lt below. between a b lt (cases_lt b (length runs)) (omega (arith, below, longer));
}
  where
    all : length (kept ++ more) ≡ length kept + length more
    all = length-append kept more

    longer : length (runs ++ x ∷ []) ≡ length runs + 1
    longer = length-append runs (x ∷ [])

    inside : (b : ℕ) → (b < length runs) ⊎ (length runs ≤ b) → b < length runs + 1
        → (run_of_block (runs ++ x ∷ []) b).start + ((run_of_block (runs ++ x ∷ []) b).end - (run_of_block (runs ++ x ∷ []) b).first) ≤ length (kept ++ more)
    inside b (inl low) lt =
        let old : _ = apart.inside b low in
        rw (run-before runs x b low, all) (omega (arith, old))
    inside b (inr ge) lt = rw (run-new runs x b (omega (arith, ge, lt)), all) (omega (arith, start, size))

    between : (a b : ℕ) → a < b → (b < length runs) ⊎ (length runs ≤ b) → b < length runs + 1
        → (run_of_block (runs ++ x ∷ []) a).start + ((run_of_block (runs ++ x ∷ []) a).end - (run_of_block (runs ++ x ∷ []) a).first)
        ≤ (run_of_block (runs ++ x ∷ []) b).start
    between a b lt (inl low) below = rw (run-before runs x b low, run-before runs x a (omega (arith, lt, low))) (apart.apart a b lt low)
    between a b lt (inr ge) below =
        let old : _ = apart.inside a (omega (arith, lt, below)) in
        rw (run-new runs x b (omega (arith, ge, below)), run-before runs x a (omega (arith, lt, below))) (omega (arith, old, start))

-- a value that lies before what is added is read as before
value-before : (kept more : List (Option ℤ)) (o : Option ℕ) → IfSome o (λ i. i < length kept) → kept_value (kept ++ more) o ≡ kept_value kept o
value-before kept more None h = refl
value-before kept more (Some i) h = get_or_append_left kept more None i h

-- the next block's run, with the values between its first and its last defined pixel
pub block-added : (k first end : ℕ) (runs : List Run) (run : Run) (kept more values : List (Option ℤ)) → AreBlocksOf k runs kept values
    → run.start ≡ length kept → k * 32 + run.first ≡ first → k * 32 + run.end ≡ end → first ≤ end → end ≤ k * 32 + 32
    → HasGap values (k * 32) first → HasGap values end (k * 32 + 32)
    → length more ≡ end - first → ((i : ℕ) → i < end - first → get_or more i None ≡ value_at values (first + i))
    → AreBlocksOf (k + 1) (runs ++ run ∷ []) (kept ++ more) values
unfolding kept_place
block-added k first end runs run kept more values before start low high order most none_before none_behind size same_there = record {
  count = length-append runs (run ∷ []) ∙ ap (λ n. n + 1) before.count;
  few = omega (arith, before.few, length-append kept more, size, most, low);
  apart = apart-more runs kept more run before.apart start (omega (arith, size, low, high));
  same = λ p lt. same p lt (cases_lt p (k * 32));
}
  where
    inside : (p : ℕ) → p < k * 32 → (o : Option ℕ) → kept_place (Some runs) p ≡ o → IfSome o (λ i. i < length kept)
    inside p lt None e = tt
    inside p lt (Some i) e = place-inside (k * 32) (Some runs) kept p i (omega (arith, before.count), before.apart) lt e

    new : (p : ℕ) → k * 32 ≤ p → p < (k + 1) * 32 → run_of_block (runs ++ run ∷ []) (p / 32) ≡ run
    new p ge lt = run-new runs run (p / 32) (omega (arith, ge, lt, before.count))

    beside : (p : ℕ) → k * 32 ≤ p → p < (k + 1) * 32 → (p % 32 < run.first) ⊎ (run.end ≤ p % 32)
        → kept_value (kept ++ more) (kept_place (Some (runs ++ run ∷ [])) p) ≡ None
    beside p ge lt out = rw (new p ge lt, place-beside run (p % 32) out) refl

    at : (p : ℕ) → k * 32 ≤ p → p < (k + 1) * 32 → (p % 32 < run.first) ⊎ (run.first ≤ p % 32) → (p % 32 < run.end) ⊎ (run.end ≤ p % 32)
        → kept_value (kept ++ more) (kept_place (Some (runs ++ run ∷ [])) p) ≡ value_at values p
    at p ge lt (inl out) d = beside p ge lt (inl out) ∙ sym (none_before p ge (omega (arith, out, ge, lt, low)))
    at p ge lt (inr in_low) (inr out) = beside p ge lt (inr out) ∙ sym (none_behind p (omega (arith, out, ge, lt, high)) (omega (arith, lt)))
    at p ge lt (inr in_low) (inl in_high) =
        ap (λ r. kept_value (kept ++ more) (place_in_run r (p % 32))) (new p ge lt)
        ∙ ap (kept_value (kept ++ more)) (place-in run (p % 32) in_low in_high)
        ∙ ap (λ s. get_or (kept ++ more) (s + (p % 32 - run.first)) None) start
        ∙ get_or-append-add kept more (p % 32 - run.first) None
        ∙ same_there (p % 32 - run.first) (omega (arith, in_low, in_high, low, high))
        ∙ ap (value_at values) (omega (arith, in_low, ge, lt, low))

    same : (p : ℕ) → p < (k + 1) * 32 → (p < k * 32) ⊎ (k * 32 ≤ p)
        → kept_value (kept ++ more) (kept_place (Some (runs ++ run ∷ [])) p) ≡ value_at values p
    same p lt (inl under) =
        ap (λ r. kept_value (kept ++ more) (place_in_run r (p % 32))) (run-before runs run (p / 32) (omega (arith, under, before.count)))
        ∙ value-before kept more (kept_place (Some runs) p) (inside p under (kept_place (Some runs) p) refl)
        ∙ before.same p under
    same p lt (inr ge) = at p ge lt (cases_lt (p % 32) run.first) (cases_lt (p % 32) run.end)

-- behind the last pixel nothing is defined
pub gap-to : (values : List (Option ℤ)) (end high limit : ℕ) → HasGap values end high → (limit ≤ high) ⊎ (length values ≤ high)
    → HasGap values end limit
gap-to values end high limit none reach p low below = go (cases_lt p high) reach
  where
    go : (p < high) ⊎ (high ≤ p) → (limit ≤ high) ⊎ (length values ≤ high) → value_at values p ≡ None
    go (inl lt) r = none p low lt
    go (inr ge) (inl all) = absurd (omega (arith, ge, all, below))
    go (inr ge) (inr past) = get_or_past values p None (omega (arith, ge, past))

-- the lesser of two values reaches one of them
pub min-reaches : (a b r : ℕ) → r ≡ min a b → (b ≤ r) ⊎ (a ≤ r)
min-reaches a b r e = go (cases_lt a b)
  where
    go : (a < b) ⊎ (b ≤ a) → (b ≤ r) ⊎ (a ≤ r)
    go (inl lt) = inr (omega (arith, e, lt))
    go (inr ge) = inl (omega (arith, e, ge))

-- blocks for all pixels
pub kept-in-blocks : (k : ℕ) (runs : List Run) (kept values : List (Option ℤ)) → length values ≤ k * 32 → AreBlocksOf k runs kept values
    → kept_pixels (length values) (Some runs) kept ≡ values
kept-in-blocks k runs kept values enough blocks =
    ext_get_or None (kept_pixels (length values) (Some runs) kept) values (kept-length (length values) (Some runs) kept)
    (λ i within.
    let lt : i < length values = subst (λ n. i < n) (kept-length (length values) (Some runs) kept) within in
    kept-at (length values) (Some runs) kept i lt ∙ blocks.same i (omega (arith, lt, enough)))

pub all-in-blocks : (k : ℕ) (runs : List Run) (kept values : List (Option ℤ)) → length values ≤ k * 32 → AreBlocksOf k runs kept values
    → AreAllInBlocks runs kept values
all-in-blocks k runs kept values enough blocks = record {
  apart = (omega (arith, enough, blocks.count), blocks.apart);
  same = kept-in-blocks k runs kept values enough blocks;
}

-- no blocks
pub no-blocks : (runs : List Run) (kept values : List (Option ℤ)) → runs ≡ [] → kept ≡ [] → AreBlocksOf 0 runs kept values
no-blocks runs kept values e f =
    let size : length runs ≡ 0 = ap length e in record {
      count = size;
      few = omega (arith, ap length f);
      apart = record { inside = λ b lt. absurd (omega (arith, lt, size)); apart = λ a b lt more. absurd (omega (arith, more, size)) };
      same = λ p lt. absurd (omega (arith, lt));
    }

-- the same of as many pixels
pub count-in-blocks : (n : ℕ) (runs : List Run) (kept values : List (Option ℤ)) → length values ≡ n → AreAllInBlocks runs kept values
    → AreKept n (Some runs) kept
count-in-blocks n runs kept values e all = subst (λ m. AreKept m (Some runs) kept) e all.apart

pub these-in-blocks : (n : ℕ) (runs : List Run) (kept values : List (Option ℤ)) → length values ≡ n → AreAllInBlocks runs kept values
    → kept_pixels n (Some runs) kept ≡ values
these-in-blocks n runs kept values e all = subst (λ m. kept_pixels m (Some runs) kept ≡ values) e all.same

-- ---- pixels as they are shown

pub length-shown : (values : List (Option ℤ)) (marks : Option (Bor (List Bool))) → length (shown_values values marks) ≡ length values
unfolding shown_values
length-shown values None = refl
length-shown values (Some marks) = length-marked values marks.now

pub shown-none : (values : List (Option ℤ)) → shown_values values None ≡ values
unfolding shown_values
shown-none values = refl

pub shown-some : (values : List (Option ℤ)) (marks : Bor (List Bool)) → shown_values values (Some marks) ≡ marked_values values marks.now
unfolding shown_values
shown-some values marks = refl

-- a pixel without marks, and one with them
pub shown-all : (values : List (Option ℤ)) (marks : Option (Bor (List Bool))) (value : Option ℤ) (p : ℕ) → marks ≡ None
    → value ≡ value_at values p → value ≡ value_at (shown_values values marks) p
shown-all values marks value p e is =
    is ∙ sym (ap (λ o. value_at (shown_values values o) p) e ∙ ap (λ vs. get_or vs p None) (shown-none values))

pub shown-marked : (values : List (Option ℤ)) (marks : Option (Bor (List Bool))) (m : Bor (List Bool)) (p : ℕ) → marks ≡ Some m → p < length values
    → cond (slice_index_or m.now p false) (value_at values p) None ≡ value_at (shown_values values marks) p
shown-marked values marks m p e inside =
    sym (ap (λ o. value_at (shown_values values o) p) e ∙ ap (λ vs. get_or vs p None) (shown-some values m) ∙ marked-at values m.now p inside)

-- a part of some values
pub part-at : (values : List (Option ℤ)) (first n i : ℕ) → i < n
    → get_or (map (value_at values) (range_with_len first n)) i None ≡ value_at values (first + i)
part-at values first n i lt = get_or-map-range_with_len (value_at values) first n i (first + i) None lt (omega arith)

pub part-more : (values : List (Option ℤ)) (first p : ℕ) → first ≤ p
    → map (value_at values) (range_with_len first (p + 1 - first)) ≡ map (value_at values) (range_with_len first (p - first)) ++ value_at values p ∷ []
part-more values first p low =
    ap (λ n. map (value_at values) (range_with_len first n)) (let e : p + 1 - first ≡ p - first + 1 = omega (arith, low) in e)
    ∙ map-range_with_len_more (value_at values) first (p - first) p (omega (arith, low))

-- ---- what holds where there is an answer

pub if-made : {X E : Type 0} (r : Result (Option X) E) (P Q : X → Type 0) → ((x : X) → P x → Q x) → IfOk r (λ o. IfSome o P) → IfOk r (λ o. IfSome o Q)
if-made (Ok None) P Q f h = tt
if-made (Ok (Some x)) P Q f h = f x h
if-made (Err e) P Q f h = tt

pub if-done : {X E : Type 0} (r : Result X E) (P Q : Type 0) → (P → Q) → OnOk r P → OnOk r Q
if-done (Ok x) P Q f h = f h
if-done (Err e) P Q f h = tt
