-- The list of the sources, by their least pixels.
use Rattle.std.proofs.Common.{◌≡◌, ℕ, ◌+◌, ◌-◌, ◌*◌, ◌^◌, ◌<◌, ◌≤◌, zero, suc, Bool, true, false, cond, ◌&&◌, List, [], ◌∷◌, ◌++◌, length, min, refl, sym}
use Rattle.std.proofs.Common.{◌∙◌, ap, subst, arith, ◌⊎◌, inl, inr}
use Rattle.std.specs.Prelude.{IsTrue, ◌==◌, filter, Some, slice_get, Contains}
use Rattle.std.specs.List.{range_with_len, flat_map}
use Rattle.std.proofs.lemmas.Bool.{eqb-true, eq-eqb, and_parts, and_from, false_from_ne_true, cases_lt, cases_eq}
use Rattle.std.proofs.lemmas.List.{append-nil}
use Rattle.std.proofs.lemmas.List.Concat.{flat_map-append}
use Rattle.std.proofs.lemmas.Option.{slice_get-get_or, same_Some}
use Rattle.lemmas.proofs.Exported.{IsAmong, among-filter, among_from_filter, contains_from_among}
use Rattle.comp_tree.specs.declared.shape.Connect.{Connect}
use Rattle.comp_tree.specs.Raster.{Raster, IsPlane, pixels}
use Rattle.comp_tree.specs.Components.{nodes, is_in_node}
use Rattle.comp_tree.specs.Laws.{top_of, AreDisjoint}
use Rattle.comp_tree.proofs.Exported.{among_from_defined, below_from_defined, in_node-defined, top_inside}
use Rattle.node_sums.specs.Sums.{least, sums_over, sums_of}
use Rattle.comp_tree.specs.Nesting.{pixels_of, node_numbers}
use Rattle.node_sums.proofs.Exported.{node_from_among, range-push}
use Rattle.source_pick.specs.declared.choice.Choice.{Choice}
use Rattle.source_pick.specs.Sources.{is_source, sources_at, sources}
use Rattle.source_pick.specs.Laws.{SourcesAreListed, SourcesAreInOrder}
use Rattle.source_pick.proofs.NodesSourcing.{sources_that_share, sources_are_disjoint}

-- ---- the least pixel of a node

least_among : (ps : List ℕ) (x : ℕ) → IsAmong x ps → ((p : ℕ) → IsAmong p ps → p < 2 ^ 32 - 1) → IsAmong (least (λ p. p) ps) ps
least_among [] x h small = absurd h
least_among (y ∷ []) x h small = let l : y < 2 ^ 32 - 1 = small y (inl refl) in let e : y ≡ min y (2 ^ 32 - 1) = omega arith in inl e
least_among (y ∷ z ∷ zs) x h small = go (cases_lt (least (λ p. p) (z ∷ zs)) y) (least_among (z ∷ zs) z (inl refl) (λ p k. small p (inr k)))
  where
    go : (least (λ p. p) (z ∷ zs) < y) ⊎ (y ≤ least (λ p. p) (z ∷ zs)) → IsAmong (least (λ p. p) (z ∷ zs)) (z ∷ zs)
        → IsAmong (least (λ p. p) (y ∷ z ∷ zs)) (y ∷ z ∷ zs)
    go (inl l) ih =
        let e : least (λ p. p) (z ∷ zs) ≡ min y (least (λ p. p) (z ∷ zs)) = omega arith in
        inr (subst (λ (m : ℕ). IsAmong m (z ∷ zs)) e ih)
    go (inr l) ih = let e : y ≡ min y (least (λ p. p) (z ∷ zs)) = omega arith in inl e

pub first_inside : (r : Raster) (connect : Connect) (n : ℕ) → IsPlane r → n < length (nodes r connect)
    → is_in_node r connect n (sums_of r connect n).first ≡ true
unfolding sums_of sums_over pixels_of
first_inside r connect n plane hn =
    (among_from_filter (is_in_node r connect n) (least (λ p. p) (filter (is_in_node r connect n) (pixels r))) (pixels r)
    (least_among (filter (is_in_node r connect n) (pixels r)) (top_of r connect n) top small)).1
  where
    top : IsAmong (top_of r connect n) (filter (is_in_node r connect n) (pixels r))
    top = among-filter (is_in_node r connect n) (top_of r connect n) (pixels r)
        (among_from_defined r (top_of r connect n) (in_node-defined r connect n (top_of r connect n) (top_inside r connect n hn))) (top_inside r connect n hn)

    small : (p : ℕ) → IsAmong p (filter (is_in_node r connect n) (pixels r)) → p < 2 ^ 32 - 1
    small p k =
        let l : p < length r.values = below_from_defined r p (in_node-defined r connect n p (among_from_filter (is_in_node r connect n) p (pixels r) k).1) in
        let f : r.shape.width * r.shape.height ≤ 2147483647 = r.shape.within_limits.few_pixels in
        let e : length r.values ≡ r.shape.width * r.shape.height = plane in
        omega arith

pub first_below : (r : Raster) (connect : Connect) (n : ℕ) → IsPlane r → n < length (nodes r connect) → (sums_of r connect n).first < length r.values
first_below r connect n plane hn =
    below_from_defined r (sums_of r connect n).first (in_node-defined r connect n (sums_of r connect n).first (first_inside r connect n plane hn))

-- ---- the sources at a pixel

filter_none : (test : ℕ → Bool) (a n : ℕ) → ((x : ℕ) → a ≤ x → x < a + n → test x ≡ false) → filter test (range_with_len a n) ≡ []
filter_none test a zero h = refl
filter_none test a (suc n) h =
    let off : test a ≡ false = h a (omega arith) (omega arith) in
    let rest : filter test (range_with_len (a + 1) n) ≡ [] = filter_none test (a + 1) n (λ x l u. h x (omega arith) (omega arith)) in
    rw (off, rest) refl

filter_one : (test : ℕ → Bool) (a n y : ℕ) → a ≤ y → y < a + n → test y ≡ true → ((x : ℕ) → a ≤ x → x < a + n → test x ≡ true → x ≡ y)
    → filter test (range_with_len a n) ≡ y ∷ []
filter_one test a zero y low high h only = absurd (omega arith)
filter_one test a (suc n) y low high h only = go (cases_eq a y) (filter_one test (a + 1) n y)
  where
    go : (a ≡ y) ⊎ (a ≡ y → ⊥)
        → (a + 1 ≤ y → y < a + 1 + n → test y ≡ true → ((x : ℕ) → a + 1 ≤ x → x < a + 1 + n → test x ≡ true → x ≡ y) → filter test (range_with_len (a + 1) n)
        ≡ y ∷ [])
        → cond (test a) (a ∷ filter test (range_with_len (a + 1) n)) (filter test (range_with_len (a + 1) n)) ≡ y ∷ []
    go (inl e) ih =
        let on : test a ≡ true = ap test e ∙ h in
        let rest : filter test (range_with_len (a + 1) n) ≡ [] = filter_none test (a + 1) n
        (λ x l u. false_from_ne_true (test x) (λ k. let s : x ≡ y = only x (omega arith) (omega arith) k in absurd (omega arith))) in
        rw (on, rest) (ap (λ (x : ℕ). x ∷ []) e)
    go (inr d) ih =
        let off : test a ≡ false = false_from_ne_true (test a) (λ k. d (only a (omega arith) (omega arith) k)) in
        rw off (ih (omega arith) (omega arith) h (λ x l u k. only x (omega arith) (omega arith) k))

-- n is a source, and p its least pixel
pub record IsSourceAt (r : Raster) (connect : Connect) (choice : Choice) (p n : ℕ) : Type 0 where
  pub node : n < length (nodes r connect)
  pub source : is_source r connect choice n ≡ true
  pub first : (sums_of r connect n).first ≡ p

pub same_source : (r : Raster) (connect : Connect) (choice : Choice) (p m n : ℕ) → IsPlane r → IsSourceAt r connect choice p m
    → IsSourceAt r connect choice p n → m ≡ n
same_source r connect choice p m n plane a b =
    sources_that_share r connect choice m n p plane a.node b.node a.source b.source
    (subst (λ (q : ℕ). is_in_node r connect m q ≡ true) a.first (first_inside r connect m plane a.node))
    (subst (λ (q : ℕ). is_in_node r connect n q ≡ true) b.first (first_inside r connect n plane b.node))

source_test : (r : Raster) (connect : Connect) (choice : Choice) (p n : ℕ) → n < length (nodes r connect)
    → is_source r connect choice n && ((sums_of r connect n).first == p) ≡ true → IsSourceAt r connect choice p n
source_test r connect choice p n hn h =
    let parts = and_parts (is_source r connect choice n) ((sums_of r connect n).first == p) h in
    record { node = hn; source = parts.0; first = eqb-true (sums_of r connect n).first p parts.1 }

sources_at-one : (r : Raster) (connect : Connect) (choice : Choice) (p n : ℕ) → IsPlane r → IsSourceAt r connect choice p n
    → sources_at r connect choice p ≡ n ∷ []
unfolding sources_at
sources_at-one r connect choice p n plane k =
    filter_one (λ x. is_source r connect choice x && ((sums_of r connect x).first == p)) 0 (length (nodes r connect)) n (omega arith) (omega (arith, k.node))
    (and_from (is_source r connect choice n) ((sums_of r connect n).first == p) k.source (eq-eqb (sums_of r connect n).first p k.first))
    (λ x l u h. same_source r connect choice p x n plane (source_test r connect choice p x (omega arith) h) k)

among_sources_at : (r : Raster) (connect : Connect) (choice : Choice) (p n : ℕ) → IsAmong n (sources_at r connect choice p)
    → IsSourceAt r connect choice p n
unfolding sources_at
among_sources_at r connect choice p n h =
    let k = among_from_filter (λ x. is_source r connect choice x && ((sums_of r connect x).first == p)) n (node_numbers r connect) h in
    source_test r connect choice p n (node_from_among r connect n k.0) k.1

-- ---- the list

-- an element of a list to which one was added
get-push : (xs : List ℕ) (x i m : ℕ) → slice_get (xs ++ x ∷ []) i ≡ Some m → ((i < length xs) × (slice_get xs i ≡ Some m)) ⊎ ((i ≡ length xs) × (x ≡ m))
get-push [] x zero m h = inr (refl, same_Some x m h)
get-push [] x (suc i) m h = absurd (cc)
get-push (y ∷ xs) x zero m h = inl (omega arith, h)
get-push (y ∷ xs) x (suc i) m h = go (get-push xs x i m h)
  where
    go : ((i < length xs) × (slice_get xs i ≡ Some m)) ⊎ ((i ≡ length xs) × (x ≡ m))
        → ((suc i < length (y ∷ xs)) × (slice_get (y ∷ xs) (suc i) ≡ Some m)) ⊎ ((suc i ≡ length (y ∷ xs)) × (x ≡ m))
    go (inl k) = let l : i < length xs = k.0 in inl (omega arith, k.1)
    go (inr k) = let e : i ≡ length xs = k.0 in inr (omega arith, k.1)

-- a member of the list
record IsListed (r : Raster) (connect : Connect) (choice : Choice) (count n : ℕ) : Type 0 where
  pub node : n < length (nodes r connect)
  pub source : is_source r connect choice n ≡ true
  pub first : (sums_of r connect n).first < count

record AreListed (r : Raster) (connect : Connect) (choice : Choice) (count : ℕ) (xs : List ℕ) : Type 0 where
  pub each : (i n : ℕ) → slice_get xs i ≡ Some n → IsListed r connect choice count n
  pub rise : (i j m n : ℕ) → i < j → slice_get xs i ≡ Some m → slice_get xs j ≡ Some n → (sums_of r connect m).first < (sums_of r connect n).first
  pub all : (n : ℕ) → IsListed r connect choice count n → IsAmong n xs

among_left : (n : ℕ) (xs ys : List ℕ) → IsAmong n xs → IsAmong n (xs ++ ys)
among_left n [] ys h = absurd h
among_left n (x ∷ xs) ys (inl e) = inl e
among_left n (x ∷ xs) ys (inr h) = inr (among_left n xs ys h)

among_last : (n : ℕ) (xs : List ℕ) → IsAmong n (xs ++ n ∷ [])
among_last n [] = inl refl
among_last n (x ∷ xs) = inr (among_last n xs)

listed_one : (r : Raster) (connect : Connect) (choice : Choice) (count : ℕ) (xs : List ℕ) (x : ℕ) → IsPlane r → AreListed r connect choice count xs
    → IsSourceAt r connect choice count x → AreListed r connect choice (suc count) (xs ++ x ∷ [])
listed_one r connect choice count xs x plane h k = record {
  each = λ i n g. each n (get-push xs x i n g);
  rise = λ i j m n l f g. rise m n l (get-push xs x i m f) (get-push xs x j n g);
  all = λ n m. all n m (cases_eq (sums_of r connect n).first count);
}
  where
    each : {i : ℕ} (n : ℕ) → ((i < length xs) × (slice_get xs i ≡ Some n)) ⊎ ((i ≡ length xs) × (x ≡ n)) → IsListed r connect choice (suc count) n
    each {i} n (inl g) =
        let m : IsListed r connect choice count n = h.each i n g.1 in
        record { node = m.node; source = m.source; first = omega (arith, m.first) }
    each n (inr g) =
        subst (λ (y : ℕ). IsListed r connect choice (suc count) y) g.1 (record { node = k.node; source = k.source; first = omega (arith, k.first) })

    rise : {i j : ℕ} (m n : ℕ) → i < j → ((i < length xs) × (slice_get xs i ≡ Some m)) ⊎ ((i ≡ length xs) × (x ≡ m))
        → ((j < length xs) × (slice_get xs j ≡ Some n)) ⊎ ((j ≡ length xs) × (x ≡ n)) → (sums_of r connect m).first < (sums_of r connect n).first
    rise {i} {j} m n l (inl f) (inl g) = h.rise i j m n l f.1 g.1
    rise {i} {j} m n l (inl f) (inr g) =
        let a : (sums_of r connect m).first < count = (h.each i m f.1).first in
        let b : (sums_of r connect n).first ≡ count = ap (λ (y : ℕ). (sums_of r connect y).first) (sym g.1) ∙ k.first in
        omega arith
    rise {i} {j} m n l (inr f) (inl g) = let a : i ≡ length xs = f.0 in let b : j < length xs = g.0 in absurd (omega arith)
    rise {i} {j} m n l (inr f) (inr g) = let a : i ≡ length xs = f.0 in let b : j ≡ length xs = g.0 in absurd (omega arith)

    all : (n : ℕ) → IsListed r connect choice (suc count) n → ((sums_of r connect n).first ≡ count) ⊎ ((sums_of r connect n).first ≡ count → ⊥)
        → IsAmong n (xs ++ x ∷ [])
    all n m (inl e) =
        let same : x ≡ n = same_source r connect choice count x n plane k (record { node = m.node; source = m.source; first = e }) in
        subst (λ (y : ℕ). IsAmong y (xs ++ x ∷ [])) same (among_last x xs)
    all n m (inr d) =
        let a : (sums_of r connect n).first < suc count = m.first in
        among_left n xs (x ∷ []) (h.all n (record { node = m.node; source = m.source; first = omega arith }))

listed_none : (r : Raster) (connect : Connect) (choice : Choice) (count : ℕ) (xs : List ℕ) → AreListed r connect choice count xs
    → ((n : ℕ) → IsSourceAt r connect choice count n → ⊥) → AreListed r connect choice (suc count) xs
listed_none r connect choice count xs h none = record {
  each = λ i n g. (let m : IsListed r connect choice count n = h.each i n g in record { node = m.node; source = m.source; first = omega (arith, m.first) });
  rise = h.rise;
  all = λ n m. all n m (cases_eq (sums_of r connect n).first count);
}
  where
    all : (n : ℕ) → IsListed r connect choice (suc count) n → ((sums_of r connect n).first ≡ count) ⊎ ((sums_of r connect n).first ≡ count → ⊥) → IsAmong n xs
    all n m (inl e) = absurd (none n (record { node = m.node; source = m.source; first = e }))
    all n m (inr d) = let a : (sums_of r connect n).first < suc count = m.first in h.all n (record { node = m.node; source = m.source; first = omega arith })

flat-push : (r : Raster) (connect : Connect) (choice : Choice) (count : ℕ)
    → flat_map (sources_at r connect choice) (range_with_len 0 (suc count)) ≡ flat_map (sources_at r connect choice) (range_with_len 0 count)
    ++ sources_at r connect choice count
flat-push r connect choice count =
    ap (flat_map (sources_at r connect choice)) (range-push 0 count count (omega arith))
    ∙ flat_map-append (sources_at r connect choice) (range_with_len 0 count) (count ∷ [])
    ∙ ap (λ (ys : List ℕ). flat_map (sources_at r connect choice) (range_with_len 0 count) ++ ys) (append-nil (sources_at r connect choice count))

are_listed : (r : Raster) (connect : Connect) (choice : Choice) (count : ℕ) → IsPlane r
    → AreListed r connect choice count (flat_map (sources_at r connect choice) (range_with_len 0 count))
are_listed r connect choice zero plane = record {
  each = λ i n g. absurd (cc);
  rise = λ i j m n l f g. absurd (cc);
  all = λ n m. (let l : (sums_of r connect n).first < zero = m.first in absurd (omega arith));
}
are_listed r connect choice (suc count) plane =
    subst (AreListed r connect choice (suc count)) (sym (flat-push r connect choice count))
    (go (sources_at r connect choice count) refl (are_listed r connect choice count plane))
  where
    go : (ys : List ℕ) → sources_at r connect choice count ≡ ys
        → AreListed r connect choice count (flat_map (sources_at r connect choice) (range_with_len 0 count))
        → AreListed r connect choice (suc count) (flat_map (sources_at r connect choice) (range_with_len 0 count) ++ sources_at r connect choice count)
    go [] u ih =
        subst (AreListed r connect choice (suc count))
        (sym (ap (λ (ys : List ℕ). flat_map (sources_at r connect choice) (range_with_len 0 count) ++ ys) u ∙ append-nil
        (flat_map (sources_at r connect choice) (range_with_len 0 count))))
        (listed_none r connect choice count (flat_map (sources_at r connect choice) (range_with_len 0 count)) ih none)
      where
        cons_nil : (n : ℕ) → n ∷ [] ≡ [] → ⊥
        cons_nil n e = cc

        none : (n : ℕ) → IsSourceAt r connect choice count n → ⊥
        none n k = cons_nil n (sym (sources_at-one r connect choice count n plane k) ∙ u)
    go (x ∷ ys) u ih =
        subst (λ (zs : List ℕ). AreListed r connect choice (suc count) (flat_map (sources_at r connect choice) (range_with_len 0 count) ++ zs))
        (sym (sources_at-one r connect choice count x plane k))
        (listed_one r connect choice count (flat_map (sources_at r connect choice) (range_with_len 0 count)) x plane ih k)
      where
        k : IsSourceAt r connect choice count x
        k = among_sources_at r connect choice count x (subst (λ (zs : List ℕ). IsAmong x zs) (sym u) (inl refl))

list_is : (r : Raster) (connect : Connect) (choice : Choice)
    → sources r connect choice ≡ flat_map (sources_at r connect choice) (range_with_len 0 (length r.values))
unfolding sources pixels
list_is r connect choice = refl

sources_listed : (r : Raster) (connect : Connect) (choice : Choice) → IsPlane r → AreListed r connect choice (length r.values) (sources r connect choice)
sources_listed r connect choice plane =
    subst (AreListed r connect choice (length r.values)) (sym (list_is r connect choice)) (are_listed r connect choice (length r.values) plane)

pub sources_are_listed : SourcesAreListed
sources_are_listed r connect choice n plane = (there, back)
  where
    there : Contains (sources r connect choice) n → (n < length (nodes r connect)) × IsTrue (is_source r connect choice n)
    there (k, l, e) =
        let m : IsListed r connect choice (length r.values) n =
        (sources_listed r connect choice plane).each k n (slice_get-get_or (sources r connect choice) k n l ∙ ap Some e) in
        (m.node, m.source)

    back : (n < length (nodes r connect)) × IsTrue (is_source r connect choice n) → Contains (sources r connect choice) n
    back k = contains_from_among n (sources r connect choice)
        ((sources_listed r connect choice plane).all n (record { node = k.0; source = k.1; first = first_below r connect n plane k.0 }))

pub sources_are_in_order : SourcesAreInOrder
sources_are_in_order r connect choice i j m n plane l f g = (sources_listed r connect choice plane).rise i j m n l f g

-- ---- as nodes that share no pixel

pub source_node : (r : Raster) (connect : Connect) (choice : Choice) (i n : ℕ) → IsPlane r → slice_get (sources r connect choice) i ≡ Some n
    → n < length (nodes r connect)
source_node r connect choice i n plane g = ((sources_listed r connect choice plane).each i n g).node

pub sources_apart : (r : Raster) (connect : Connect) (choice : Choice) (i j m n : ℕ) → IsPlane r → i < j
    → slice_get (sources r connect choice) i ≡ Some m → slice_get (sources r connect choice) j ≡ Some n → AreDisjoint r connect m n
sources_apart r connect choice i j m n plane l f g =
    let a : IsListed r connect choice (length r.values) m = (sources_listed r connect choice plane).each i m f in
    let b : IsListed r connect choice (length r.values) n = (sources_listed r connect choice plane).each j n g in
    let rise : (sums_of r connect m).first < (sums_of r connect n).first = (sources_listed r connect choice plane).rise i j m n l f g in
    sources_are_disjoint r connect choice m n plane a.node b.node a.source b.source
    (λ e. let s : (sums_of r connect m).first ≡ (sums_of r connect n).first = ap (λ (x : ℕ). (sums_of r connect x).first) e in absurd (omega arith))
