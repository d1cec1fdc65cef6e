-- The steps of the passes: a pixel is added to its smallest node's entry, a node's entry to that of its parent, and each is settled.
use Rattle.std.proofs.Common.{◌≡◌, ℕ, ◌+◌, ◌-◌, ◌*◌, ◌<◌, ◌≤◌, zero, suc, Bool, true, false, List, [], ◌∷◌, ◌++◌, length, map, refl, sym, ◌∙◌, ap, subst}
use Rattle.std.proofs.Common.{arith, ◌⊎◌, inl, inr, get_or, set, add-one}
use Rattle.std.specs.Prelude.{◌==◌, ◌&&◌, ℤ, IfSome, Option, Some, None, filter, replicate, slice_get, slice_index, slice_index_or}
use Rattle.std.specs.List.{range_with_len}
use Rattle.std.proofs.lemmas.Bool.{eq-eqb, ne_eqb, cases_lt}
use Rattle.std.proofs.lemmas.List.{length-set}
use Rattle.std.proofs.lemmas.Option.{slice_get-get_or, slice_get_within}
use Rattle.lemmas.proofs.Exported.{IsAmong, among_from_range, filter_same_among}
use Rattle.comp_tree.specs.declared.shape.Connect.{Connect}
use Rattle.comp_tree.specs.declared.shape.Shape.{Shape}
use Rattle.comp_tree.specs.declared.tree.NodeRow.{NodeRow}
use Rattle.comp_tree.specs.Limits.{IsWithin, value_bound}
use Rattle.comp_tree.specs.Raster.{Raster, IsPlane, HasValuesInRange, pixels, is_defined, value_at}
use Rattle.comp_tree.specs.ComponentTree.{ComponentTree, parent_in, no_node}
use Rattle.comp_tree.specs.Components.{nodes, is_in_node, tree_of}
use Rattle.comp_tree.specs.Nesting.{pixels_of}
use Rattle.comp_tree.proofs.Exported.{below_no_node, node-undefined}
use Rattle.node_sums.specs.Counted.{is_counted}
use Rattle.node_sums.proofs.Exported.{value_within, counted-start, counted-end, counted-same, counted-parent, number-within, IsUnion, range-push}
use Rattle.node_sums.proofs.Exported.{filter_yes, filter_no, filter_same, rows_are, parent_is, parent_inside, numbers_for_pixels, get-written, row-parent}
use Rattle.dual_measure.specs.declared.values.Measure.{Measure}
use Rattle.dual_measure.specs.Measures.{measure_over, measure_of, measures_of, HasMeasureSizes, IsPlanesTree, AreTheTreesMeasures}
use Rattle.dual_measure.specs.Adding.{blank_measure, measure_at, combined, measured_so_far, settled_measure, AreOfFront, AreDownTo}
use Rattle.dual_measure.proofs.Measuring.{pixel_measure, settled_is, so_far-none, so_far-push, so_far-union, so_far_small}
use Rattle.source_pick.proofs.Exported.{tree-shape}

-- ---- the pass over the pixels

-- the pixels of a front whose smallest node is m
abbrev own_front : List ℕ → ℕ → ℕ → List ℕ
own_front node_of m n = filter (λ q. slice_index node_of q == m) (range_with_len 0 n)

pub front_none : (values : Raster) (node_of : List ℕ) (n : ℕ) (entries : List Measure) → entries ≡ replicate n blank_measure
    → AreOfFront values node_of 0 entries
front_none values node_of n entries e = record {
  own = λ m entry g. is_blank n m entry (sym (ap (λ (xs : List Measure). slice_get xs m) e) ∙ g) ∙ sym (so_far-none values);
  small = λ q v l is. absurd (omega arith);
}
  where
    is_blank : (k m : ℕ) (entry : Measure) → slice_get (replicate k blank_measure) m ≡ Some entry → entry ≡ blank_measure
    is_blank zero m entry g = absurd (cc)
    is_blank (suc k) zero entry g = let x : blank_measure ≡ entry = cc in sym x
    is_blank (suc k) (suc m) entry g = is_blank k m entry g

small_next : (values : Raster) (p : ℕ) → ((q : ℕ) (v : ℤ) → q < p → value_at values.values q ≡ Some v → IsWithin (value_bound (length values.values)) v)
    → ((v : ℤ) → value_at values.values p ≡ Some v → IsWithin (value_bound (length values.values)) v)
    → (q : ℕ) (v : ℤ) → q < p + 1 → value_at values.values q ≡ Some v → IsWithin (value_bound (length values.values)) v
small_next values p small here q v l is = go (cases_lt q p)
  where
    go : (q < p) ⊎ (p ≤ q) → IsWithin (value_bound (length values.values)) v
    go (inl k) = small q v k is
    go (inr k) = let e : q ≡ p = omega arith in here v (ap (value_at values.values) (sym e) ∙ is)

-- the pixels before p were added, and the code has made the measure of p
pub record IsPixelTurn (values : Raster) (node_of : List ℕ) (entries : List Measure) (p : ℕ) (pixel : Measure) : Type 0 where
  pub front : AreOfFront values node_of p entries
  pub inside : p < length values.values
  pub in_range : (v : ℤ) → value_at values.values p ≡ Some v → IsWithin (value_bound (length values.values)) v
  pub pixel_is : pixel ≡ measure_at (value_at values.values p)

pub turn_from_code : (values : Raster) (node_of : List ℕ) (entries : List Measure) (p : ℕ) (got : Option ℤ) (pixel : Measure)
    → AreOfFront values node_of p entries → p < length values.values
    → got ≡ value_at values.values p → IfSome got (λ v. IsWithin (value_bound (length values.values)) v) → pixel ≡ measure_at got → IsPixelTurn values node_of entries p pixel
turn_from_code values node_of entries p got pixel front inside reads in_range made = record {
  front = front;
  inside = inside;
  in_range = λ v e. here got v in_range (reads ∙ e);
  pixel_is = made ∙ ap measure_at reads;
}
  where
    here : (o : Option ℤ) (v : ℤ) → IfSome o (λ x. IsWithin (value_bound (length values.values)) x) → o ≡ Some v → IsWithin (value_bound (length values.values)) v
    here None v h e = absurd (cc)
    here (Some x) v h e = let same : x ≡ v = cc in subst (IsWithin (value_bound (length values.values))) same h

front_push : (node_of : List ℕ) (n p : ℕ) → slice_index node_of p ≡ n → own_front node_of n (p + 1) ≡ own_front node_of n p ++ p ∷ []
front_push node_of n p e =
    ap (filter (λ q. slice_index node_of q == n)) (rw add-one (range-push 0 p p (omega arith)))
    ∙ filter_yes (λ q. slice_index node_of q == n) (range_with_len 0 p) p (eq-eqb (slice_index node_of p) n e)

front_same : (node_of : List ℕ) (m p : ℕ) → (slice_index node_of p ≡ m → ⊥) → own_front node_of m (p + 1) ≡ own_front node_of m p
front_same node_of m p ne =
    ap (filter (λ q. slice_index node_of q == m)) (rw add-one (range-push 0 p p (omega arith)))
    ∙ filter_no (λ q. slice_index node_of q == m) (range_with_len 0 p) p (ne_eqb (slice_index node_of p) m ne)

turn_sum : (values : Raster) (node_of : List ℕ) (entries : List Measure) (p n : ℕ) (entry pixel : Measure) → IsPixelTurn values node_of entries p pixel
    → slice_index node_of p ≡ n
    → slice_get entries n ≡ Some entry → combined entry pixel ≡ measured_so_far values (own_front node_of n (p + 1))
turn_sum values node_of entries p n entry pixel t e g =
    ap (combined entry) t.pixel_is ∙ ap (λ (m : Measure). combined m (pixel_measure values p)) (t.front.own n entry g)
    ∙ sym (so_far-push values p (own_front node_of n p)) ∙ ap (measured_so_far values) (sym (front_push node_of n p e))

pub turn_size : (values : Raster) (node_of : List ℕ) (entries : List Measure) (p n : ℕ) (entry pixel : Measure) → IsPlane values
    → IsPixelTurn values node_of entries p pixel
    → slice_index node_of p ≡ n → slice_get entries n ≡ Some entry → HasMeasureSizes (combined entry pixel)
turn_size values node_of entries p n entry pixel plane t e g =
    subst HasMeasureSizes (sym (turn_sum values node_of entries p n entry pixel t e g))
    (so_far_small values (λ q. slice_index node_of q == n) (p + 1) plane (omega (arith, t.inside)) (small_next values p t.front.small t.in_range))

-- where a pixel has no node its value isn't read
pub turn_unread : (values : Raster) (node_of : List ℕ) (entries : List Measure) (p : ℕ) → AreOfFront values node_of p entries
    → p < length values.values → HasValuesInRange values.values
    → IsPixelTurn values node_of entries p (measure_at (value_at values.values p))
turn_unread values node_of entries p front inside range = record {
  front = front;
  inside = inside;
  in_range = λ v e. range p v (slice_get-get_or values.values p None inside ∙ ap (λ (o : Option ℤ). let x : Option (Option ℤ) = Some o in x) e);
  pixel_is = refl;
}

pub turn_yes : (values : Raster) (node_of : List ℕ) (entries : List Measure) (p n : ℕ) (entry pixel whole : Measure)
    → IsPixelTurn values node_of entries p pixel
    → slice_index node_of p ≡ n → slice_get entries n ≡ Some entry → whole ≡ combined entry pixel → AreOfFront values node_of (p + 1) (set entries n whole)
turn_yes values node_of entries p n entry pixel whole t e g w = record {
  own = λ m x y. go m x (get-written entries n whole m x y);
  small = small_next values p t.front.small t.in_range;
}
  where
    go : (m : ℕ) (x : Measure) → ((m ≡ n) × (whole ≡ x)) ⊎ ((m ≡ n → ⊥) × (slice_get entries m ≡ Some x))
        → x ≡ measured_so_far values (own_front node_of m (p + 1))
    go m x (inl y) =
        sym y.1 ∙ w ∙ turn_sum values node_of entries p n entry pixel t e g ∙ ap (λ (j : ℕ). measured_so_far values (own_front node_of j (p + 1))) (sym y.0)
    go m x (inr y) = t.front.own m x y.1 ∙ ap (measured_so_far values) (sym (front_same node_of m p (λ f. y.0 (sym f ∙ e))))

pub turn_no : (values : Raster) (node_of : List ℕ) (entries : List Measure) (p : ℕ) (pixel : Measure) → IsPixelTurn values node_of entries p pixel
    → length entries ≤ slice_index node_of p → AreOfFront values node_of (p + 1) entries
turn_no values node_of entries p pixel t past = record {
  own = λ m x y. t.front.own m x y
      ∙ ap (measured_so_far values) (sym (front_same node_of m p (λ f. let l : m < length entries = slice_get_within entries m x y in absurd (omega arith))));
  small = small_next values p t.front.small t.in_range;
}

-- when all pixels were read, the values are in the range
pub range_from_front : (values : Raster) (node_of : List ℕ) (n : ℕ) (entries : List Measure) → n ≡ length values.values → AreOfFront values node_of n entries
    → HasValuesInRange values.values
range_from_front values node_of n entries all h p v e =
    let inside : p < length values.values = slice_get_within values.values p (Some v) e in
    h.small p v (omega arith) (found values.values p e)
  where
    found : (xs : List (Option ℤ)) (k : ℕ) → slice_get xs k ≡ Some (Some v) → slice_index_or xs k None ≡ Some v
    found [] k f = absurd (cc)
    found (x ∷ xs) zero f = cc
    found (x ∷ xs) (suc k) f = found xs k f

-- ---- before the pass over the nodes

-- planes of one shape have as many pixels
pub as_many : (values r : Raster) (connect : Connect) (tree : ComponentTree) → IsPlane values → IsPlane r → values.shape ≡ tree.shape → tree ≡ tree_of r connect
    → length values.values ≡ length r.values
as_many values r connect tree one two same e =
    let shape : values.shape ≡ r.shape = same ∙ ap (λ (t : ComponentTree). t.shape) e ∙ tree-shape r connect (tree_of r connect) refl in
    one ∙ ap (λ (s : Shape). s.width * s.height) shape ∙ sym two

pub down_from_front : (values : Raster) (tree : ComponentTree) (entries : List Measure) → IsPlane values → values.shape ≡ tree.shape
    → length entries ≡ length tree.rows
    → AreOfFront values tree.node_of (length values.values) entries → AreDownTo values tree (length tree.rows) entries
unfolding pixels
down_from_front values tree entries plane shape l h = record { one_each = l; added = added }
  where
    added : (r : Raster) (connect : Connect) (m : ℕ) (entry : Measure) → IsPlane r → tree ≡ tree_of r connect → slice_get entries m ≡ Some entry
        → entry ≡ measured_so_far values (filter (is_counted r connect (length tree.rows) m) (pixels values))
    added r connect m entry one_each e g =
        h.own m entry g
        ∙ ap (measured_so_far values) (filter_same_among (λ q. slice_index tree.node_of q == m) (is_counted r connect (length tree.rows) m)
        (range_with_len 0 (length values.values)) same)
      where
        in_entries : m < length entries
        in_entries = slice_get_within entries m entry g

        in_nodes : m < length (nodes r connect)
        in_nodes = omega (arith, rows_are r connect tree e, in_entries)

        own : (q : ℕ) → q < length r.values → (b : Bool) → is_defined r q ≡ b
            → (slice_index (tree_of r connect).node_of q == m) ≡ (is_defined r q && (slice_index (tree_of r connect).node_of q == m))
        own q below true d = rw d refl
        own q below false d =
            let none : slice_index (tree_of r connect).node_of q ≡ no_node = number-within r connect q below ∙ sym (node-undefined r connect q d) in
            ne_eqb (slice_index (tree_of r connect).node_of q) m
            (λ f. below_no_node r connect m one_each in_nodes (sym f ∙ none))
            ∙ sym (ap (λ (b : Bool). b && (slice_index (tree_of r connect).node_of q == m)) d)

        same : (q : ℕ) → IsAmong q (range_with_len 0 (length values.values)) → (slice_index tree.node_of q == m) ≡ is_counted r connect (length tree.rows) m q
        same q among =
            let within : (0 ≤ q) × (q < 0 + length values.values) = among_from_range 0 (length values.values) q among in
            ap (λ (t : ComponentTree). slice_index t.node_of q == m) e
            ∙ own q (omega (arith, within.1, as_many values r connect tree plane one_each shape e)) (is_defined r q) refl
            ∙ sym (counted-start r connect (length tree.rows) m q one_each (rows_are r connect tree e) (omega (arith, l, in_entries)))

-- ---- a node is added to its parent

-- the nodes numbered above k were added; k has the parent a, and the code has read both entries
pub record IsNodeStep (values : Raster) (tree : ComponentTree) (entries : List Measure) (k a : ℕ) (entry child : Measure) : Type 0 where
  pub down : AreDownTo values tree (suc k) entries
  pub below : k < length tree.rows
  pub parent : parent_in tree.rows k ≡ a
  pub inside : a < length tree.rows
  pub entry_is : slice_get entries a ≡ Some entry
  pub child_is : slice_get entries k ≡ Some child

step_sum : (values : Raster) (tree : ComponentTree) (entries : List Measure) (k a : ℕ) (entry child : Measure) (r : Raster) (connect : Connect) → IsPlane r
    → tree ≡ tree_of r connect
    → IsNodeStep values tree entries k a entry child → combined entry child ≡ measured_so_far values (filter (is_counted r connect k a) (pixels values))
step_sum values tree entries k a entry child r connect plane e s =
    let u : IsUnion (is_counted r connect k a) (is_counted r connect (suc k) a) (is_counted r connect (suc k) k) =
    counted-parent r connect k a plane (omega (arith, s.below, rows_are r connect tree e)) (sym (parent_is r connect tree k e) ∙ s.parent)
    (omega (arith, s.inside, rows_are r connect tree e)) in
    ap (λ (m : Measure). combined m child) (s.down.added r connect a entry plane e s.entry_is)
    ∙ ap (combined (measured_so_far values (filter (is_counted r connect (suc k) a) (pixels values)))) (s.down.added r connect k child plane e s.child_is)
    ∙ sym (so_far-union values (is_counted r connect k a) (is_counted r connect (suc k) a) (is_counted r connect (suc k) k) (pixels values) u.apart u.rest)

pub step_size : (values : Raster) (tree : ComponentTree) (entries : List Measure) (k a : ℕ) (entry child : Measure) → IsPlane values
    → HasValuesInRange values.values → IsPlanesTree tree
    → IsNodeStep values tree entries k a entry child → HasMeasureSizes (combined entry child)
unfolding pixels
step_size values tree entries k a entry child plane range of_plane s =
    subst HasMeasureSizes (sym (step_sum values tree entries k a entry child of_plane.plane of_plane.connect of_plane.one_each of_plane.tree_is s))
    (so_far_small values (is_counted of_plane.plane of_plane.connect k a) (length values.values) plane (omega arith)
    (λ q v _ e. value_within values.values q v range e))

pub step_yes : (values : Raster) (tree : ComponentTree) (entries : List Measure) (k a : ℕ) (entry child whole : Measure)
    → IsNodeStep values tree entries k a entry child
    → whole ≡ combined entry child → AreDownTo values tree k (set entries a whole)
step_yes values tree entries k a entry child whole s w = record {
  one_each = length-set entries a whole ∙ s.down.one_each;
  added = λ r connect m x plane e y. go r connect m x plane e (get-written entries a whole m x y);
}
  where
    go : (r : Raster) (connect : Connect) (m : ℕ) (x : Measure) → IsPlane r → tree ≡ tree_of r connect
        → ((m ≡ a) × (whole ≡ x)) ⊎ ((m ≡ a → ⊥) × (slice_get entries m ≡ Some x))
        → x ≡ measured_so_far values (filter (is_counted r connect k m) (pixels values))
    go r connect m x plane e (inl y) =
        sym y.1 ∙ w ∙ step_sum values tree entries k a entry child r connect plane e s
        ∙ ap (λ (j : ℕ). measured_so_far values (filter (is_counted r connect k j) (pixels values))) (sym y.0)
    go r connect m x plane e (inr y) =
        s.down.added r connect m x plane e y.1
        ∙ ap (measured_so_far values) (filter_same (is_counted r connect (suc k) m) (is_counted r connect k m) (pixels values)
        (λ q. counted-same r connect k m q plane (omega (arith, s.below, rows_are r connect tree e))
        (λ z _. y.0 (sym z ∙ sym (parent_is r connect tree k e) ∙ s.parent))))

step_no : (values : Raster) (tree : ComponentTree) (entries : List Measure) (k : ℕ) → AreDownTo values tree (suc k) entries → k < length tree.rows
    → parent_in tree.rows k ≡ no_node
    → AreDownTo values tree k entries
step_no values tree entries k h hk p = record { one_each = h.one_each; added = added }
  where
    added : (r : Raster) (connect : Connect) (m : ℕ) (x : Measure) → IsPlane r → tree ≡ tree_of r connect → slice_get entries m ≡ Some x
        → x ≡ measured_so_far values (filter (is_counted r connect k m) (pixels values))
    added r connect m x plane e y =
        h.added r connect m x plane e y
        ∙ ap (measured_so_far values) (filter_same (is_counted r connect (suc k) m) (is_counted r connect k m) (pixels values)
        (λ q. counted-same r connect k m q plane (omega (arith, hk, rows_are r connect tree e))
        (λ z l. below_no_node r connect m plane l (sym z ∙ sym (parent_is r connect tree k e) ∙ p))))

-- ---- a turn of the pass over the nodes

pub parent_read : (rows : List NodeRow) (tree : ComponentTree) (n : ℕ) (row : NodeRow) → rows ≡ tree.rows → n < length rows
    → parent_in tree.rows n ≡ (slice_index_or rows n row).parent
parent_read rows tree n row same h = ap (λ (xs : List NodeRow). parent_in xs n) (sym same) ∙ sym (row-parent rows n row h)

pub parent_there : (tree : ComponentTree) (k a : ℕ) → IsPlanesTree tree → k < length tree.rows → parent_in tree.rows k ≡ a → (a ≡ no_node → ⊥)
    → a < length tree.rows
parent_there tree k a of_plane hk p some = parent_inside of_plane.plane tree k a of_plane.one_each (of_plane.connect, of_plane.tree_is) hk p some

pub step_from_code : (values : Raster) (tree : ComponentTree) (entries : List Measure) (n : ℕ) (rows : List NodeRow) (row : NodeRow) (d e : Measure)
    → IsPlanesTree tree
    → AreDownTo values tree n entries → 0 < n → n ≤ length rows → rows ≡ tree.rows → ((slice_index_or rows (n - 1) row).parent ≡ no_node → ⊥)
    → IsNodeStep values tree entries (n - 1) (slice_index_or rows (n - 1) row).parent (get_or entries (slice_index_or rows (n - 1) row).parent d)
    (get_or entries (n - 1) e)
step_from_code values tree entries n rows row d e of_plane down some most same has = record {
  down = subst (λ (m : ℕ). AreDownTo values tree m entries) next down;
  below = below;
  parent = parent;
  inside = inside;
  entry_is = slice_get-get_or entries (slice_index_or rows (n - 1) row).parent d (omega (arith, inside, down.one_each));
  child_is = slice_get-get_or entries (n - 1) e (omega (arith, below, down.one_each));
}
  where
    next : n ≡ suc (n - 1)
    next = omega arith

    below : n - 1 < length tree.rows
    below = omega (arith, ap length same)

    parent : parent_in tree.rows (n - 1) ≡ (slice_index_or rows (n - 1) row).parent
    parent = parent_read rows tree (n - 1) row same (omega arith)

    inside : (slice_index_or rows (n - 1) row).parent < length tree.rows
    inside = parent_there tree (n - 1) (slice_index_or rows (n - 1) row).parent of_plane below parent has

pub parent_place : (values : Raster) (tree : ComponentTree) (entries : List Measure) (n : ℕ) (rows : List NodeRow) (row : NodeRow) → IsPlanesTree tree
    → AreDownTo values tree n entries → 0 < n → n ≤ length rows → rows ≡ tree.rows → ((slice_index_or rows (n - 1) row).parent ≡ no_node → ⊥)
    → (slice_index_or rows (n - 1) row).parent < length entries
parent_place values tree entries n rows row of_plane down some most same has =
    let inside : (slice_index_or rows (n - 1) row).parent < length tree.rows =
    parent_there tree (n - 1) (slice_index_or rows (n - 1) row).parent of_plane (omega (arith, ap length same))
    (parent_read rows tree (n - 1) row same (omega arith)) has in
    omega (arith, inside, down.one_each)

pub step_root : (values : Raster) (tree : ComponentTree) (entries : List Measure) (n : ℕ) (rows : List NodeRow) (row : NodeRow)
    → AreDownTo values tree n entries → 0 < n → n ≤ length rows
    → rows ≡ tree.rows → (slice_index_or rows (n - 1) row).parent ≡ no_node → AreDownTo values tree (n - 1) entries
step_root values tree entries n rows row down some most same root =
    let next : n ≡ suc (n - 1) = omega arith in
    step_no values tree entries (n - 1) (subst (λ (m : ℕ). AreDownTo values tree m entries) next down) (omega (arith, ap length same))
    (parent_read rows tree (n - 1) row same (omega arith) ∙ root)

-- ---- settling

-- a list whose first n items were replaced
pub map_front : {X : Type 0} (f : X → X) (n : ℕ) (xs : List X) → List X
map_front f n [] = []
map_front f zero (x ∷ xs) = x ∷ xs
map_front f (suc n) (x ∷ xs) = f x ∷ map_front f n xs

pub front_unchanged : {X : Type 0} (f : X → X) (xs : List X) → map_front f 0 xs ≡ xs
unfolding map_front
front_unchanged f [] = refl
front_unchanged f (x ∷ xs) = refl

pub front_mapped : {X : Type 0} (f : X → X) (n : ℕ) (xs : List X) → length xs ≤ n → map_front f n xs ≡ map f xs
unfolding map_front
front_mapped f n [] h = refl
front_mapped f zero (x ∷ xs) h = absurd (omega arith)
front_mapped f (suc n) (x ∷ xs) h = ap (λ (ys : List _). f x ∷ ys) (front_mapped f n xs (omega arith))

pub length-map_front : {X : Type 0} (f : X → X) (n : ℕ) (xs : List X) → length (map_front f n xs) ≡ length xs
unfolding map_front
length-map_front f n [] = refl
length-map_front f zero (x ∷ xs) = refl
length-map_front f (suc n) (x ∷ xs) = ap suc (length-map_front f n xs)

pub front_next : {X : Type 0} (f : X → X) (n : ℕ) (xs : List X) (d : X) → n < length xs
    → set (map_front f n xs) n (f (get_or (map_front f n xs) n d)) ≡ map_front f (suc n) xs
unfolding map_front
front_next f n [] d h = absurd (omega arith)
front_next f zero (x ∷ xs) d h = ap (λ (ys : List _). f x ∷ ys) (sym (front_unchanged f xs))
front_next f (suc n) (x ∷ xs) d h = ap (λ (ys : List _). f x ∷ ys) (front_next f n xs d (omega arith))

pub settle_next : {X : Type 0} (f : X → X) (n : ℕ) (old items : List X) (d item : X) → items ≡ map_front f n old → n < length items
    → item ≡ f (get_or items n d)
    → set items n item ≡ map_front f (n + 1) old
settle_next f n old items d item e h is =
    let next : suc n ≡ n + 1 = omega arith in
    ap (set items n) is ∙ ap (λ (xs : List _). set xs n (f (get_or xs n d))) e ∙ front_next f n old d (omega (arith, ap length e, length-map_front f n old))
    ∙ ap (λ (k : ℕ). map_front f k old) next

-- ---- after it

-- a list by its places
same_mapped : (g : Measure → Measure) (f : ℕ → Measure) (a n : ℕ) (xs : List Measure) → length xs ≡ n
    → ((m : ℕ) (s : Measure) → slice_get xs m ≡ Some s → g s ≡ f (a + m))
    → map g xs ≡ map f (range_with_len a n)
same_mapped g f a zero [] l h = refl
same_mapped g f a zero (x ∷ xs) l h = absurd (omega arith)
same_mapped g f a (suc n) [] l h = absurd (omega arith)
same_mapped g f a (suc n) (x ∷ xs) l h =
    let first : g x ≡ f a = h 0 x refl ∙ ap f (omega arith) in
    let rest : map g xs ≡ map f (range_with_len (a + 1) n) = same_mapped g f (a + 1) n xs (omega arith) (λ m s k. h (suc m) s k ∙ ap f (omega arith)) in
    ap (λ (y : Measure). y ∷ map g xs) first ∙ ap (λ (ys : List Measure). f a ∷ ys) rest

pub measures_from_down : (values : Raster) (tree : ComponentTree) (entries : List Measure) (r : Raster) (connect : Connect) → IsPlane values
    → HasValuesInRange values.values
    → values.shape ≡ tree.shape → AreDownTo values tree 0 entries → IsPlane r → tree ≡ tree_of r connect
    → map settled_measure entries ≡ measures_of values r connect
unfolding measures_of measure_of pixels_of pixels
measures_from_down values tree entries r connect plane range shape h one_each e =
    same_mapped settled_measure (measure_of values r connect) 0 (length (nodes r connect)) entries (h.one_each ∙ rows_are r connect tree e) at
  where
    many : length values.values ≡ length r.values
    many = as_many values r connect tree plane one_each shape e

    at : (m : ℕ) (s : Measure) → slice_get entries m ≡ Some s → settled_measure s ≡ measure_of values r connect (0 + m)
    at m s g =
        let place : m ≡ 0 + m = omega arith in
        ap settled_measure (h.added r connect m s one_each e g) ∙ settled_is values (filter (is_counted r connect 0 m) (pixels values)) range
        ∙ ap (measure_over values) (filter_same (is_counted r connect 0 m) (is_in_node r connect m) (pixels values) (counted-end r connect m))
        ∙ ap (λ (k : ℕ). measure_over values (filter (is_in_node r connect m) (range_with_len 0 k))) many
        ∙ ap (measure_of values r connect) place

pub trees_measures : (values : Raster) (tree : ComponentTree) (entries : List Measure) → IsPlane values → HasValuesInRange values.values
    → values.shape ≡ tree.shape → IsPlanesTree tree → AreDownTo values tree 0 entries → AreTheTreesMeasures tree (map settled_measure entries)
trees_measures values tree entries plane range shape of_plane h = record {
  plane = of_plane.plane;
  one_each = of_plane.one_each;
  connect = of_plane.connect;
  tree_is = of_plane.tree_is;
  values = values;
  value_each = plane;
  same_shape = shape;
  in_range = range;
  measures_are = measures_from_down values tree entries of_plane.plane of_plane.connect plane range shape h of_plane.one_each of_plane.tree_is;
}

-- there is a number for each pixel
pub numbers_for_values : (values : Raster) (tree : ComponentTree) → values.shape ≡ tree.shape → IsPlanesTree tree
    → length tree.node_of ≡ values.shape.width * values.shape.height
numbers_for_values values tree shape of_plane =
    numbers_for_pixels of_plane.plane tree (of_plane.connect, of_plane.tree_is) ∙ of_plane.one_each
    ∙ ap (λ (s : Shape). s.width * s.height) (sym (tree-shape of_plane.plane of_plane.connect (tree_of of_plane.plane of_plane.connect) refl) ∙ sym
    (ap (λ (t : ComponentTree). t.shape) of_plane.tree_is) ∙ sym shape)

pub front_all : (values : Raster) (node_of : List ℕ) (n : ℕ) (entries : List Measure) → n ≡ length values.values → AreOfFront values node_of n entries
    → AreOfFront values node_of (length values.values) entries
front_all values node_of n entries e h = subst (λ (k : ℕ). AreOfFront values node_of k entries) e h
