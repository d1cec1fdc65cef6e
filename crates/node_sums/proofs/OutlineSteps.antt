-- The passes over outlines: each step does to them what the step of the sums does to the sums of which they are parts.
use Rattle.std.proofs.Common.{◌≡◌, ℕ, ◌+◌, ◌-◌, ◌*◌, ◌<◌, ◌≤◌, zero, suc, List, [], ◌∷◌, length, map, refl, sym, ◌∙◌, ap, subst, arith, get_or, set}
use Rattle.std.specs.Prelude.{ℤ, ◌+ℤ◌, min, max, Option, Some, None, replicate, slice_index, slice_index_or}
use Rattle.std.proofs.lemmas.List.{length-map, map-set}
use mir.Syntax.{w64}
use mir.Val.{to_z, of_z}
use Rattle.comp_tree.specs.declared.shape.Connect.{Connect}
use Rattle.comp_tree.specs.declared.tree.NodeRow.{NodeRow}
use Rattle.comp_tree.specs.Limits.{IsWithin, value_bound}
use Rattle.comp_tree.specs.Raster.{Raster, IsPlane, HasValuesInRange, HasGap, pixels, value_at}
use Rattle.comp_tree.specs.ComponentTree.{ComponentTree, no_node}
use Rattle.comp_tree.specs.Components.{tree_of}
use Rattle.node_sums.specs.declared.entry.Sums.{Sums}
use Rattle.node_sums.specs.declared.outline.Outline.{Outline}
use Rattle.node_sums.specs.Sums.{sums_over, IsTreeOfPlane}
use Rattle.node_sums.specs.Sizes.{HasSizes}
use Rattle.node_sums.specs.Merging.{together, sums_at_place, AreCounted, AreOwn, AreOwnTo}
use Rattle.node_sums.specs.Outlines.{outline_of, outlines_in, AreOutlinesOfPlane, AreOutlinesOfTree}
use Rattle.node_sums.specs.OutlinePasses.{FitTogether, AreOutlinesOf}
use Rattle.node_sums.proofs.OutlineFlux.{outline_read}
use Rattle.node_sums.proofs.Passes

-- ---- two outlines

pub same_outlines : (a b : Outline) → a.area ≡ b.area → a.r ≡ b.r → a.xmin ≡ b.xmin → a.xmax ≡ b.xmax → a.ymin ≡ b.ymin → a.ymax ≡ b.ymax → a ≡ b
same_outlines a b area r xmin xmax ymin ymax = λ i. record { area = area i; r = r i; xmin = xmin i; xmax = xmax i; ymin = ymin i; ymax = ymax i }

-- as the code puts them together
pub outline-together : (a b whole : Outline) (s t : Sums) → a ≡ outline_of s → b ≡ outline_of t → whole.area ≡ a.area + b.area → whole.r ≡ a.r +ℤ b.r
    → whole.xmin ≡ min a.xmin b.xmin → whole.xmax ≡ max a.xmax b.xmax → whole.ymin ≡ min a.ymin b.ymin → whole.ymax ≡ max a.ymax b.ymax
    → whole ≡ outline_of (together s t)
outline-together a b whole s t e f area r xmin xmax ymin ymax =
    same_outlines whole (outline_of (together s t))
    (area ∙ ap (λ (x : Outline). x.area + b.area) e ∙ ap (λ (y : Outline). s.area + y.area) f)
    (r ∙ ap (λ (x : Outline). x.r +ℤ b.r) e ∙ ap (λ (y : Outline). s.r +ℤ y.r) f)
    (xmin ∙ ap (λ (x : Outline). min x.xmin b.xmin) e ∙ ap (λ (y : Outline). min s.xmin y.xmin) f)
    (xmax ∙ ap (λ (x : Outline). max x.xmax b.xmax) e ∙ ap (λ (y : Outline). max s.xmax y.xmax) f)
    (ymin ∙ ap (λ (x : Outline). min x.ymin b.ymin) e ∙ ap (λ (y : Outline). min s.ymin y.ymin) f)
    (ymax ∙ ap (λ (x : Outline). max x.ymax b.ymax) e ∙ ap (λ (y : Outline). max s.ymax y.ymax) f)

fit_together : (a b : Outline) (s t : Sums) → a ≡ outline_of s → b ≡ outline_of t → HasSizes (together s t) → FitTogether a b
fit_together a b s t e f h =
    subst (λ (x : Outline). FitTogether x b) (sym e) (subst (λ (y : Outline). FitTogether (outline_of s) y) (sym f)
    (record { area = h.area; r = h.r }))

-- what the code answers for two outlines
abbrev pub IsTogether : Outline → Outline → Outline → Type 0
IsTogether a b whole = (s t : Sums) → a ≡ outline_of s → b ≡ outline_of t → whole ≡ outline_of (together s t)

-- ---- lists of outlines

same_count : (sums : List Sums) (outlines : List Outline) → outlines ≡ map outline_of sums → length outlines ≡ length sums
same_count sums outlines e = ap length e ∙ length-map sums outline_of

-- one is written
written : (Holds : List Sums → Type 0) (sums : List Sums) (outlines : List Outline) (n : ℕ) (v : Sums) (whole : Outline) → outlines ≡ map outline_of sums
    → whole ≡ outline_of v → Holds (set sums n v) → AreOutlinesOf Holds (set outlines n whole)
written Holds sums outlines n v whole e f h = record {
  sums = set sums n v;
  outlines_are = ap (λ (xs : List Outline). set xs n whole) e ∙ ap (set (map outline_of sums) n) f ∙ sym (map-set outline_of sums n v);
  holds = h;
}

map_replicate : (n : ℕ) (s : Sums) → map outline_of (replicate n s) ≡ replicate n (outline_of s)
map_replicate zero s = refl
map_replicate (suc n) s = ap (λ (xs : List Outline). outline_of s ∷ xs) (map_replicate n s)

-- at first each is of no pixel
pub outlines_none : (r : Raster) (node_of : List ℕ) (n : ℕ) (outlines : List Outline) → outlines ≡ replicate n (outline_of (sums_over r []))
    → AreOutlinesOf (AreOwn r node_of []) outlines
outlines_none r node_of n outlines f = record {
  sums = replicate n (sums_over r []);
  outlines_are = f ∙ sym (map_replicate n (sums_over r []));
  holds = Passes.own_none r node_of n (replicate n (sums_over r [])) refl;
}

-- ---- the pass over the pixels

pub outlines_start : (r : Raster) (node_of : List ℕ) (n : ℕ) (outlines : List Outline) → n ≡ 0 → AreOutlinesOf (AreOwn r node_of []) outlines
    → AreOutlinesOf (AreOwnTo r node_of n) outlines
outlines_start r node_of n outlines e h =
    subst (λ (k : ℕ). AreOutlinesOf (AreOwnTo r node_of k) outlines) (sym e)
    (record { sums = h.sums; outlines_are = h.outlines_are; holds = record { own = h.holds; small = λ q l. absurd (omega arith) } })

-- pixel p has a value; the code has made its outline, and read that of its node
pub record IsOutlineTurn (r : Raster) (node_of : List ℕ) (outlines : List Outline) (p n : ℕ) (entry pixel : Outline) : Type 0 where
  pub sums : List Sums
  pub value : ℤ
  pub node : Sums
  pub added : Sums
  pub turn : Passes.IsTurn r node_of sums p n value node added
  pub outlines_are : outlines ≡ map outline_of sums
  pub entry_is : entry ≡ outline_of node
  pub pixel_is : pixel ≡ outline_of added

pub outline_turn : (r : Raster) (node_of : List ℕ) (outlines : List Outline) (first row column p : ℕ) (v : ℤ) (got : Option ℤ) (d pixel : Outline)
    → AreOutlinesOf (AreOwnTo r node_of p) outlines → first ≡ row * r.shape.width → p ≡ first + column → column < r.shape.width → p < length r.values
    → got ≡ value_at r.values p → got ≡ Some v → IsWithin (value_bound (length r.values)) v
    → ((q : ℕ) → pixel ≡ outline_of (sums_at_place (column + 1) (row + 1) q (to_z w64 (of_z w64 v))))
    → slice_index node_of p < length outlines
    → IsOutlineTurn r node_of outlines p (slice_index node_of p) (get_or outlines (slice_index node_of p) d) pixel
outline_turn r node_of outlines first row column p v got d pixel h begins at within inside reads is in_range made there = record {
  sums = h.sums;
  value = v;
  node = get_or h.sums (slice_index node_of p) (sums_over r []);
  added = sums_at_place (column + 1) (row + 1) p (to_z w64 (of_z w64 v));
  turn = Passes.turn_from_code r node_of h.sums first row column p v got (sums_over r [])
      (sums_at_place (column + 1) (row + 1) p (to_z w64 (of_z w64 v))) h.holds begins at within inside reads is in_range refl
      (omega (arith, there, same_count h.sums outlines h.outlines_are));
  outlines_are = h.outlines_are;
  entry_is = outline_read outlines h.sums (slice_index node_of p) d (sums_over r []) h.outlines_are there;
  pixel_is = made p;
}

pub turn_fits : (r : Raster) (node_of : List ℕ) (outlines : List Outline) (p n : ℕ) (entry pixel : Outline) → IsPlane r
    → IsOutlineTurn r node_of outlines p n entry pixel
    → FitTogether entry pixel
turn_fits r node_of outlines p n entry pixel plane t =
    fit_together entry pixel t.node t.added t.entry_is t.pixel_is (Passes.turn_size r node_of t.sums p n t.value t.node t.added plane t.turn)

pub turn_to_next : (r : Raster) (node_of : List ℕ) (outlines : List Outline) (p n : ℕ) (entry pixel whole : Outline)
    → IsOutlineTurn r node_of outlines p n entry pixel
    → IsTogether entry pixel whole → AreOutlinesOf (AreOwnTo r node_of (p + 1)) (set outlines n whole)
turn_to_next r node_of outlines p n entry pixel whole t joined =
    written (AreOwnTo r node_of (p + 1)) t.sums outlines n (together t.node t.added) whole t.outlines_are (joined t.node t.added t.entry_is t.pixel_is)
    (Passes.to_next r node_of t.sums p n t.value t.node t.added (together t.node t.added) t.turn refl)

pub turn_undefined : (r : Raster) (node_of : List ℕ) (outlines : List Outline) (p : ℕ) → AreOutlinesOf (AreOwnTo r node_of p) outlines
    → value_at r.values p ≡ None
    → AreOutlinesOf (AreOwnTo r node_of (p + 1)) outlines
turn_undefined r node_of outlines p h e =
    record { sums = h.sums; outlines_are = h.outlines_are; holds = Passes.to_next_undefined r node_of h.sums p h.holds e }

pub outlines_to_next_defined : (r : Raster) (node_of : List ℕ) (outlines : List Outline) (n m : ℕ) → AreOutlinesOf (AreOwnTo r node_of n) outlines
    → n ≤ m → HasGap r.values n m → AreOutlinesOf (AreOwnTo r node_of m) outlines
outlines_to_next_defined r node_of outlines n m h le gap =
    record { sums = h.sums; outlines_are = h.outlines_are; holds = Passes.to_next_defined r node_of h.sums n m h.holds le gap }

pub outlines_all : (r : Raster) (node_of : List ℕ) (n : ℕ) (outlines : List Outline) → n ≡ length r.values → AreOutlinesOf (AreOwnTo r node_of n) outlines
    → AreOutlinesOf (AreOwn r node_of (pixels r)) outlines
outlines_all r node_of n outlines e h =
    record { sums = h.sums; outlines_are = h.outlines_are; holds = Passes.own_all r node_of n h.sums e h.holds.own }

pub outlines_range : (r : Raster) (node_of : List ℕ) (n : ℕ) (outlines : List Outline) → n ≡ length r.values → AreOutlinesOf (AreOwnTo r node_of n) outlines
    → HasValuesInRange r.values
outlines_range r node_of n outlines e h = Passes.range_from_small r n (omega (arith, e)) h.holds.small

-- ---- the pass over the nodes

pub outlines_counted : (r : Raster) (tree : ComponentTree) (outlines : List Outline) → IsPlane r → length outlines ≡ length tree.rows
    → AreOutlinesOf (AreOwn r tree.node_of (pixels r)) outlines → AreOutlinesOf (AreCounted r tree (length tree.rows)) outlines
outlines_counted r tree outlines plane l h = record {
  sums = h.sums;
  outlines_are = h.outlines_are;
  holds = Passes.counted_from_own r tree h.sums plane (sym (same_count h.sums outlines h.outlines_are) ∙ l) h.holds;
}

-- the nodes numbered above k were added; k has the parent a, and the code has read both outlines
pub record IsOutlineStep (r : Raster) (tree : ComponentTree) (outlines : List Outline) (k a : ℕ) (entry child : Outline) : Type 0 where
  pub sums : List Sums
  pub node : Sums
  pub added : Sums
  pub step : Passes.IsStep r tree sums k a node added
  pub outlines_are : outlines ≡ map outline_of sums
  pub entry_is : entry ≡ outline_of node
  pub child_is : child ≡ outline_of added

pub outline_place : (r : Raster) (tree : ComponentTree) (outlines : List Outline) (n : ℕ) (rows : List NodeRow) (row : NodeRow) → IsPlane r
    → IsTreeOfPlane r tree
    → AreOutlinesOf (AreCounted r tree n) outlines → 0 < n → n ≤ length rows → rows ≡ tree.rows → ((slice_index_or rows (n - 1) row).parent ≡ no_node → ⊥)
    → (slice_index_or rows (n - 1) row).parent < length outlines
outline_place r tree outlines n rows row plane of_plane h some most same has =
    let inside : (slice_index_or rows (n - 1) row).parent < length h.sums =
    Passes.parent_place r tree h.sums n rows row plane of_plane h.holds some most same has in
    omega (arith, same_count h.sums outlines h.outlines_are)

pub outline_step : (r : Raster) (tree : ComponentTree) (outlines : List Outline) (n : ℕ) (rows : List NodeRow) (row : NodeRow) (d e : Outline) → IsPlane r
    → IsTreeOfPlane r tree
    → AreOutlinesOf (AreCounted r tree n) outlines → 0 < n → n ≤ length rows → rows ≡ tree.rows → ((slice_index_or rows (n - 1) row).parent ≡ no_node → ⊥)
    → IsOutlineStep r tree outlines (n - 1) (slice_index_or rows (n - 1) row).parent (get_or outlines (slice_index_or rows (n - 1) row).parent d)
    (get_or outlines (n - 1) e)
outline_step r tree outlines n rows row d e plane of_plane h some most same has = record {
  sums = h.sums;
  node = get_or h.sums (slice_index_or rows (n - 1) row).parent (sums_over r []);
  added = get_or h.sums (n - 1) (sums_over r []);
  step = Passes.step_from_code r tree h.sums n rows row (sums_over r []) (sums_over r []) plane of_plane h.holds some most same has;
  outlines_are = h.outlines_are;
  entry_is = outline_read outlines h.sums (slice_index_or rows (n - 1) row).parent d (sums_over r []) h.outlines_are
      (outline_place r tree outlines n rows row plane of_plane h some most same has);
  child_is = outline_read outlines h.sums (n - 1) e (sums_over r []) h.outlines_are
      (let count : length h.sums ≡ length tree.rows = h.holds.one_each in
      omega (arith, same_count h.sums outlines h.outlines_are, ap length same));
}

pub step_fits : (r : Raster) (tree : ComponentTree) (outlines : List Outline) (k a : ℕ) (entry child : Outline) → IsPlane r → HasValuesInRange r.values
    → IsTreeOfPlane r tree
    → IsOutlineStep r tree outlines k a entry child → FitTogether entry child
step_fits r tree outlines k a entry child plane range of_plane s =
    fit_together entry child s.node s.added s.entry_is s.child_is (Passes.step_size r tree s.sums k a s.node s.added plane range of_plane s.step)

pub step_to_next : (r : Raster) (tree : ComponentTree) (outlines : List Outline) (k a : ℕ) (entry child whole : Outline) → IsPlane r
    → IsOutlineStep r tree outlines k a entry child
    → IsTogether entry child whole → AreOutlinesOf (AreCounted r tree k) (set outlines a whole)
step_to_next r tree outlines k a entry child whole plane s joined =
    written (AreCounted r tree k) s.sums outlines a (together s.node s.added) whole s.outlines_are (joined s.node s.added s.entry_is s.child_is)
    (Passes.step_counted r tree s.sums k a s.node s.added (together s.node s.added) plane s.step refl)

pub step_at_root : (r : Raster) (tree : ComponentTree) (outlines : List Outline) (n : ℕ) (rows : List NodeRow) (row : NodeRow) → IsPlane r
    → AreOutlinesOf (AreCounted r tree n) outlines
    → 0 < n → n ≤ length rows
    → rows ≡ tree.rows → (slice_index_or rows (n - 1) row).parent ≡ no_node → AreOutlinesOf (AreCounted r tree (n - 1)) outlines
step_at_root r tree outlines n rows row plane h some most same root = record {
  sums = h.sums;
  outlines_are = h.outlines_are;
  holds = Passes.step_root r tree h.sums n rows row plane h.holds some most same root;
}

-- after it each is the node's
pub outlines_from_counted : (r : Raster) (connect : Connect) (tree : ComponentTree) (outlines : List Outline) → AreOutlinesOf (AreCounted r tree 0) outlines
    → tree ≡ tree_of r connect
    → outlines ≡ outlines_in r connect
outlines_from_counted r connect tree outlines h e =
    h.outlines_are ∙ ap (map outline_of) (Passes.sums_from_counted r connect tree h.sums h.holds e)

pub outlines_of_plane : (r : Raster) (tree : ComponentTree) (outlines : List Outline) → IsTreeOfPlane r tree → AreOutlinesOf (AreCounted r tree 0) outlines
    → AreOutlinesOfPlane r tree outlines
outlines_of_plane r tree outlines (connect, e) h =
    record { connect = connect; tree_is = e; outlines_are = outlines_from_counted r connect tree outlines h e }

pub outlines_of_tree : (r : Raster) (tree : ComponentTree) (outlines : List Outline) → IsPlane r → HasValuesInRange r.values → IsTreeOfPlane r tree
    → AreOutlinesOf (AreCounted r tree 0) outlines → AreOutlinesOfTree tree outlines
outlines_of_tree r tree outlines plane range of_plane h =
    record { plane = r; one_each = plane; in_range = range; of_plane = outlines_of_plane r tree outlines of_plane h }
