-- The numbers of pixels, as the map has them.
use Rattle.std.proofs.Common.{◌≡◌, ℕ, ◌+◌, ◌<◌, ◌≤◌, zero, suc, List, [], ◌∷◌, length, refl, ◌∙◌, ap, subst, arith}
use Rattle.std.proofs.Common.{◌⊎◌, inl, inr, set}
use Rattle.std.specs.Prelude.{slice_index}
use Rattle.std.specs.List.{range_with_len}
use Rattle.std.proofs.lemmas.Bool.{cases_lt}
use Rattle.std.proofs.lemmas.List.{length-map, get_or-set_other, get_or_past}
use Rattle.std.proofs.lemmas.List.FromFn.{fill_by_all, length-range_with_len, get_or-map-range_with_len}
use Rattle.comp_tree.specs.declared.shape.Connect.{Connect}
use Rattle.comp_tree.specs.Raster.{Raster, pixels}
use Rattle.comp_tree.specs.ComponentTree.{ComponentTree}
use Rattle.comp_tree.specs.Components.{tree_of}
use Rattle.node_sums.specs.DisjointNodes.{listed_number_at, AreDisjointNodes}
use Rattle.node_sums.proofs.Exported.{few_marked, few_rows, number_bound}
use Rattle.source_pick.specs.Segmentation.{segmentation_of}
use Rattle.source_pick.proofs.PassesReadings.{numbers-length}

pub filled_still : (xs : List ℕ) (k : ℕ) (f : ℕ → ℕ) → ((n : ℕ) → n < k → slice_index xs n ≡ f n) → slice_index xs k ≡ f k → (n : ℕ) → n < k + 1
    → slice_index xs n ≡ f n
filled_still xs k f before here n l = go (cases_lt n k)
  where
    go : (n < k) ⊎ (k ≤ n) → slice_index xs n ≡ f n
    go (inl x) = before n x
    go (inr x) = let e : k ≡ n = omega arith in subst (λ (m : ℕ). slice_index xs m ≡ f m) e here

pub zeros_after : (xs : List ℕ) (k x : ℕ) → ((n : ℕ) → k ≤ n → slice_index xs n ≡ 0) → (n : ℕ) → k + 1 ≤ n → slice_index (set xs k x) n ≡ 0
zeros_after xs k x h n l = get_or-set_other xs k n x 0 (λ e. absurd (omega arith)) ∙ h n (omega arith)

pub zeros_part : (xs part : List ℕ) (start : ℕ) → ((n : ℕ) → slice_index xs n ≡ 0)
    → ((k : ℕ) → k < length part → slice_index part k ≡ slice_index xs (start + k)) → (k : ℕ) → slice_index part k ≡ 0
zeros_part xs part start none each k = go (cases_lt k (length part))
  where
    go : (k < length part) ⊎ (length part ≤ k) → slice_index part k ≡ 0
    go (inl l) = each k l ∙ none (start + k)
    go (inr l) = get_or_past part k 0 l

pub pixels_all : (r : Raster) (connect : Connect) (tree : ComponentTree) (marked numbers : List ℕ) → tree ≡ tree_of r connect
    → length numbers ≡ length tree.node_of
    → ((p : ℕ) → p < length tree.node_of → slice_index numbers p ≡ listed_number_at r connect marked p) → numbers ≡ segmentation_of r connect marked
unfolding segmentation_of pixels
pixels_all r connect tree marked numbers same l h =
    fill_by_all (listed_number_at r connect marked) numbers (length r.values) 0 (l ∙ numbers-length r connect tree same)
    (λ p x. h p (let e : length tree.node_of ≡ length r.values = numbers-length r connect tree same in omega arith))

pub map_bound : (tree : ComponentTree) (marked numbers : List ℕ) → (d : AreDisjointNodes tree marked) → numbers ≡ segmentation_of d.plane d.connect marked
    → (p : ℕ) → slice_index numbers p ≤ 2147483647
unfolding segmentation_of pixels
map_bound tree marked numbers d e p = go (cases_lt p (length d.plane.values))
  where
    few : length marked ≤ 2147483647
    few = let a : length marked ≤ length tree.rows = few_marked tree marked d in let b : length tree.rows ≤ 2147483647 = few_rows tree marked d in omega arith

    past : (xs : List ℕ) (n : ℕ) → length xs ≤ n → slice_index xs n ≡ 0
    past [] n h = refl
    past (x ∷ xs) zero h = absurd (omega arith)
    past (x ∷ xs) (suc n) h = past xs n (omega arith)

    go : (p < length d.plane.values) ⊎ (length d.plane.values ≤ p) → slice_index numbers p ≤ 2147483647
    go (inl l) =
        let a : slice_index numbers p ≡ listed_number_at d.plane d.connect marked p =
        ap (λ (xs : List ℕ). slice_index xs p) e
        ∙ get_or-map-range_with_len (listed_number_at d.plane d.connect marked) 0 (length d.plane.values) p p 0 l (omega arith) in
        let b : listed_number_at d.plane d.connect marked p ≤ length marked = number_bound d.plane d.connect tree marked d.one_each d.tree_is d p in
        omega (arith, few)
    go (inr l) =
        let n : length numbers ≡ length d.plane.values =
        ap length e ∙ length-map (range_with_len 0 (length d.plane.values)) (listed_number_at d.plane d.connect marked)
        ∙ length-range_with_len 0 (length d.plane.values) in
        let z : slice_index numbers p ≡ 0 = past numbers p (omega arith) in
        omega arith
