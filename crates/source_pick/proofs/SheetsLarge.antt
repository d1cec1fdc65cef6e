-- A source has no fewer pixels than are asked for, and they are among those that are reached at the threshold.
use Rattle.std.proofs.Common.{◌≡◌, ℕ, ◌+◌, ◌<◌, ◌≤◌, suc, true, false, cond, ◌&&◌, List, [], ◌∷◌, length, refl, sym, ◌∙◌, arith, ◌⊎◌, inl, inr}
use Rattle.std.specs.Prelude.{◌==◌, Option, Some, None, not, nat_le, int_le}
use Rattle.std.specs.List.{list_any}
use Rattle.std.specs.Option.{option_map_or}
use Rattle.std.proofs.lemmas.Bool.{and_parts, cases_eq, eq-eqb, ne_eqb, leb-true, true≢false}
use Rattle.lemmas.proofs.Exported.{IsAmong, IsRising, IsWitness, witness_from_any, among_of}
use Rattle.comp_tree.specs.declared.shape.Connect.{Connect}
use Rattle.comp_tree.specs.Raster.{Raster}
use Rattle.comp_tree.specs.Components.{tree_of}
use Rattle.comp_tree.specs.Laws.{parent_of_node}
use Rattle.comp_tree.specs.Nesting.{pixels_of, node_numbers, is_root}
use Rattle.comp_tree.proofs.Exported.{in_node_from_among, rising_pixels_of}
use Rattle.node_sums.specs.Sums.{sums_of}
use Rattle.node_sums.specs.Flux.{flux_of}
use Rattle.node_sums.proofs.Exported.{sums-area}
use Rattle.source_pick.specs.declared.choice.Choice.{Choice}
use Rattle.source_pick.specs.Sources.{is_large, is_entry, entry_of, has_contrast, is_strong, are_strong_children, has_strong_sibling, is_source}
use Rattle.source_pick.specs.Sheets.{SourcesAreLarge}
use Rattle.source_pick.proofs.NodesEntries.{entry_parts}
use Rattle.source_pick.proofs.NodesSourcing.{source_parts}
use Rattle.source_pick.proofs.LocalityHighNodes.{top_high}
use Rattle.source_pick.proofs.Windows.{in_node_reached}

-- ---- a rising list has no more members than a list that has all of them

without : ℕ → List ℕ → List ℕ
without x [] = []
without x (y ∷ ys) = cond (y == x) ys (y ∷ without x ys)

length_without : (x : ℕ) (ys : List ℕ) → IsAmong x ys → length ys ≡ length (without x ys) + 1
unfolding without
length_without x [] m = absurd m
length_without x (y ∷ ys) m = go (cases_eq y x) m (length_without x ys)
  where
    go : (y ≡ x) ⊎ (y ≡ x → ⊥) → (y ≡ x) ⊎ IsAmong x ys → (IsAmong x ys → length ys ≡ length (without x ys) + 1)
        → suc (length ys) ≡ length (cond (y == x) ys (y ∷ without x ys)) + 1
    go (inl e) k ih = let b : y == x ≡ true = eq-eqb y x e in rw b (omega arith)
    go (inr d) (inl e) ih = absurd (d e)
    go (inr d) (inr k) ih =
        let b : y == x ≡ false = ne_eqb y x d in
        let l : length ys ≡ length (without x ys) + 1 = ih k in
        rw b (omega (arith, l))

among_without : (x z : ℕ) (ys : List ℕ) → IsAmong z ys → (x ≡ z → ⊥) → IsAmong z (without x ys)
unfolding without
among_without x z [] m d = absurd m
among_without x z (y ∷ ys) m d = go (cases_eq y x) m (λ k. among_without x z ys k d)
  where
    go : (y ≡ x) ⊎ (y ≡ x → ⊥) → (y ≡ z) ⊎ IsAmong z ys → (IsAmong z ys → IsAmong z (without x ys))
        → IsAmong z (cond (y == x) ys (y ∷ without x ys))
    go (inl e) (inl k) ih = absurd (d (sym e ∙ k))
    go (inl e) (inr k) ih = let b : y == x ≡ true = eq-eqb y x e in rw b k
    go (inr n) (inl k) ih = let b : y == x ≡ false = ne_eqb y x n in rw b (inl k)
    go (inr n) (inr k) ih = let b : y == x ≡ false = ne_eqb y x n in rw b (inr (ih k))

rising_few : (xs ps : List ℕ) → IsRising xs → ((x : ℕ) → IsAmong x xs → IsAmong x ps) → length xs ≤ length ps
rising_few [] ps rise within = omega arith
rising_few (x ∷ xs) ps rise within =
    let l : length ps ≡ length (without x ps) + 1 = length_without x ps (within x (inl refl)) in
    let k : length xs ≤ length (without x ps) =
    rising_few xs (without x ps) rise.1
    (λ z m. among_without x z ps (within z (inr m)) (λ e. let u : x < z = rise.0 z m in absurd (omega (arith, e, u)))) in
    omega (arith, l, k)

-- ---- sources

strong_large : (r : Raster) (connect : Connect) (choice : Choice) (n : ℕ) → is_strong r connect choice n ≡ true → is_large r connect choice n ≡ true
unfolding is_strong
strong_large r connect choice n h = go (entry_of r connect choice n) h
  where
    go : (o : Option ℕ) → option_map_or (λ e. is_large r connect choice n && has_contrast r connect choice n e) o false ≡ true
        → is_large r connect choice n ≡ true
    go None k = absurd (true≢false (sym k))
    go (Some e) k = (and_parts (is_large r connect choice n) (has_contrast r connect choice n e) k).0

sibling_strong : (r : Raster) (connect : Connect) (choice : Choice) (n : ℕ) → has_strong_sibling r connect choice n ≡ true
    → is_strong r connect choice n ≡ true
unfolding has_strong_sibling are_strong_children
sibling_strong r connect choice n h = (and_parts _ _ (and_parts _ _ (and_parts _ _ w.passes).0).0).1
  where
    w : IsWitness (are_strong_children r connect choice (parent_of_node r connect n) n) (node_numbers r connect)
    w = witness_from_any (are_strong_children r connect choice (parent_of_node r connect n) n) (node_numbers r connect)
        (and_parts (not (is_root (tree_of r connect) n)) (list_any (are_strong_children r connect choice (parent_of_node r connect n) n) (node_numbers r connect)) h).1

source_large : (r : Raster) (connect : Connect) (choice : Choice) (n : ℕ) → is_source r connect choice n ≡ true → choice.min_area ≤ (sums_of r connect n).area
unfolding is_large
source_large r connect choice n h =
    leb-true choice.min_area (sums_of r connect n).area
    (and_parts (nat_le choice.min_area (sums_of r connect n).area) (int_le choice.min_flux (flux_of r connect n)) (go (source_parts r connect choice n h).stands)).0
  where
    go : (is_entry r connect choice n ≡ true) ⊎ (has_strong_sibling r connect choice n ≡ true) → is_large r connect choice n ≡ true
    go (inl e) = (entry_parts r connect choice n e).large
    go (inr e) = strong_large r connect choice n (sibling_strong r connect choice n e)

pub sources_are_large : SourcesAreLarge
sources_are_large r connect choice n ps plane hn h all =
    let a : choice.min_area ≤ (sums_of r connect n).area = source_large r connect choice n h in
    let e : (sums_of r connect n).area ≡ length (pixels_of r connect n) = sums-area r connect n in
    let l : length (pixels_of r connect n) ≤ length ps = rising_few (pixels_of r connect n) ps (rising_pixels_of r connect n)
    (λ p m. among_of p ps (all p (in_node_reached r connect choice.threshold n p (top_high r connect choice n plane hn h) (in_node_from_among r connect n p m)))) in
    omega (arith, a, e, l)
