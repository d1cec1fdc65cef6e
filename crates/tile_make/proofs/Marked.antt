-- The cells of a mesh that are marked, and whether all are.
use Rattle.std.proofs.Common.{◌≡◌, ℕ, ◌+◌, ◌<◌, ◌≤◌, ◌↔◌, Bool, true, false, List, length, sym, ◌∙◌, ap, subst, arith, ◌⊎◌, inl, inr, get_or, set}
use Rattle.std.specs.Prelude.{IsTrue, ◌==◌, filter}
use Rattle.std.specs.List.{list_any, list_all, range_with_len}
use Rattle.std.proofs.lemmas.Bool.{cases_eq, cases_lt, eqb-true, eq-eqb, true≢false}
use Rattle.std.proofs.lemmas.List.{get_or-set_same, get_or-set_other}
use Rattle.std.proofs.lemmas.List.Elements.{All-from_get_or}
use Rattle.std.proofs.lemmas.List.Sums.{AllPass-from_list_all, list_all-from_AllPass}
use Rattle.lemmas.proofs.Exported.{same_bool, IsWitness, among-filter, among-range, among_from_filter, among_from_range, any_from_among, witness_from_any}
use Rattle.comp_tree.specs.Raster.{Raster, is_defined, pixels}
use Rattle.comp_tree.proofs.Exported.{all_from, all_gives, among_from_defined, below_from_defined}
use Rattle.mesh_background.specs.Mesh.{cell_count, cell_pixels, mesh_cell_of}
use Rattle.tile_make.specs.TileOf.{has_full_mesh}
use Rattle.tile_make.specs.Told.{AreMarkedCells, HasNoEmptyCell}

-- the test says so
pub full_mesh_says : (s : Raster) (mesh : ℕ) → IsTrue (has_full_mesh s mesh) ↔ HasNoEmptyCell s mesh
unfolding has_full_mesh cell_pixels
full_mesh_says s mesh = (there, back)
  where
    there : list_all (λ k. list_any (is_defined s) (filter (λ p. mesh_cell_of mesh s.shape.width p == k) (pixels s)))
        (range_with_len 0 (cell_count mesh s.shape)) ≡ true → HasNoEmptyCell s mesh
    there all k below =
        let w : IsWitness (is_defined s) (filter (λ p. mesh_cell_of mesh s.shape.width p == k) (pixels s)) =
        witness_from_any (is_defined s) (filter (λ p. mesh_cell_of mesh s.shape.width p == k) (pixels s))
        (all_gives (λ j. list_any (is_defined s) (filter (λ p. mesh_cell_of mesh s.shape.width p == j) (pixels s))) (range_with_len 0 (cell_count mesh s.shape))
        k all (among-range 0 (cell_count mesh s.shape) k (omega arith) (omega (arith, below)))) in
        let m = among_from_filter (λ p. mesh_cell_of mesh s.shape.width p == k) w.it (pixels s) w.among in
        (w.it, w.passes, eqb-true (mesh_cell_of mesh s.shape.width w.it) k m.1)

    back : HasNoEmptyCell s mesh → list_all (λ k. list_any (is_defined s) (filter (λ p. mesh_cell_of mesh s.shape.width p == k) (pixels s)))
        (range_with_len 0 (cell_count mesh s.shape)) ≡ true
    back full =
        all_from (λ j. list_any (is_defined s) (filter (λ p. mesh_cell_of mesh s.shape.width p == j) (pixels s))) (range_with_len 0 (cell_count mesh s.shape))
        (λ k m. let below = (among_from_range 0 (cell_count mesh s.shape) k m).1 in
        let f = full k (omega (arith, below)) in
        any_from_among (is_defined s) f.0 (filter (λ p. mesh_cell_of mesh s.shape.width p == k) (pixels s))
        (among-filter (λ p. mesh_cell_of mesh s.shape.width p == k) f.0 (pixels s) (among_from_defined s f.0 f.1)
        (eq-eqb (mesh_cell_of mesh s.shape.width f.0) k f.2))
        f.1)

module _ (s : Raster) (mesh : ℕ) where
  abbrev cell : ℕ → ℕ
  cell p = mesh_cell_of mesh s.shape.width p

  -- one pixel more, which is defined, and whose cell is marked
  pub marked_more : (p i : ℕ) (found : List Bool) → i ≡ mesh_cell_of mesh s.shape.width p → i < length found → IsTrue (is_defined s p)
      → AreMarkedCells s mesh p found → AreMarkedCells s mesh (p + 1) (set found i true)
  marked_more p i found here within defined before = record { all = all; each = each }
    where
      kept : (k : ℕ) → get_or found k false ≡ true → get_or (set found i true) k false ≡ true
      kept k marked = go (cases_eq k i)
        where
          go : (k ≡ i) ⊎ (k ≡ i → ⊥) → get_or (set found i true) k false ≡ true
          go (inl e) = subst (λ (j : ℕ). get_or (set found i true) j false ≡ true) (sym e) (get_or-set_same found i true false within)
          go (inr ne) = get_or-set_other found i k true false ne ∙ marked

      all : (b : ℕ) → b < p + 1 → IsTrue (is_defined s b) → get_or (set found i true) (cell b) false ≡ true
      all b below d = go (cases_lt b p)
        where
          go : (b < p) ⊎ (p ≤ b) → get_or (set found i true) (cell b) false ≡ true
          go (inl l) = kept (cell b) (before.all b l d)
          go (inr g) =
              let e : b ≡ p = omega (arith, g, below) in
              subst (λ (j : ℕ). get_or (set found i true) j false ≡ true) (here ∙ ap cell (sym e)) (get_or-set_same found i true false within)

      each : (k : ℕ) → get_or (set found i true) k false ≡ true → (b : ℕ) × IsTrue (is_defined s b) × (cell b ≡ k)
      each k marked = go (cases_eq k i)
        where
          go : (k ≡ i) ⊎ (k ≡ i → ⊥) → (b : ℕ) × IsTrue (is_defined s b) × (cell b ≡ k)
          go (inl e) = (p, defined, sym here ∙ sym e)
          go (inr ne) = before.each k (sym (get_or-set_other found i k true false ne) ∙ marked)

  -- and one that isn't defined
  pub marked_same : (p : ℕ) (found : List Bool) → is_defined s p ≡ false → AreMarkedCells s mesh p found → AreMarkedCells s mesh (p + 1) found
  marked_same p found none before = record { all = all; each = before.each }
    where
      all : (b : ℕ) → b < p + 1 → IsTrue (is_defined s b) → get_or found (cell b) false ≡ true
      all b below d = go (cases_lt b p)
        where
          go : (b < p) ⊎ (p ≤ b) → get_or found (cell b) false ≡ true
          go (inl l) = before.all b l d
          go (inr g) =
              let e : b ≡ p = omega (arith, g, below) in
              absurd (true≢false (sym (subst (λ (x : ℕ). is_defined s x ≡ true) e d) ∙ none))

  -- all cells are marked exactly where the mesh is full
  pub marked_told : (found : List Bool) → length found ≡ cell_count mesh s.shape → AreMarkedCells s mesh (length s.values) found
      → list_all (λ b. b) found ≡ has_full_mesh s mesh
  marked_told found one_each marked = same_bool (list_all (λ b. b) found) (has_full_mesh s mesh) there back
    where
      there : list_all (λ b. b) found ≡ true → has_full_mesh s mesh ≡ true
      there k = (full_mesh_says s mesh).1 (λ j below. marked.each j (AllPass-from_list_all (λ b. b) found k j false (omega (arith, below, one_each))))

      each : HasNoEmptyCell s mesh → (j : ℕ) → j < length found → get_or found j false ≡ true
      each full j l = go (full j (omega (arith, l, one_each)))
        where
          go : (b : ℕ) × IsTrue (is_defined s b) × (cell b ≡ j) → get_or found j false ≡ true
          go (b, d, e) = subst (λ (x : ℕ). get_or found x false ≡ true) e (marked.all b (below_from_defined s b d) d)

      back : has_full_mesh s mesh ≡ true → list_all (λ b. b) found ≡ true
      back k = list_all-from_AllPass (λ b. b) found (All-from_get_or (λ b. b ≡ true) found false (each ((full_mesh_says s mesh).0 k)))
