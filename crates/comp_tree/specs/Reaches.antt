-- Model: a test for `IsReached` of Components: the law `reach_is_by_paths` says that it decides it. Definitions that need a
-- value that can be computed, as the least pixel that is reached, read this test. The pixels get labels, at first each its own;
-- a pair gives all that have its first pixel's label its second one's. In the end pixels have the same label exactly where the
-- pairs lead from one to the other.
use Rattle.std.specs.Prelude.{ℕ, Bool, cond, ◌&&◌, ◌==◌, List, [], ◌∷◌, map, filter, flat_map, ℤ}
use Rattle.comp_tree.specs.declared.shape.Connect.{Connect}
use Rattle.comp_tree.specs.Raster.{Raster, pixels, is_at_least}
use Rattle.comp_tree.specs.Grid.{are_adjacent}

abbrev pub relabel : ℕ × ℕ → (ℕ → ℕ) → ℕ → ℕ
relabel e label p = cond (label p == label e.0) (label e.1) (label p)

abbrev pub label : List (ℕ × ℕ) → ℕ → ℕ
label [] = λ p. p
label (e ∷ pairs) = relabel e (label pairs)

-- whether the pairs lead from p to q over pixels inside
unfoldable pub reaches_by : List (ℕ × ℕ) → (ℕ → Bool) → ℕ → ℕ → Bool
reaches_by pairs inside p q =
    let within = filter (λ e. inside e.0 && inside e.1) pairs in
    inside p && inside q && (label within p == label within q)

-- the pairs of adjacent pixels
unfoldable pub adjacencies : Raster → Connect → List (ℕ × ℕ)
adjacencies r connect =
    filter (λ e. are_adjacent r.values r.shape.width connect e.0 e.1) (flat_map (λ p. map (λ q. (p, q)) (pixels r)) (pixels r))

-- whether a list of adjacent pixels with values of at least h leads from p to q
unfoldable pub reaches : Raster → Connect → ℤ → ℕ → ℕ → Bool
reaches r connect h p q = reaches_by (adjacencies r connect) (is_at_least r h) p q
