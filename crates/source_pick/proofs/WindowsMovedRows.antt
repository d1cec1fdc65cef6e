-- Counterparts whose pixels stand at places that differ by a window's corner have rows that differ by it.
use Rattle.std.proofs.Common.{◌≡◌, ℕ, ◌+◌, ◌-◌, ◌/◌, ◌%◌, ◌^◌, ◌<◌, ◌≤◌, List, length, refl, sym, ◌∙◌, ap, subst, arith}
use Rattle.std.specs.Prelude.{ℤ}
use Rattle.lemmas.proofs.Exported.{ArePaired, not_empty}
use Rattle.comp_tree.specs.declared.shape.Connect.{Connect}
use Rattle.comp_tree.specs.Raster.{Raster, IsPlane, level}
use Rattle.comp_tree.specs.Components.{tree_of}
use Rattle.comp_tree.specs.Laws.{top_of}
use Rattle.comp_tree.specs.Nesting.{pixels_of, level_of_node}
use Rattle.comp_tree.specs.Windows.{Window}
use Rattle.comp_tree.proofs.Exported.{among_pixels, top_inside, AlikeAlong, AreCounterparts, along_level, IsAt}
use Rattle.node_sums.specs.declared.entry.Sums.{Sums}
use Rattle.node_sums.specs.Sums.{x_of, y_of, sums_over, sums_of}
use Rattle.node_sums.specs.Flux.{base_of, flux_of}
use Rattle.node_sums.proofs.Exported.{never_negative, sums-area, sums-flux, x_small}
use Rattle.source_pick.specs.Catalogue.{measured_row, catalogue_row, moved_row}
use Rattle.source_pick.proofs.LocalityAlongSums.{total_paired, length_paired, highest_paired, along_pixels, along_node_level, along_base, along_flux}
use Rattle.source_pick.proofs.LocalityAlongSums.{along_first}
use Rattle.source_pick.proofs.WindowsMoved.{AreMovedSums, sum_moved, products_moved, least_moved, greatest_moved, total_moved}
use Rattle.source_pick.proofs.CellsColumns.{row_moved}

-- ---- the sums of counterparts

-- the pairs stand at places that differ by the window's corner, in planes where columns and rows are small
pub record StandApart (r s : Raster) (w : Window) (R : ℕ → ℕ → Type 0) : Type 0 where
  pub place : (p q : ℕ) → R p q → IsAt r.shape.width s.shape.width w.left w.top p q
  pub few_rows : (p q : ℕ) → R p q → y_of r p ≤ 65535

module _ (r s : Raster) (w : Window) (R : ℕ → ℕ → Type 0) (apart : StandApart r s w R) where
  -- columns and rows of pairs differ by the corner
  across : (p q : ℕ) → R p q → x_of r p ≡ x_of s q + w.left
  across p q c = let e : p % r.shape.width ≡ q % s.shape.width + w.left = (apart.place p q c).column in omega (arith, e)

  down : (p q : ℕ) → R p q → y_of r p ≡ y_of s q + w.top
  down p q c = let e : p / r.shape.width ≡ q / s.shape.width + w.top = (apart.place p q c).row in omega (arith, e)

  -- so the sums over paired pixels are moved
  sums_over-moved : (ps qs : List ℕ) → ((p q : ℕ) → R p q → level r p ≡ level s q) → ArePaired R ps qs → 0 < length qs
      → AreMovedSums w.left w.top (sums_over r ps) (sums_over s qs)
  unfolding sums_over
  sums_over-moved ps qs same c some = record {
    area = length_paired R ps qs c;
    r = total_paired R (level r) (level s) ps qs same c;
    x = sum_moved R (x_of r) (x_of s) w.left ps qs across c;
    y = sum_moved R (y_of r) (y_of s) w.top ps qs down c;
    xx = products_moved R (x_of r) (x_of s) (x_of r) (x_of s) w.left w.left ps qs across across c;
    xy = products_moved R (x_of r) (x_of s) (y_of r) (y_of s) w.left w.top ps qs across down c;
    yy = products_moved R (y_of r) (y_of s) (y_of r) (y_of s) w.top w.top ps qs down down c;
    rx = total_moved R (level r) (level s) (x_of r) (x_of s) w.left ps qs same across c;
    ry = total_moved R (level r) (level s) (y_of r) (y_of s) w.top ps qs same down c;
    xmin = least_moved R (x_of r) (x_of s) w.left ps qs across (λ p q k. small (x_of r p) (x_small r p)) c some;
    xmax = greatest_moved R (x_of r) (x_of s) w.left ps qs across c some;
    ymin = least_moved R (y_of r) (y_of s) w.top ps qs down (λ p q k. small (y_of r p) (apart.few_rows p q k)) c some;
    ymax = greatest_moved R (y_of r) (y_of s) w.top ps qs down c some;
    peak = highest_paired R (level r) (level s) ps qs same c;
  }
    where
      small : (x : ℕ) → x ≤ 65535 → x ≤ 2 ^ 32 - 1
      small x l = omega arith

-- the sums of a node are those over its pixels
sums-are : (r : Raster) (connect : Connect) (n : ℕ) → sums_over r (pixels_of r connect n) ≡ sums_of r connect n
unfolding sums_of
sums-are r connect n = refl

module _ (r s : Raster) (w : Window) (connect : Connect) (h : ℤ) (R : ℕ → ℕ → Type 0) (a : AlikeAlong r s connect h R) (apart : StandApart r s w R) where
  -- so the row of a counterpart is moved
  pub along_row : (n m : ℕ) → IsPlane r → IsPlane s → AreCounterparts r s connect R n m → (number : ℕ)
      → catalogue_row r connect number n ≡ moved_row w (catalogue_row s connect number m)
  unfolding catalogue_row
  along_row n m plane_r plane_s c number =
      ap (λ (z : ℤ). measured_row number z (base_of (tree_of r connect) n) (flux_of r connect n) r.shape.width (sums_of r connect n))
      (along_node_level r s connect h R a n m c)
      ∙ ap (λ (z : ℤ). measured_row number (level_of_node s connect m) z (flux_of r connect n) r.shape.width (sums_of r connect n))
      (along_base r s connect h R a n m plane_r plane_s c)
      ∙ ap (λ (z : ℤ). measured_row number (level_of_node s connect m) (base_of (tree_of s connect) m) z r.shape.width (sums_of r connect n))
      (along_flux r s connect h R a n m plane_r plane_s c)
      ∙ row_moved number (level_of_node s connect m) (base_of (tree_of s connect) m) (flux_of s connect m) r.shape.width w s.shape.width (sums_of r connect n)
      (sums_of s connect m)
      moved (apart.place (sums_of r connect n).first (sums_of s connect m).first (along_first r s connect h R a n m plane_r plane_s c))
      (sym (sums-flux s connect m)) (never_negative s connect m plane_s c.other) (subst (λ (k : ℕ). 0 < k) (sym (sums-area s connect m)) some)
    where
      some : 0 < length (pixels_of s connect m)
      some = not_empty (pixels_of s connect m) (top_of s connect m) (among_pixels s connect m (top_of s connect m) (top_inside s connect m c.other))

      over : AreMovedSums w.left w.top (sums_over r (pixels_of r connect n)) (sums_over s (pixels_of s connect m))
      over = sums_over-moved r s w R apart (pixels_of r connect n) (pixels_of s connect m) (along_level r s connect h R a.above)
          (along_pixels r s connect h R a n m c) some

      moved : AreMovedSums w.left w.top (sums_of r connect n) (sums_of s connect m)
      moved = subst (λ (x : Sums). AreMovedSums w.left w.top x (sums_of s connect m)) (sums-are r connect n)
          (subst (λ (x : Sums). AreMovedSums w.left w.top (sums_over r (pixels_of r connect n)) x) (sums-are s connect m) over)
