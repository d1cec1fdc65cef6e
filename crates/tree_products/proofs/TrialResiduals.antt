-- The residual of a trial's image has small values.
use Rattle.std.proofs.Common.{◌≡◌, ℕ, ◌+◌, ◌*◌, ◌/◌, ◌%◌, ◌^◌, ◌<◌, ◌≤◌, ◌⊎◌, inl, inr, get_or, Bool, true, false, cond, List, [], ◌∷◌, length, map}
use Rattle.std.proofs.Common.{refl, sym, subst, arith, ◌∙◌}
use Rattle.std.specs.Prelude.{◌==◌, ◌≢◌, ℤ, pos, ◌-ℤ◌, filter, slice_get, Option, Some, None, unwrap_or, All}
use Rattle.std.specs.Option.{option_map}
use Rattle.std.specs.List.{flat_map, range_with_len}
use Rattle.std.proofs.lemmas.Bool.{cases_lt, eqb-false}
use Rattle.std.proofs.lemmas.Int.{ints}
use Rattle.std.proofs.lemmas.List.{get_or_past, length-map}
use Rattle.std.proofs.lemmas.List.Elements.{All-nil, All-append, All-map, All-contains}
use Rattle.std.proofs.lemmas.Option.{none-some}
use Rattle.comp_tree.specs.declared.shape.Shape.{Shape}
use Rattle.comp_tree.specs.Raster.{Raster, pixels, value_at, is_defined, level}
use Rattle.comp_tree.proofs.Exported.{IsImage, get_from_map, get-pixels, length-pixels}
use Rattle.mesh_background.specs.Medians.{IsLowerMedian, lower_median}
use Rattle.mesh_background.specs.Mesh.{cells_along, cell_count, mesh_cell_of, cell_pixels, defined_values, image_value, mesh_value, values_of_mesh}
use Rattle.mesh_background.specs.Smoothing.{number_in_grid, places_around, numbers_around, filtered_number, filtered_mesh}
use Rattle.mesh_background.specs.Residuals.{filtered_values, pixel_level, background, residual_at, residual_of, residual_with}
use Rattle.mesh_background.proofs.Exported.{the_one, stay_between, columns-some, length-smooth}
use Rattle.tree_products.specs.Trials.{trial_image}
use Rattle.tree_products.specs.SmallValues.{IsSmall, HasSmallValues}
use Rattle.tree_products.proofs.Trials.{IsByte, trial_bytes, trial_length, get_from_read, level-from}

-- a plane whose values are from 0 to 255
record HasBytes (r : Raster) : Type 0 where
  each : (p : ℕ) (v : ℤ) → slice_get r.values p ≡ Some (Some v) → IsByte v

byte-zero : IsByte (pos 0)
byte-zero = record { low = omega (arith, ints); high = omega (arith, ints) }

byte-defined : (r : Raster) (ps : List ℕ) → HasBytes r → All IsByte (defined_values r ps)
unfolding defined_values
byte-defined r ps h = All-map IsByte (level r) (filter (is_defined r) ps) (λ k d lt. level-from IsByte r _ (h.each _) byte-zero)

-- a median is a member
byte-median : (xs : List ℤ) (d : ℤ) → All IsByte xs → IsByte d → IsByte (unwrap_or (lower_median xs) d)
byte-median xs d all other = go (lower_median xs) refl
  where
    go : (o : Option ℤ) → lower_median xs ≡ o → IsByte (unwrap_or o d)
    go None e = other
    go (Some v) e = let is : IsLowerMedian xs v = (the_one xs v).0 e in All-contains IsByte xs v all is.member

byte-image : (r : Raster) → HasBytes r → IsByte (image_value r)
unfolding image_value
byte-image r h = byte-median (defined_values r (pixels r)) (pos 0) (byte-defined r (pixels r) h) byte-zero

byte-mesh : (r : Raster) (mesh k : ℕ) → HasBytes r → IsByte (mesh_value None r mesh k)
unfolding mesh_value
byte-mesh r mesh k h = byte-median (defined_values r (cell_pixels r mesh k)) (image_value r) (byte-defined r (cell_pixels r mesh k) h) (byte-image r h)

byte-values : (r : Raster) (mesh : ℕ) → HasBytes r → All IsByte (values_of_mesh None r mesh)
unfolding values_of_mesh
byte-values r mesh h = All-map IsByte (mesh_value None r mesh) (range_with_len 0 (cell_count mesh r.shape)) (λ k d lt. byte-mesh r mesh _ h)

byte-number : (values : List ℤ) (columns i j : ℕ) → All IsByte values → IsByte (number_in_grid values columns i j)
byte-number values columns i j all = go (cases_lt (j * columns + i) (length values))
  where
    go : (j * columns + i < length values) ⊎ (length values ≤ j * columns + i) → IsByte (number_in_grid values columns i j)
    go (inl lt) = all (j * columns + i) (pos 0) lt
    go (inr le) = subst IsByte (sym (get_or_past values (j * columns + i) (pos 0) le)) byte-zero

byte-each : {X : Type 0} (f : X → List ℤ) (xs : List X) → ((x : X) → All IsByte (f x)) → All IsByte (flat_map f xs)
byte-each f [] h = All-nil IsByte
byte-each f (x ∷ xs) h = All-append IsByte (f x) (flat_map f xs) (h x) (byte-each f xs h)

byte-filtered : (values : List ℤ) (columns rows n : ℕ) → All IsByte values → IsByte (filtered_number values columns rows n)
unfolding filtered_number numbers_around
byte-filtered values columns rows n all = byte-median (numbers_around values columns rows (n % columns) (n / columns)) (pos 0)
    (byte-each (λ l. map (λ k. number_in_grid values columns k l) (places_around columns (n % columns))) (places_around rows (n / columns))
    (λ l. All-map IsByte (λ k. number_in_grid values columns k l) (places_around columns (n % columns))
    (λ k d lt. byte-number values columns _ l all))) byte-zero

byte-smooth : (r : Raster) (mesh : ℕ) → HasBytes r → All IsByte (filtered_values None r mesh)
unfolding filtered_values filtered_mesh
byte-smooth r mesh h =
    let columns : ℕ = cells_along mesh r.shape.width in
    let rows : ℕ = cells_along mesh r.shape.height in
    All-map IsByte (filtered_number (values_of_mesh None r mesh) columns rows) (range_with_len 0 (columns * rows))
    (λ k d lt. byte-filtered (values_of_mesh None r mesh) columns rows _ (byte-values r mesh h))

byte-between : (r : Raster) (mesh p : ℕ) → 0 < mesh → HasBytes r → IsByte (pixel_level mesh r.shape (filtered_values None r mesh) p)
unfolding pixel_level
byte-between r mesh p some h =
    let between =
    stay_between (filtered_values None r mesh) (cells_along mesh r.shape.width) (cells_along mesh r.shape.height) mesh (p % r.shape.width) (p / r.shape.width)
    (pos 0) (pos 255)
    (columns-some mesh r.shape.width some r.shape.within_limits.some_columns) (columns-some mesh r.shape.height some r.shape.within_limits.some_rows)
    (length-smooth None r mesh) some (λ k d lt. let b : IsByte (get_or (filtered_values None r mesh) k d) = byte-smooth r mesh h k d lt in (b.low, b.high)) in
    record { low = between.0; high = between.1 }

byte-background : (r : Raster) (mesh : ℕ) (flat : Bool) (p : ℕ) → HasBytes r → IsByte (background None r mesh flat p)
unfolding background
byte-background r mesh flat p h = go (mesh == 0) refl flat
  where
    go : (none : Bool) → mesh == 0 ≡ none → (f : Bool)
        → IsByte (cond none (pos 0) (cond f (mesh_value None r mesh (mesh_cell_of mesh r.shape.width p)) (pixel_level mesh r.shape (filtered_values None r mesh) p)))
    go true e f = byte-zero
    go false e true = byte-mesh r mesh (mesh_cell_of mesh r.shape.width p) h
    go false e false = let some : mesh ≢ 0 = eqb-false mesh 0 e in byte-between r mesh p (omega arith) h

difference_small : (v b : ℤ) → IsByte v → IsByte b → IsSmall (v -ℤ b)
difference_small v b h k = record { low = omega (arith, ints, h.low, k.high); high = omega (arith, ints, h.high, k.low) }

small-at : (r : Raster) (mesh : ℕ) (flat : Bool) (p : ℕ) (v : ℤ) → HasBytes r → residual_at None r mesh flat p ≡ Some v → IsSmall v
unfolding residual_at
small-at r mesh flat p v h e = go (value_at r.values p) refl e
  where
    go : (o : Option ℤ) → value_at r.values p ≡ o → option_map (λ w. w -ℤ background None r mesh flat p) o ≡ Some v → IsSmall v
    go None u f = absurd (none-some v f)
    go (Some w) u f =
        let same : w -ℤ background None r mesh flat p ≡ v = cc in
        subst IsSmall same (difference_small w (background None r mesh flat p) (h.each p w (get_from_read r.values p w u)) (byte-background r mesh flat p h))

small-residual : (r : Raster) (mesh : ℕ) (flat : Bool) (p : ℕ) (v : ℤ) → HasBytes r → slice_get (residual_of r mesh flat).values p ≡ Some (Some v) → IsSmall v
unfolding residual_with
small-residual r mesh flat p v h e =
    let image : IsImage (residual_at None r mesh flat) (pixels r) p (Some v) = get_from_map (residual_at None r mesh flat) (pixels r) p (Some v) e in
    let place : image.it ≡ p = get-pixels r p image.it image.at in
    small-at r mesh flat p v h (subst (λ q. residual_at None r mesh flat q ≡ Some v) place image.gives)

length-residual : (r : Raster) (mesh : ℕ) (flat : Bool) → length (residual_of r mesh flat).values ≡ length r.values
unfolding residual_with
length-residual r mesh flat = length-map (pixels r) (residual_at None r mesh flat) ∙ length-pixels r

pub trial_residual_is_small : (seed : ℕ) (shape : Shape) (mesh : ℕ) (flat : Bool) → shape.width * shape.height ≤ 2 ^ 24
    → HasSmallValues (residual_of (trial_image seed shape) mesh flat).values
trial_residual_is_small seed shape mesh flat few = record {
  each = λ p v e. small-residual (trial_image seed shape) mesh flat p v (record { each = trial_bytes seed shape }) e;
  few = omega (arith, few, length-residual (trial_image seed shape) mesh flat, trial_length seed shape);
}
