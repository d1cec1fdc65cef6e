-- The residual of a plane is a plane, and its values are in range.
use Rattle.std.proofs.Common.{◌≡◌, ℕ, ◌+◌, ◌<◌, ◌≤◌, ◌*◌, ◌/◌, ◌%◌, zero, suc, Bool, true, false, cond, List, [], ◌∷◌, length, map, get_or, refl, sym, ap}
use Rattle.std.proofs.Common.{subst, ◌∙◌, arith, ◌⊎◌, inl, inr}
use Rattle.std.specs.Prelude.{◌==◌, ◌^◌, ℤ, pos, negsuc, unsigned_abs, ◌-ℤ◌, filter, slice_get, Option, Some, None, unwrap_or, is_some, IfSome, All}
use Rattle.std.specs.Option.{option_map}
use Rattle.std.specs.List.{range_with_len, flat_map}
use Rattle.std.proofs.lemmas.Bool.{true≢false, cases_lt, ne_eqb, eq-eqb}
use Rattle.std.proofs.lemmas.Int.{ints, fits_signed_from_abs}
use mir.Syntax.{w64}
use mir.Val.{SFits}
use Rattle.std.proofs.lemmas.List.{length-map}
use Rattle.std.proofs.lemmas.List.Elements.{All-nil, All-append, All-map, All-weaker, All-contains, filter_passes}
use Rattle.std.proofs.lemmas.List.FromFn.{fill_by_all, length-map-range_with_len}
use Rattle.std.proofs.lemmas.Nat.{div-mul-add, mod-mul-add}
use Rattle.comp_tree.specs.Limits.{IsWithin, IsInHalfRange, value_bound, half_bound}
use Rattle.comp_tree.specs.declared.shape.Shape.{Shape}
use Rattle.comp_tree.specs.Raster.{Raster, pixels, value_at, is_defined, level}
use Rattle.comp_tree.proofs.Exported.{half_twice, within_half, length-pixels, IsImage, get_from_map, get-pixels, written_all}
use Rattle.mesh_background.specs.Medians.{IsLowerMedian, lower_median}
use Rattle.mesh_background.specs.Mesh.{cells_along, cell_count, mesh_cell_of, cell_pixels, defined_values, image_value, empty_value, mesh_value, values_of_mesh}
use Rattle.comp_tree.specs.Raster.{HasValuesWithin, HasValuesInHalfRange}
use Rattle.comp_tree.specs.Writing.{IsWritten}
use Rattle.mesh_background.specs.Smoothing.{number_in_grid, places_around, numbers_around, filtered_number, filtered_mesh}
use Rattle.mesh_background.specs.Residuals.{filtered_values, pixel_level, background, residual_at, residual_with}
use Rattle.mesh_background.specs.Laws.{NoMeshLeavesThePlane, ResidualIsPlane, ResidualIsInRange, OwnMedianIsNone}
use Rattle.mesh_background.proofs.Medians.{the_one}
use Rattle.mesh_background.proofs.Levels.{within-zero, within-number, within-interpolated}

-- ---- without a mesh

none-less : (empty : Option ℤ) (r : Raster) (flat : Bool) (p : ℕ) → background empty r 0 flat p ≡ pos 0
unfolding background
none-less empty r flat p = refl

less-nothing : (v b : ℤ) → b ≡ pos 0 → v -ℤ b ≡ v
less-nothing v b e = omega (arith, ints)

residual-none : (empty : Option ℤ) (r : Raster) (flat : Bool) (p : ℕ) → value_at r.values p ≡ residual_at empty r 0 flat p
unfolding residual_at
residual-none empty r flat p = go (value_at r.values p)
  where
    go : (o : Option ℤ) → o ≡ option_map (λ v. v -ℤ background empty r 0 flat p) o
    go None = refl
    go (Some v) = ap Some (sym (less-nothing v (background empty r 0 flat p) (none-less empty r flat p)))

pub no_mesh : NoMeshLeavesThePlane
unfolding residual_with pixels
no_mesh empty r flat = ap (λ (vs : List (Option ℤ)). let s : Raster = record { shape = r.shape; values = vs } in s)
    (sym (fill_by_all (residual_at empty r 0 flat) r.values (length r.values) None refl (λ k lt. residual-none empty r flat k)))

-- ---- its values

pub is_plane : ResidualIsPlane
unfolding residual_with
is_plane empty r mesh flat h = length-map (pixels r) (residual_at empty r mesh flat) ∙ length-pixels r ∙ h

get_from_read : (xs : List (Option ℤ)) (p : ℕ) (v : ℤ) → get_or xs p None ≡ Some v → slice_get xs p ≡ Some (Some v)
get_from_read [] p v e = absurd (no_element e)
  where
    no_element : None ≡ Some v → ⊥
    no_element e = cc
get_from_read (x ∷ xs) zero v e = ap Some e
get_from_read (x ∷ xs) (suc p) v e = get_from_read xs p v e

pub half-of : (r : Raster) (p : ℕ) (v : ℤ) → HasValuesInHalfRange r.values → value_at r.values p ≡ Some v → IsInHalfRange v
half-of r p v h e = within_half (length r.values) v (h.each p v (get_from_read r.values p v e))

pub within-of : (b : ℕ) (r : Raster) (p : ℕ) (v : ℤ) → HasValuesWithin b r.values → value_at r.values p ≡ Some v → IsWithin b v
within-of b r p v h e = h p v (get_from_read r.values p v e)

within-level : (b : ℕ) (r : Raster) (p : ℕ) → HasValuesWithin b r.values → is_defined r p ≡ true → IsWithin b (level r p)
unfolding level
within-level b r p h d = go (value_at r.values p) refl d
  where
    go : (o : Option ℤ) → value_at r.values p ≡ o → is_some o ≡ true → IsWithin b (unwrap_or o (pos 0))
    go None e d = absurd (true≢false (sym d))
    go (Some v) e d = within-of b r p v h e

within-defined : (b : ℕ) (r : Raster) (ps : List ℕ) → HasValuesWithin b r.values → All (IsWithin b) (defined_values r ps)
unfolding defined_values
within-defined b r ps h = All-map (IsWithin b) (level r) (filter (is_defined r) ps)
    (All-weaker (λ p. is_defined r p ≡ true) (λ p. IsWithin b (level r p)) (λ p d. within-level b r p h d) (filter (is_defined r) ps)
    (filter_passes (is_defined r) ps))

within-median : (b : ℕ) (xs : List ℤ) (d : ℤ) → All (IsWithin b) xs → IsWithin b d → IsWithin b (unwrap_or (lower_median xs) d)
within-median b xs d all other = go (lower_median xs) refl
  where
    go : (o : Option ℤ) → lower_median xs ≡ o → IsWithin b (unwrap_or o d)
    go None e = other
    go (Some v) e = let is : IsLowerMedian xs v = (the_one xs v).0 e in All-contains (IsWithin b) xs v all is.member

within-image : (b : ℕ) (r : Raster) → HasValuesWithin b r.values → IsWithin b (image_value r)
unfolding image_value
within-image b r h = within-median b (defined_values r (pixels r)) (pos 0) (within-defined b r (pixels r) h) (within-zero b)

-- what a number is that may be given, where it is within a bound and so is what else is taken
within-given : (empty : Option ℤ) (b : ℕ) (other : ℤ) → IfSome empty (λ v. IsWithin b v) → IsWithin b other → IsWithin b (unwrap_or empty other)
within-given None b other given k = k
within-given (Some v) b other given k = given

pub within-mesh : (empty : Option ℤ) (b : ℕ) (r : Raster) (mesh k : ℕ) → HasValuesWithin b r.values → IfSome empty (λ v. IsWithin b v)
    → IsWithin b (mesh_value empty r mesh k)
unfolding mesh_value
within-mesh empty b r mesh k h given =
    within-median b (defined_values r (cell_pixels r mesh k)) (empty_value empty r) (within-defined b r (cell_pixels r mesh k) h)
    (within-given empty b (image_value r) given (within-image b r h))

-- ---- the filtered numbers and the levels between them

pub within-values : (empty : Option ℤ) (b : ℕ) (r : Raster) (mesh : ℕ) → HasValuesWithin b r.values → IfSome empty (λ v. IsWithin b v)
    → All (IsWithin b) (values_of_mesh empty r mesh)
unfolding values_of_mesh
within-values empty b r mesh h given =
    All-map (IsWithin b) (mesh_value empty r mesh) (range_with_len 0 (cell_count mesh r.shape)) (λ k d lt. within-mesh empty b r mesh _ h given)

All-each : {X : Type 0} (b : ℕ) (f : X → List ℤ) (xs : List X) → ((x : X) → All (IsWithin b) (f x)) → All (IsWithin b) (flat_map f xs)
All-each b f [] h = All-nil (IsWithin b)
All-each b f (x ∷ xs) h = All-append (IsWithin b) (f x) (flat_map f xs) (h x) (All-each b f xs h)

within-filtered : (b : ℕ) (values : List ℤ) (columns rows n : ℕ) → All (IsWithin b) values → IsWithin b (filtered_number values columns rows n)
unfolding filtered_number numbers_around
within-filtered b values columns rows n all = within-median b (numbers_around values columns rows (n % columns) (n / columns)) (pos 0)
    (All-each b (λ l. map (λ k. number_in_grid values columns k l) (places_around columns (n % columns))) (places_around rows (n / columns))
    (λ l. All-map (IsWithin b) (λ k. number_in_grid values columns k l) (places_around columns (n % columns))
    (λ k d lt. within-number b values columns _ l all))) (within-zero b)

pub within-smooth : (empty : Option ℤ) (b : ℕ) (r : Raster) (mesh : ℕ) → HasValuesWithin b r.values → IfSome empty (λ v. IsWithin b v)
    → All (IsWithin b) (filtered_values empty r mesh)
unfolding filtered_values filtered_mesh
within-smooth empty b r mesh h given =
    let columns : ℕ = cells_along mesh r.shape.width in
    let rows : ℕ = cells_along mesh r.shape.height in
    All-map (IsWithin b) (filtered_number (values_of_mesh empty r mesh) columns rows) (range_with_len 0 (columns * rows))
    (λ k d lt. within-filtered b (values_of_mesh empty r mesh) columns rows _ (within-values empty b r mesh h given))

pub within-pixel_level : (b : ℕ) (mesh : ℕ) (shape : Shape) (values : List ℤ) (p : ℕ) → 0 < mesh → All (IsWithin b) values
    → IsWithin b (pixel_level mesh shape values p)
unfolding pixel_level
within-pixel_level b mesh shape values p some all =
    within-interpolated b values (cells_along mesh shape.width) (cells_along mesh shape.height) mesh (p % shape.width) (p / shape.width) some all

within-background : (empty : Option ℤ) (b : ℕ) (r : Raster) (mesh : ℕ) (flat : Bool) (p : ℕ) → HasValuesWithin b r.values
    → IfSome empty (λ v. IsWithin b v) → IsWithin b (background empty r mesh flat p)
unfolding background
within-background empty b r mesh flat p h given = go (cases_lt 0 mesh) flat
  where
    go : (0 < mesh) ⊎ (mesh ≤ 0) → (f : Bool)
        → IsWithin b (cond (mesh == 0) (pos 0)
        (cond f (mesh_value empty r mesh (mesh_cell_of mesh r.shape.width p)) (pixel_level mesh r.shape (filtered_values empty r mesh) p)))
    go (inr none) f = let e : mesh ≡ 0 = omega arith in
        subst (λ (t : Bool). IsWithin b (cond t (pos 0)
        (cond f (mesh_value empty r mesh (mesh_cell_of mesh r.shape.width p)) (pixel_level mesh r.shape (filtered_values empty r mesh) p)))) (sym (eq-eqb mesh 0
        e)) (within-zero b)
    go (inl some) true =
        subst (λ (t : Bool). IsWithin b (cond t (pos 0) (mesh_value empty r mesh (mesh_cell_of mesh r.shape.width p))))
        (sym (ne_eqb mesh 0 (λ e. absurd (omega arith)))) (within-mesh empty b r mesh (mesh_cell_of mesh r.shape.width p) h given)
    go (inl some) false =
        subst (λ (t : Bool). IsWithin b (cond t (pos 0) (pixel_level mesh r.shape (filtered_values empty r mesh) p)))
        (sym (ne_eqb mesh 0 (λ e. absurd (omega arith))))
        (within-pixel_level b mesh r.shape (filtered_values empty r mesh) p some (within-smooth empty b r mesh h given))

-- the difference of two numbers within a bound is within twice of it
pub within_twice : (most : ℕ) (v b : ℤ) → IsWithin most v → IsWithin most b → IsWithin (most + most) (v -ℤ b)
within_twice most v b h k =
    let vl : _ = h.low in
    let vh : _ = h.high in
    let bl : _ = k.low in
    let bh : _ = k.high in
    record { low = omega (arith, ints); high = omega (arith, ints) }

in_range-at : (empty : Option ℤ) (b : ℕ) (r : Raster) (mesh : ℕ) (flat : Bool) (p : ℕ) (v : ℤ) → HasValuesWithin b r.values
    → IfSome empty (λ v. IsWithin b v) → residual_at empty r mesh flat p ≡ Some v → IsWithin (b + b) v
unfolding residual_at
in_range-at empty b r mesh flat p v h given e = go (value_at r.values p) refl e
  where
    no_element : None ≡ Some v → ⊥
    no_element e = cc

    go : (o : Option ℤ) → value_at r.values p ≡ o → option_map (λ w. w -ℤ background empty r mesh flat p) o ≡ Some v → IsWithin (b + b) v
    go None u f = absurd (no_element f)
    go (Some w) u f =
        let same : w -ℤ background empty r mesh flat p ≡ v = cc in
        subst (IsWithin (b + b)) same (within_twice b w (background empty r mesh flat p) (within-of b r p w h u) (within-background empty b r mesh flat p h given))

pub in_range : ResidualIsInRange
unfolding residual_with
in_range empty r mesh flat h given p v e =
    let image : IsImage (residual_at empty r mesh flat) (pixels r) p (Some v) = get_from_map (residual_at empty r mesh flat) (pixels r) p (Some v) e in
    let place : image.it ≡ p = get-pixels r p image.it image.at in
    subst (λ (n : ℕ). IsWithin n v)
    (half_twice (length r.values) ∙ ap value_bound (sym (length-map (pixels r) (residual_at empty r mesh flat) ∙ length-pixels r)))
    (in_range-at empty (half_bound (length r.values)) r mesh flat p v h.each given (subst (λ q. residual_at empty r mesh flat q ≡ Some v) place image.gives))

-- ---- the number of cells without a defined pixel

-- the image's own median is what they have where none is given
pub own_median : OwnMedianIsNone
unfolding residual_with residual_at background filtered_values values_of_mesh mesh_value
own_median None r mesh flat own = refl
own_median (Some v) r mesh flat own = ap (λ (z : ℤ). residual_with (Some z) r mesh flat) own

-- ---- a plane that is written pixel by pixel

pub residual-all : (empty : Option ℤ) (r new : Raster) (mesh : ℕ) (flat : Bool) (n : ℕ) → IsWritten r (residual_at empty r mesh flat) n new → length r.values ≤ n
    → new ≡ residual_with empty r mesh flat
unfolding residual_with
residual-all empty r new mesh flat n h le = written_all r new (residual_at empty r mesh flat) n h le

-- ---- the background of one pixel

pub cell-number : (mesh width x y : ℕ) → x < width → mesh_cell_of mesh width (y * width + x) ≡ y / mesh * cells_along mesh width + x / mesh
unfolding mesh_cell_of
cell-number mesh width x y lt =
    ap (λ (q : ℕ). q / mesh * cells_along mesh width + (y * width + x) % width / mesh) (div-mul-add y width x lt)
    ∙ ap (λ (q : ℕ). y / mesh * cells_along mesh width + q / mesh) (mod-mul-add y width x lt)

pub background-flat : (empty : Option ℤ) (r : Raster) (mesh p : ℕ) → 0 < mesh → background empty r mesh true p ≡ mesh_value empty r mesh (mesh_cell_of mesh r.shape.width p)
unfolding background
background-flat empty r mesh p some =
    ap (λ (b : Bool). cond b (pos 0) (mesh_value empty r mesh (mesh_cell_of mesh r.shape.width p))) (ne_eqb mesh 0 (λ e. absurd (omega arith)))

pub background-smooth : (empty : Option ℤ) (r : Raster) (mesh p : ℕ) → 0 < mesh → background empty r mesh false p ≡ pixel_level mesh r.shape (filtered_values empty r mesh) p
unfolding background
background-smooth empty r mesh p some =
    ap (λ (b : Bool). cond b (pos 0) (pixel_level mesh r.shape (filtered_values empty r mesh) p)) (ne_eqb mesh 0 (λ e. absurd (omega arith)))

pub length-values : (empty : Option ℤ) (r : Raster) (mesh : ℕ) → length (values_of_mesh empty r mesh) ≡ cell_count mesh r.shape
unfolding values_of_mesh
length-values empty r mesh = length-map-range_with_len (mesh_value empty r mesh) 0 (cell_count mesh r.shape)

pub length-smooth : (empty : Option ℤ) (r : Raster) (mesh : ℕ) → length (filtered_values empty r mesh) ≡ cell_count mesh r.shape
unfolding filtered_values filtered_mesh
length-smooth empty r mesh =
    let columns : ℕ = cells_along mesh r.shape.width in
    let rows : ℕ = cells_along mesh r.shape.height in
    length-map-range_with_len (filtered_number (values_of_mesh empty r mesh) columns rows) 0 (columns * rows)

-- ---- the grid of the code

-- the numbers of the mesh, with a grid that was made for it
pub record IsGridOf (r : Raster) (mesh : ℕ) (shape : Shape) (columns rows : ℕ) : Type 0 where
  pub shape_is : shape ≡ r.shape
  pub columns_is : columns ≡ cells_along mesh shape.width
  pub rows_is : rows ≡ cells_along mesh shape.height

pub grid-count : (empty : Option ℤ) (r : Raster) (mesh : ℕ) (shape : Shape) (columns rows : ℕ) (values : List ℤ) → IsGridOf r mesh shape columns rows
    → values ≡ values_of_mesh empty r mesh → length values ≡ columns * rows
grid-count empty r mesh shape columns rows values h is =
    ap (λ (vs : List ℤ). length vs) is ∙ length-values empty r mesh ∙ (λ i. cell_count mesh (sym h.shape_is i)) ∙ (λ i. sym h.columns_is i * sym h.rows_is i)

pub grid-smooth : (empty : Option ℤ) (r : Raster) (mesh : ℕ) (shape : Shape) (columns rows : ℕ) (values smooth : List ℤ) → IsGridOf r mesh shape columns rows
    → values ≡ values_of_mesh empty r mesh
    → smooth ≡ filtered_mesh values columns rows → smooth ≡ filtered_values empty r mesh
unfolding filtered_values
grid-smooth empty r mesh shape columns rows values smooth h is e =
    e ∙ (λ i. filtered_mesh (is i) (h.columns_is i) (h.rows_is i))
    ∙ (λ i. filtered_mesh (values_of_mesh empty r mesh) (cells_along mesh (h.shape_is i).width) (cells_along mesh (h.shape_is i).height))

-- ---- numbers that fit

pub half-fits : (v : ℤ) → IsInHalfRange v → SFits w64 v
half-fits v h = fits_signed_from_abs w64 v (go v h)
  where
    go : (z : ℤ) → IsInHalfRange z → unsigned_abs z < 2 ^ 63
    go (pos n) k = let high : _ = k.high in omega (arith, ints)
    go (negsuc n) k = let low : _ = k.low in omega (arith, ints)
