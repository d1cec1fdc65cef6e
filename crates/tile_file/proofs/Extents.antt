-- Boxes by their cells.
use Rattle.std.proofs.Common.{◌≡◌, ◌∙◌, ℕ, zero, suc, get_or, ◌+◌, ◌-◌, ◌*◌, ◌/◌, ◌%◌, ◌<◌, ◌≤◌, ◌⊎◌, inl, inr, Bool, true, not, IsTrue, List, [], ◌∷◌, ◌++◌, length, flat_map}
use Rattle.std.proofs.Common.{refl, sym, ap, ap₂, subst, arith, ℤ, pos, negsuc, FitsSigned, w32, w64, All}
use Rattle.std.specs.Prelude.{◌&&◌, nat_le}
use Rattle.std.specs.List.{AllByRecursion, list_all}
use Rattle.std.proofs.Math.Nat.{mul-mod_right, mul-div_cancel_left}
use Rattle.fits_card.specs.Written.{is_plain}
use Rattle.fits_write.specs.declared.table.Cell.TheVariants.{J}
use Rattle.std.proofs.lemmas.Int.{ints}
use Rattle.std.proofs.lemmas.List.{get_or_default}
use Rattle.std.proofs.lemmas.List.Elements.{All-from_recursion, recursion_from_All, All-append}
use Rattle.std.proofs.lemmas.Bool.Decides.{nat_tests}
use Rattle.lemmas.proofs.Exported.{both_true}
use Rattle.comp_tree.specs.declared.shape.Shape.{Shape}
use Rattle.comp_tree.proofs.Exported.{shape_by_sides}
use Rattle.fits_write.specs.Columns.{IsTable, FitsCell, number_at}
use Rattle.tile_laws.specs.declared.extents.Extent.{Extent}
use Rattle.tile_join.specs.declared.tiles.Frame.{Frame}
use Rattle.tile_join.specs.Tiles.{is_frame_of}
use Rattle.tile_file.specs.TileFiles.{box_columns, box_cells, image_extent, frame_extent, tile_extents, HasEndsWithin, AreTileBoxes}
use Rattle.tile_file.proofs.InTurn.{nothing_else, length_of_all}

-- ---- one box

pub same_box : (d e : Extent) (a b : List ℤ) → box_cells d ++ a ≡ box_cells e ++ b → (d ≡ e) × (a ≡ b)
same_box d e a b is =
    let left : d.columns.from + 1 ≡ e.columns.from + 1 = cc in
    let right : d.columns.to ≡ e.columns.to = cc in
    let top : d.rows.from + 1 ≡ e.rows.from + 1 = cc in
    let bottom : d.rows.to ≡ e.rows.to = cc in
    let rest : a ≡ b = cc in
    let first_column : d.columns.from ≡ e.columns.from = omega arith in
    let first_row : d.rows.from ≡ e.rows.from = omega arith in
    (λ i. record { columns = record { from = first_column i; to = right i }; rows = record { from = first_row i; to = bottom i } }, rest)

pub some_cells : (e : Extent) (rest : List ℤ) → box_cells e ++ rest ≡ [] → ⊥
some_cells e rest is = cc

-- ---- frames

pub same_frame : (f g : Frame) → frame_extent f ≡ frame_extent g → f ≡ g
same_frame f g is =
    let left : f.left ≡ g.left = ap (λ (e : Extent). e.columns.from) is in
    let top : f.top ≡ g.top = ap (λ (e : Extent). e.rows.from) is in
    let right : f.left + f.shape.width ≡ g.left + g.shape.width = ap (λ (e : Extent). e.columns.to) is in
    let bottom : f.top + f.shape.height ≡ g.top + g.shape.height = ap (λ (e : Extent). e.rows.to) is in
    let shape : f.shape ≡ g.shape = shape_by_sides f.shape g.shape (omega arith) (omega arith) in
    λ i. record { left = left i; top = top i; shape = shape i }

pub same_image : (s t : Shape) → image_extent s ≡ image_extent t → s ≡ t
same_image s t is = shape_by_sides s t (ap (λ (e : Extent). e.columns.to) is) (ap (λ (e : Extent). e.rows.to) is)

-- a frame of an image ends with it
pub record EndsInside (whole : Shape) (f : Frame) : Type 0 where
  pub right : f.left + f.shape.width ≤ whole.width
  pub bottom : f.top + f.shape.height ≤ whole.height

pub ends_inside : (whole : Shape) (f : Frame) → IsTrue (is_frame_of whole f) → EndsInside whole f
unfolding is_frame_of
ends_inside whole f is =
    let sides = both_true (nat_le (f.left + f.shape.width) whole.width) (nat_le (f.top + f.shape.height) whole.height) (ap not is) in
    record { right = below _ _ sides.0; bottom = below _ _ sides.1 }
  where
    below : (m n : ℕ) → nat_le m n ≡ true → m ≤ n
    below m n h = grind (arith, nat_tests)

pub frame_from : (whole : Shape) (f : Frame) → EndsInside whole f → IsTrue (is_frame_of whole f)
unfolding is_frame_of
frame_from whole f ends = both _ _ (within _ _ ends.right) (within _ _ ends.bottom)
  where
    within : (m n : ℕ) → m ≤ n → nat_le m n ≡ true
    within m n h = grind (arith, nat_tests)

    both : (x y : Bool) → x ≡ true → y ≡ true → IsTrue (x && y)
    both x y p q = ap₂ ◌&&◌ p q

pub frame_ends : (whole : Shape) (f : Frame) → IsTrue (is_frame_of whole f) → HasEndsWithin (frame_extent f)
frame_ends whole f is =
    let ends = ends_inside whole f is in
    let limits = whole.within_limits in
    record {
      left = omega (arith, ends.right, limits.few_columns);
      right = omega (arith, ends.right, limits.few_columns);
      top = omega (arith, ends.bottom, limits.few_rows);
      bottom = omega (arith, ends.bottom, limits.few_rows);
    }

pub image_ends : (whole : Shape) → HasEndsWithin (image_extent whole)
image_ends whole =
    let limits = whole.within_limits in
    record {
      left = omega arith;
      right = limits.few_columns;
      top = omega arith;
      bottom = limits.few_rows;
    }

-- ---- boxes that can be written

pub four_columns : length box_columns ≡ 4
unfolding box_columns
four_columns = refl

pub plain_boxes : IsTrue (list_all (λ column. list_all is_plain column.name) box_columns)
unfolding box_columns
plain_boxes = refl

-- every column is of 32 bits
narrow_at : (k : ℕ) → (get_or box_columns k (record { name = []; cell = J })).cell ≡ J
unfolding box_columns
narrow_at zero = refl
narrow_at (suc zero) = refl
narrow_at (suc (suc zero)) = refl
narrow_at (suc (suc (suc zero))) = refl
narrow_at (suc (suc (suc (suc k)))) = refl

small_fits : (n : ℕ) → n ≤ 65536 → FitsSigned w32 (pos n) × FitsSigned w64 (pos n)
small_fits n h = (record { sfits = omega (arith, ints) }, record { sfits = omega (arith, ints) })

box_narrow : (e : Extent) → HasEndsWithin e → AllByRecursion (FitsSigned w32) (box_cells e)
box_narrow e h = (
  (small_fits (e.columns.from + 1) (omega (arith, h.left))).0,
  (
    (small_fits e.columns.to (omega (arith, h.right))).0,
    ((small_fits (e.rows.from + 1) (omega (arith, h.top))).0, ((small_fits e.rows.to (omega (arith, h.bottom))).0, tt)),
  ),
)

box_whole : (e : Extent) → HasEndsWithin e → AllByRecursion (FitsSigned w64) (box_cells e)
box_whole e h = (
  (small_fits (e.columns.from + 1) (omega (arith, h.left))).1,
  (
    (small_fits e.columns.to (omega (arith, h.right))).1,
    ((small_fits (e.rows.from + 1) (omega (arith, h.top))).1, ((small_fits e.rows.to (omega (arith, h.bottom))).1, tt)),
  ),
)

each_cell : (P : ℤ → Type 0) (es : List Extent) → ((e : Extent) → HasEndsWithin e → AllByRecursion P (box_cells e)) → AllByRecursion HasEndsWithin es
    → All P (flat_map box_cells es)
each_cell P [] each all = λ k d h. absurd (omega (arith, h))
each_cell P (e ∷ es) each all =
    All-append P (box_cells e) (flat_map box_cells es) (All-from_recursion P (box_cells e) (each e all.0)) (each_cell P es each all.1)

pub boxes_table : (es : List Extent) → AllByRecursion HasEndsWithin es → length es ≤ 2147483647 → IsTable box_columns (flat_map box_cells es)
boxes_table es all few =
    let cells = flat_map box_cells es in
    let many : length cells ≡ length box_columns * length es = length_of_all box_cells 4 es (λ e. refl) ∙ ap (λ n. n * length es) (sym four_columns) in
    let some : 0 < length box_columns = omega (arith, four_columns) in
    let rows : length cells / length box_columns ≡ length es = ap (λ n. n / length box_columns) many ∙ mul-div_cancel_left (length es) some in
    record {
      some_columns = some;
      few_columns = omega (arith, four_columns);
      plain_names = plain_boxes;
      whole_rows = ap (λ n. n % length box_columns) many ∙ mul-mod_right (length box_columns) (length es);
      few_rows = omega (arith, rows, few);
      fits = λ k h. subst (λ cell. FitsCell cell (number_at cells k)) (sym (narrow_at (k % length box_columns)))
          (each_cell (FitsSigned w32) es box_narrow all k (pos 0) h);
    }

module _ (whole : Shape) (window core : Frame) (boxes : List Extent) (are : AreTileBoxes whole window core boxes) where
  pub extents_end : AllByRecursion HasEndsWithin (tile_extents whole window core boxes)
  extents_end = (
    image_ends whole,
    (
      frame_ends whole window are.window_inside,
      (frame_ends whole core are.core_inside, recursion_from_All HasEndsWithin boxes are.ends),
    ),
  )

  pub extents_whole : All (FitsSigned w64) (flat_map box_cells (tile_extents whole window core boxes))
  extents_whole = each_cell (FitsSigned w64) (tile_extents whole window core boxes) box_whole extents_end

  pub extents_table : IsTable box_columns (flat_map box_cells (tile_extents whole window core boxes))
  extents_table = boxes_table (tile_extents whole window core boxes) extents_end (omega (arith, are.few))

wider : (z : ℤ) → FitsSigned w32 z → FitsSigned w64 z
wider (pos n) h = record { sfits = omega (arith, ints, h.sfits) }
wider (negsuc n) h = record { sfits = omega (arith, ints, h.sfits) }

-- numbers in columns of 32 bits fit 64 bits, too
pub narrow_whole : (cells : List ℤ) → IsTable box_columns cells → All (FitsSigned w64) cells
narrow_whole cells table = λ k d h.
    wider (get_or cells k d)
    (subst (FitsSigned w32) (get_or_default cells k (pos 0) d h)
    (subst (λ cell. FitsCell cell (number_at cells k)) (narrow_at (k % length box_columns)) (table.fits k h)))

-- ---- boxes that are read

-- no box in front: no boxes
pub no_boxes : (ds es : List Extent) (rest : List ℤ) → AllByRecursion HasEndsWithin ds → All HasEndsWithin es → (rest ≡ [] → ⊥)
    → ((e : Extent) (behind : List ℤ) → HasEndsWithin e → rest ≡ box_cells e ++ behind → ⊥) → flat_map box_cells ds ++ rest ≡ flat_map box_cells es → ⊥
no_boxes ds es rest taken all more none is =
    nothing_else Extent ℤ box_cells HasEndsWithin some_cells (λ d e a b _ _ same. (same_box d e a b same).1) ds es rest taken
    (recursion_from_All HasEndsWithin es all) more none is

-- boxes with the same cells are the same
pub same_boxes : (ds es : List Extent) → flat_map box_cells ds ≡ flat_map box_cells es → ds ≡ es
same_boxes [] [] is = refl
same_boxes [] (e ∷ es) is = absurd (some_cells e (flat_map box_cells es) (sym is))
same_boxes (d ∷ ds) [] is = absurd (some_cells d (flat_map box_cells ds) is)
same_boxes (d ∷ ds) (e ∷ es) is =
    let both = same_box d e (flat_map box_cells ds) (flat_map box_cells es) is in ap₂ ◌∷◌ both.0 (same_boxes ds es both.1)

-- ---- frames that are read

pub not_inside : (e : Extent) (whole : Shape) (f : Frame)
    → (whole.width < e.columns.to) ⊎ ((e.columns.to ≤ whole.width) × (whole.height < e.rows.to)) → IsTrue (is_frame_of whole f) → e ≡ frame_extent f → ⊥
not_inside e whole f out inside is = go out
  where
    right : e.columns.to ≡ f.left + f.shape.width
    right = ap (λ (d : Extent). d.columns.to) is

    bottom : e.rows.to ≡ f.top + f.shape.height
    bottom = ap (λ (d : Extent). d.rows.to) is

    ends : EndsInside whole f
    ends = ends_inside whole f inside

    go : (whole.width < e.columns.to) ⊎ ((e.columns.to ≤ whole.width) × (whole.height < e.rows.to)) → ⊥
    go (inl columns) = omega (arith, columns, right, ends.right)
    go (inr rows) = omega (arith, rows.1, bottom, ends.bottom)

abbrev frame_at : ℕ → ℕ → Shape → Frame
frame_at left top shape = record { left = left; top = top; shape = shape }

pub frame_is : (e : Extent) (whole s : Shape) → e.columns.from ≤ e.columns.to → e.rows.from ≤ e.rows.to → e.columns.to ≤ whole.width
    → e.rows.to ≤ whole.height → s.width ≡ e.columns.to - e.columns.from → s.height ≡ e.rows.to - e.rows.from
    → (e ≡ frame_extent (frame_at e.columns.from e.rows.from s)) × IsTrue (is_frame_of whole (frame_at e.columns.from e.rows.from s))
frame_is e whole s columns rows few_columns few_rows width height =
    let right : e.columns.to ≡ e.columns.from + s.width = omega arith in
    let bottom : e.rows.to ≡ e.rows.from + s.height = omega arith in (
      λ i. record { columns = record { from = e.columns.from; to = right i }; rows = record { from = e.rows.from; to = bottom i } },
      frame_from whole (frame_at e.columns.from e.rows.from s) (record { right = omega (arith, right, few_columns); bottom = omega (arith, bottom, few_rows) }),
    )

-- ---- the boxes of a tile, one after the other

module _ (cells a : List ℤ) (s : Shape) (first : cells ≡ box_cells (image_extent s) ++ a) where
  module _ (whole : Shape) (window core : Frame) (boxes : List Extent) (are : AreTileBoxes whole window core boxes)
      (is : cells ≡ flat_map box_cells (tile_extents whole window core boxes)) where
    behind_image : (s ≡ whole) × (a ≡ flat_map box_cells (frame_extent window ∷ frame_extent core ∷ boxes))
    behind_image =
        let both = same_box (image_extent s) (image_extent whole) a (flat_map box_cells (frame_extent window ∷ frame_extent core ∷ boxes)) (sym first ∙ is) in
        (same_image s whole both.0, both.1)

    inside_same : (f : Frame) → IsTrue (is_frame_of whole f) → IsTrue (is_frame_of s f)
    inside_same f h = subst (λ t. IsTrue (is_frame_of t f)) (sym behind_image.0) h

  pub no_window : ((f : Frame) (rest : List ℤ) → IsTrue (is_frame_of s f) → a ≡ box_cells (frame_extent f) ++ rest → ⊥) → (whole : Shape)
      (window core : Frame) (boxes : List Extent) → AreTileBoxes whole window core boxes
      → cells ≡ flat_map box_cells (tile_extents whole window core boxes) → ⊥
  no_window none whole window core boxes are is =
      none window (flat_map box_cells (frame_extent core ∷ boxes)) (inside_same whole window core boxes are is window are.window_inside)
      (behind_image whole window core boxes are is).1

pub no_core : (cells a b : List ℤ) (s : Shape) (w : Frame) → cells ≡ box_cells (image_extent s) ++ a → a ≡ box_cells (frame_extent w) ++ b
    → ((f : Frame) (rest : List ℤ) → IsTrue (is_frame_of s f) → b ≡ box_cells (frame_extent f) ++ rest → ⊥) → (whole : Shape) (window core : Frame)
    (boxes : List Extent) → AreTileBoxes whole window core boxes → cells ≡ flat_map box_cells (tile_extents whole window core boxes) → ⊥
no_core cells a b s w first second none whole window core boxes are is =
    let behind = behind_image cells a s first whole window core boxes are is in
    let both = same_box (frame_extent w) (frame_extent window) b (flat_map box_cells (frame_extent core ∷ boxes)) (sym second ∙ behind.1) in
    none core (flat_map box_cells boxes) (inside_same cells a s first whole window core boxes are is core are.core_inside) both.1

pub tile_found : (cells a b d : List ℤ) (s : Shape) (w k : Frame) (boxes : List Extent) → length cells ≤ 4 * 2147483647
    → cells ≡ box_cells (image_extent s) ++ a → (a ≡ box_cells (frame_extent w) ++ b) × IsTrue (is_frame_of s w)
    → (b ≡ box_cells (frame_extent k) ++ d) × IsTrue (is_frame_of s k) → (d ≡ flat_map box_cells boxes) × All HasEndsWithin boxes
    → (cells ≡ flat_map box_cells (tile_extents s w k boxes)) × AreTileBoxes s w k boxes
tile_found cells a b d s w k boxes few first second third last =
    let is : cells ≡ flat_map box_cells (tile_extents s w k boxes) = first
    ∙ ap (λ l. box_cells (image_extent s) ++ l) (second.0
    ∙ ap (λ l. box_cells (frame_extent w) ++ l) (third.0 ∙ ap (λ l. box_cells (frame_extent k) ++ l) last.0)) in
    let many : length cells ≡ 4 * length (tile_extents s w k boxes) = ap length is ∙ length_of_all box_cells 4 (tile_extents s w k boxes) (λ e. refl) in (
      is,
      record { window_inside = second.1; core_inside = third.1; ends = last.1; few = omega (arith, few, many) },
    )
