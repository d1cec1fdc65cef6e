-- The first pixels of rows: one of the image for each row of a tile that fits it.
use Rattle.std.proofs.Common.{◌≡◌, ℕ, ◌+◌, ◌-◌, ◌*◌, ◌<◌, ◌≤◌, ◌&&◌, true, List, length, arith, refl, sym, subst, ap, ◌∙◌, w64, get_or, ◌⊎◌, inl, inr, Fits, T}
use Rattle.std.specs.Prelude.{ℤ, pos, negsuc, ◌≤ℤ◌, ◌-ℤ◌, nat_abs, int_le, unsigned_abs, Some, slice_get}
use Rattle.std.proofs.lemmas.Bool.{and_parts, cases_eq}
use Rattle.std.proofs.lemmas.Int.{ints}
use Rattle.std.proofs.lemmas.Nat.{mul-add-lt}
use Rattle.std.proofs.lemmas.Option.{slice_get_within, get_or_from_slice_get}
use mir.Val.{to_z, of_z}
use lib.Signed.{non_neg}
use Rattle.lemmas.proofs.Exported.{int_le-true, among_get}
use Rattle.comp_tree.specs.declared.shape.Shape.{Shape}
use Rattle.comp_tree.proofs.Exported.{all_gives}
use Rattle.source_pick.specs.declared.catalogue.CatRow.{CatRow}
use Rattle.tile_laws.specs.Pieces.{first_pixel, row_with_number}
use Rattle.tile_laws.proofs.Exported.{get_among}
use Rattle.tile_join.specs.declared.tiles.TileCatalogue.{TileCatalogue}
use Rattle.tile_join.specs.Tiles.{fits_tile, rows_of_tiles}
use Rattle.tile_join.specs.Marks.{AreFitting}
use Rattle.tile_join.specs.Places.{HasFirstIn, HaveFirstsIn, HaveNumbersUpTo}
use Rattle.tile_join.proofs.Frames.{IsFitting, fitting_parts}
use Rattle.tile_join.proofs.Order.{IsMadeFrom, made_from}

-- a row of a tile, part by part
pub record IsFittingRow (whole : Shape) (t : TileCatalogue) (row : CatRow) : Type 0 where
  pub low_number : pos 1 ≤ℤ row.number
  pub high_number : row.number ≤ℤ pos (length t.map.items)
  pub first : HasFirstIn whole row

-- a number from 1 to `last`, as a test
both_ends : (z : ℤ) (last : ℕ) → (int_le (pos 1) z && int_le z (pos last)) ≡ true → (pos 1 ≤ℤ z) × (z ≤ℤ pos last)
both_ends z last k =
    let e : (int_le (pos 1) z ≡ true) × (int_le z (pos last) ≡ true) = and_parts (int_le (pos 1) z) (int_le z (pos last)) k in
    (int_le-true (pos 1) z e.0, int_le-true z (pos last) e.1)

pub row_parts : (whole : Shape) (t : TileCatalogue) (row : CatRow) → fits_tile whole t row ≡ true → IsFittingRow whole t row
unfolding fits_tile
row_parts whole t row k = record {
  low_number = n.0;
  high_number = n.1;
  first = record { low_column = x.0; high_column = x.1; low_row = y.0; high_row = y.1 };
}
  where
    a : ((int_le (pos 1) row.number && int_le row.number (pos (length t.map.items))
        && (int_le (pos 1) row.xfirst && int_le row.xfirst (pos whole.width))) ≡ true)
        × ((int_le (pos 1) row.yfirst && int_le row.yfirst (pos whole.height)) ≡ true)
    a = and_parts (int_le (pos 1) row.number && int_le row.number (pos (length t.map.items))
        && (int_le (pos 1) row.xfirst && int_le row.xfirst (pos whole.width)))
        (int_le (pos 1) row.yfirst && int_le row.yfirst (pos whole.height)) k

    b : ((int_le (pos 1) row.number && int_le row.number (pos (length t.map.items))) ≡ true)
        × ((int_le (pos 1) row.xfirst && int_le row.xfirst (pos whole.width)) ≡ true)
    b = and_parts (int_le (pos 1) row.number && int_le row.number (pos (length t.map.items)))
        (int_le (pos 1) row.xfirst && int_le row.xfirst (pos whole.width)) a.0

    n : (pos 1 ≤ℤ row.number) × (row.number ≤ℤ pos (length t.map.items))
    n = both_ends row.number (length t.map.items) b.0

    x : (pos 1 ≤ℤ row.xfirst) × (row.xfirst ≤ℤ pos whole.width)
    x = both_ends row.xfirst whole.width b.1

    y : (pos 1 ≤ℤ row.yfirst) × (row.yfirst ≤ℤ pos whole.height)
    y = both_ends row.yfirst whole.height a.1

-- the rows of a tile that fits the image
pub row_fits : (whole : Shape) (t : TileCatalogue) (i : ℕ) (row : CatRow) → IsFitting whole t → slice_get t.rows.items i ≡ Some row → IsFittingRow whole t row
row_fits whole t i row f g = row_parts whole t row (all_gives (fits_tile whole t) t.rows.items row f.rows (get_among row t.rows.items i g))

pub tile_firsts : (whole : Shape) (t : TileCatalogue) → IsFitting whole t → HaveFirstsIn whole t.rows.items
tile_firsts whole t f = λ i row g. (row_fits whole t i row f g).first

-- a number from 1 on, less 1
pub less_one : (z : ℤ) (last : ℕ) → pos 1 ≤ℤ z → z ≤ℤ pos last → (1 ≤ unsigned_abs z) × (unsigned_abs z ≤ last) × (z ≡ pos (unsigned_abs z))
less_one (pos n) last a b = (omega (arith, ints), omega (arith, ints), refl)
less_one (negsuc n) last a b = absurd (omega (arith, ints))

-- the first pixel is one of the image
pub first_below : (whole : Shape) (row : CatRow) → HasFirstIn whole row → first_pixel whole.width row < whole.width * whole.height
first_below whole row f =
    let x = less_one row.xfirst whole.width f.low_column f.high_column in
    let y = less_one row.yfirst whole.height f.low_row f.high_row in
    mul-add-lt (unsigned_abs row.yfirst - 1) whole.width (unsigned_abs row.xfirst - 1) whole.height (omega (arith, y.0, y.1)) (omega (arith, x.0, x.1))

-- the rows of all tiles, where these fit the image
pub all_firsts : (whole : Shape) (tiles : List TileCatalogue) → AreFitting whole tiles (length tiles) → HaveFirstsIn whole (rows_of_tiles tiles)
all_firsts whole tiles f i row g =
    let w : IsMadeFrom (λ (t : TileCatalogue). t.rows.items) tiles row =
    made_from (λ (t : TileCatalogue). t.rows.items) tiles row (get_among row (rows_of_tiles tiles) i g) in
    let k : (j : ℕ) × (slice_get tiles j ≡ Some w.it) = among_get w.it tiles w.listed in
    let m : (j : ℕ) × (slice_get w.it.rows.items j ≡ Some row) = among_get row w.it.rows.items w.among in
    tile_firsts whole w.it (fitting_parts whole w.it (f k.0 w.it (slice_get_within tiles k.0 w.it k.1) k.1)) m.0 row m.1

-- ---- what is read of a row

-- what is read beyond the end of rows
abbrev pub zero_row : CatRow
zero_row = record {
  number = pos 0;
  level = pos 0;
  base = pos 0;
  area = pos 0;
  flux = pos 0;
  peak = pos 0;
  xmin = pos 0;
  xmax = pos 0;
  ymin = pos 0;
  ymax = pos 0;
  xfirst = pos 0;
  yfirst = pos 0;
  xcen = pos 0;
  ycen = pos 0;
  xvar = pos 0;
  yvar = pos 0;
  xycov = pos 0;
}

-- a number from 1 on, less 1, as the program computes it
pub cast_less_one : (z : ℤ) (last : ℕ) → pos 1 ≤ℤ z → z ≤ℤ pos last → last ≤ 65535
    → nat_abs (to_z w64 (of_z w64 (to_z w64 (of_z w64 z) -ℤ pos 1))) ≡ unsigned_abs z - 1
cast_less_one (pos n) last a b l =
    let low : 1 ≤ n = omega (arith, ints) in
    let high : n ≤ last = omega (arith, ints) in
    let e : to_z w64 (of_z w64 (to_z w64 (of_z w64 (pos n)) -ℤ pos 1)) ≡ pos (n - 1) = omega (arith, ints) in
    ap nat_abs e
cast_less_one (negsuc n) last a b l = absurd (omega (arith, ints))

pub same_place : (a b c d width : ℕ) → a ≡ c → b ≡ d → a * width + b ≡ c * width + d
same_place a b c d width e f = ap (λ (n : ℕ). n * width + b) e ∙ ap (λ (n : ℕ). c * width + n) f

-- a row with another number
pub renumbered : (row : CatRow) (z : ℤ) (n : ℕ) → z ≡ pos n → record row { number = z } ≡ row_with_number n row
renumbered row z n e = ap (λ (m : ℤ). record row { number = m }) e

-- ---- the numbers of rows

-- a number from 1 on, as the program casts it
pub record IsCast (z : ℤ) (last : ℕ) : Type 0 where
  pub fits : T (non_neg (to_z w64 (of_z w64 z))) × Fits w64 (nat_abs (to_z w64 (of_z w64 z)))
  pub is : z ≡ pos (nat_abs (to_z w64 (of_z w64 z)))
  pub high : nat_abs (to_z w64 (of_z w64 z)) ≤ last

pub cast_number : (z : ℤ) (last : ℕ) → pos 1 ≤ℤ z → z ≤ℤ pos last → last ≤ 2147483647 → IsCast z last
cast_number (pos n) last a b l =
    let high : n ≤ last = omega (arith, ints) in
    let e : to_z w64 (of_z w64 (pos n)) ≡ pos n = omega (arith, ints) in
    record {
      fits = subst (λ (y : ℤ). T (non_neg y) × Fits w64 (nat_abs y)) (sym e) (tt, omega arith);
      is = ap (λ (y : ℤ). pos (nat_abs y)) (sym e);
      high = subst (λ (y : ℤ). nat_abs y ≤ last) (sym e) high;
    }
cast_number (negsuc n) last a b l = absurd (omega (arith, ints))

-- one row more
pub numbers_up_to : (rows : List CatRow) (i greatest next : ℕ) (z : ℤ) → i < length rows → z ≡ (get_or rows i zero_row).number
    → ((k : ℕ) (row : CatRow) → k < i → slice_get rows k ≡ Some row → row.number ≤ℤ pos greatest) → greatest ≤ next → z ≤ℤ pos next
    → (k : ℕ) (row : CatRow) → k < i + 1 → slice_get rows k ≡ Some row → row.number ≤ℤ pos next
numbers_up_to rows i greatest next z l d h m n k row b g = go (cases_eq k i)
  where
    go : (k ≡ i) ⊎ (k ≡ i → ⊥) → row.number ≤ℤ pos next
    go (inl e) =
        let same : z ≡ row.number =
        d ∙ ap (λ (j : ℕ). (get_or rows j zero_row).number) (sym e)
        ∙ ap (λ (r : CatRow). r.number) (get_or_from_slice_get rows k row zero_row g) in
        subst (λ (y : ℤ). y ≤ℤ pos next) same n
    go (inr e) = let o : row.number ≤ℤ pos greatest = h k row (omega arith) g in omega (arith, ints)

-- those of a tile that fits the image
pub tile_numbers : (whole : Shape) (t : TileCatalogue) → IsFitting whole t → HaveNumbersUpTo 2147483647 t.rows.items
tile_numbers whole t f = λ i row g.
    let r : IsFittingRow whole t row = row_fits whole t i row f g in
    let low : pos 1 ≤ℤ row.number = r.low_number in
    let high : row.number ≤ℤ pos (length t.map.items) = r.high_number in
    let size : length t.map.items ≡ t.window.shape.width * t.window.shape.height = f.pixels in
    let few : t.window.shape.width * t.window.shape.height ≤ 2147483647 = t.window.shape.within_limits.few_pixels in
    (low, omega (arith, ints))
