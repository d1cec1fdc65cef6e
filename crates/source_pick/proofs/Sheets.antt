-- The laws of sheets.
use Rattle.std.proofs.Common.{◌≡◌, ℕ, ◌+◌, ◌-◌, ◌*◌, ◌/◌, ◌%◌, ◌<◌, ◌≤◌, true, length, ◌&&◌, refl, sym, ◌∙◌, ap, subst, arith}
use Rattle.std.proofs.lemmas.Bool.{and_from, and_parts, le-leb, lt-ltb, leb-true, ltb-true}
use Rattle.std.proofs.lemmas.Nat.{div-add-mod', div-mul-add, mod-mul-add, mod_below, div_below, mul-add-lt}
use Rattle.std.proofs.lemmas.Int.{ints}
use Rattle.std.specs.Prelude.{IsTrue, ℤ, pos, ◌+ℤ◌, ◌-ℤ◌, List, map, Contains, Option, Some, slice_get, ◌↔◌, nat_le, nat_lt, unwrap_or}
use Rattle.std.specs.List.{position_from}
use Rattle.lemmas.proofs.Exported.{ArePaired, HasPartnerIn, IsAmong, among_get, among_of, paired_enumerated, paired_from_rising, paired_map, paired_position, same_bool}
use Rattle.comp_tree.specs.declared.shape.Connect.{Connect}
use Rattle.comp_tree.specs.declared.shape.Shape.{Shape}
use Rattle.comp_tree.specs.Raster.{Raster, IsPlane, pixels}
use Rattle.comp_tree.specs.Components.{is_in_node}
use Rattle.comp_tree.specs.Laws.{IsNode, top_of}
use Rattle.comp_tree.specs.Windows.{in_whole, is_in_box}
use Rattle.comp_tree.proofs.Exported.{IsAt, in_whole-at, some_columns}
use Rattle.node_sums.specs.Sums.{sums_of}
use Rattle.source_pick.specs.declared.choice.Choice.{Choice}
use Rattle.source_pick.specs.declared.catalogue.CatRow.{CatRow}
use Rattle.source_pick.specs.Sources.{is_source, sources}
use Rattle.source_pick.specs.Catalogue.{catalogue_row, moved_row}
use Rattle.source_pick.specs.Sheets.{Part, IsPartOf, IsHeld, IsMovedSource, HeldPixelsHoldSources, SourcesStandInTheSheet, SourcesComeFromThePlane}
use Rattle.node_sums.specs.DisjointNodes.{listed_number_at}
use Rattle.source_pick.specs.Sheets.{taken_back, row_back, sheet_rows, sheet_tops, SheetGivesTheCatalogue, SheetGivesTheTops, IsSheetOf, AreTakenBack}
use Rattle.source_pick.specs.Sheets.{put_on, from_box, has_on_sheet, sheet_number, SheetGivesTheMap}
use Rattle.source_pick.proofs.LocalityHighNodes.{top_high}
use Rattle.source_pick.proofs.Locality.{catalogue-is, number-is, segmentation-is}
use Rattle.source_pick.proofs.WindowsPairing.{rising_from_get, source_from_among, among_sources, sources_rise}
use Rattle.source_pick.proofs.SheetsParts.{IsPartsSource, source_in_part, source_from_part}
use Rattle.source_pick.proofs.CellsColumns.{same_row}

both : (r s : Raster) (connect : Connect) (choice : Choice) (t : Part) (n k j : ℕ) → IsPartsSource r t.plane t.from t.own connect choice n j
    → IsPartsSource s t.plane t.to t.own connect choice k j → IsMovedSource r s connect choice t n k
both r s connect choice t n k j a b = record {
  node = a.node;
  source = a.source;
  node_there = b.node;
  source_there = b.source;
  held = record { it = top_of t.plane connect j; is_own = a.is_own; place = a.place };
  held_there = record { it = top_of t.plane connect j; is_own = b.is_own; place = b.place };
  same_top = refl;
  all_held = a.all_held;
  it = j;
  from = a.moved;
  to = b.moved;
}

pub held_pixels_hold_sources : HeldPixelsHoldSources
held_pixels_hold_sources r s connect choice parts plane_r each held = record {
  each = each;
  sources_held = λ n hn k. held (top_of r connect n) (top_high r connect choice n plane_r hn k);
}

pub sources_stand_in_the_sheet : SourcesStandInTheSheet
sources_stand_in_the_sheet r s connect choice parts n plane_r plane_s sheet hn k = (t, g.1, (b.0, both r s connect choice t n b.0 a.0 a.1 b.1))
  where
    g : (t : Part) × Contains parts t × IsHeld r t.from t.own (top_of r connect n)
    g = sheet.sources_held n hn k

    t : Part
    t = g.0

    part : IsPartOf r s connect choice.threshold t
    part = sheet.each t g.1

    a : (j : ℕ) × IsPartsSource r t.plane t.from t.own connect choice n j
    a = source_in_part r t.plane t.from connect choice t.own plane_r part.one_each part.in_plane n hn k g.2

    b : (m : ℕ) × IsPartsSource s t.plane t.to t.own connect choice m a.0
    b = source_from_part s t.plane t.to connect choice t.own plane_s part.one_each part.in_sheet a.0 a.1.node_in a.1.source_in a.1.is_own

pub sources_come_from_the_plane : SourcesComeFromThePlane
sources_come_from_the_plane r s connect choice t k plane_r plane_s part hk source g = (b.0, both r s connect choice t b.0 k a.0 b.1 a.1)
  where
    a : (j : ℕ) × IsPartsSource s t.plane t.to t.own connect choice k j
    a = source_in_part s t.plane t.to connect choice t.own plane_s part.one_each part.in_sheet k hk source g

    b : (m : ℕ) × IsPartsSource r t.plane t.from t.own connect choice m a.0
    b = source_from_part r t.plane t.from connect choice t.own plane_r part.one_each part.in_plane a.0 a.1.node_in a.1.source_in a.1.is_own

-- ---- the catalogue

on_and_back : (x : ℤ) (a b : ℕ) → x +ℤ pos a ≡ x +ℤ pos b +ℤ pos a -ℤ pos b
on_and_back x a b = omega (arith, ints)

moved_back : (t : Part) (row : CatRow) → moved_row t.from row ≡ row_back t (moved_row t.to row)
unfolding moved_row row_back
moved_back t row =
    same_row (moved_row t.from row) (row_back t (moved_row t.to row)) refl refl refl refl refl refl
    (on_and_back row.xmin t.from.left t.to.left) (on_and_back row.xmax t.from.left t.to.left)
    (on_and_back row.ymin t.from.top t.to.top) (on_and_back row.ymax t.from.top t.to.top)
    (on_and_back row.xfirst t.from.left t.to.left) (on_and_back row.yfirst t.from.top t.to.top)
    (on_and_back row.xcen (1000 * t.from.left) (1000 * t.to.left)) (on_and_back row.ycen (1000 * t.from.top) (1000 * t.to.top))
    refl refl refl

-- a source of the plane has the row of the sheet's, taken back
row_is : (r s : Raster) (connect : Connect) (choice : Choice) (t : Part) (n k i : ℕ) → IsMovedSource r s connect choice t n k
    → catalogue_row r connect i n ≡ row_back t (catalogue_row s connect i k)
row_is r s connect choice t n k i g =
    g.from.row i ∙ moved_back t (catalogue_row t.plane connect i g.it) ∙ ap (row_back t) (sym (g.to.row i))

-- a pixel of the part stands in the plane where its place on the sheet is taken back to
back_is : (r s : Raster) (connect : Connect) (h : ℤ) (t : Part) (o p q : ℕ) → IsPartOf r s connect h t → in_whole r.shape.width t.from q ≡ o
    → in_whole s.shape.width t.to q ≡ p → o ≡ taken_back r.shape.width s.shape.width t p
unfolding taken_back in_whole
back_is r s connect h t o p q part there here =
    sym there
    ∙ ap (λ (x : Shape). (q / x.width + t.from.top) * r.shape.width + (q % x.width + t.from.left)) (sym part.in_plane.shape_is ∙ part.in_sheet.shape_is)
    ∙ ap (λ (x : ℕ). x * r.shape.width + (q % t.to.shape.width + t.from.left)) rows
    ∙ ap (λ (x : ℕ). (p / s.shape.width + t.from.top - t.to.top) * r.shape.width + x) columns
  where
    at : IsAt s.shape.width t.to.shape.width t.to.left t.to.top p q
    at = subst (λ (x : ℕ). IsAt s.shape.width t.to.shape.width t.to.left t.to.top x q) here (in_whole-at s.shape t.to q part.in_sheet.inside)

    rows : q / t.to.shape.width + t.from.top ≡ p / s.shape.width + t.from.top - t.to.top
    rows = let e : p / s.shape.width ≡ q / t.to.shape.width + t.to.top = at.row in omega (arith, e)

    columns : q % t.to.shape.width + t.from.left ≡ p % s.shape.width + t.from.left - t.to.left
    columns = let e : p % s.shape.width ≡ q % t.to.shape.width + t.to.left = at.column in omega (arith, e)

-- and its least pixel
first_is : (r s : Raster) (connect : Connect) (choice : Choice) (t : Part) (n k : ℕ) → IsPartOf r s connect choice.threshold t
    → IsMovedSource r s connect choice t n k
    → (sums_of r connect n).first ≡ taken_back r.shape.width s.shape.width t (sums_of s connect k).first
first_is r s connect choice t n k part g =
    back_is r s connect choice.threshold t (sums_of r connect n).first (sums_of s connect k).first (sums_of t.plane connect g.it).first part
    (sym g.from.first) (sym g.to.first)

-- and the pixel that represents it
top_is : (r s : Raster) (connect : Connect) (choice : Choice) (t : Part) (n k : ℕ) → IsPartOf r s connect choice.threshold t
    → IsMovedSource r s connect choice t n k → top_of r connect n ≡ taken_back r.shape.width s.shape.width t (top_of s connect k)
top_is r s connect choice t n k part g =
    back_is r s connect choice.threshold t (top_of r connect n) (top_of s connect k) g.held_there.it part
    (ap (in_whole r.shape.width t.from) (sym g.same_top) ∙ g.held.place) g.held_there.place

-- a source of the plane, and the one of the sheet that it is
record IsSheets (r s : Raster) (connect : Connect) (choice : Choice) (n : ℕ) (e : Part × ℕ) : Type 0 where
  pub part : IsPartOf r s connect choice.threshold e.0
  pub moved : IsMovedSource r s connect choice e.0 n e.1

first_back : (r s : Raster) (connect : Connect) → Part × ℕ → ℕ
first_back r s connect e = taken_back r.shape.width s.shape.width e.0 (sums_of s connect e.1).first

sheets_order : (r s : Raster) (connect : Connect) (choice : Choice) (n : ℕ) (d : Part × ℕ) (m : ℕ) (e : Part × ℕ) → IsSheets r s connect choice n d
    → IsSheets r s connect choice m e → ((sums_of r connect n).first < (sums_of r connect m).first) ↔ (first_back r s connect d < first_back r s connect e)
unfolding first_back
sheets_order r s connect choice n d m e u v =
    let a : (sums_of r connect n).first ≡ taken_back r.shape.width s.shape.width d.0 (sums_of s connect d.1).first =
    first_is r s connect choice d.0 n d.1 u.part u.moved in
    let b : (sums_of r connect m).first ≡ taken_back r.shape.width s.shape.width e.0 (sums_of s connect e.1).first =
    first_is r s connect choice e.0 m e.1 v.part v.moved in
    ((λ l. omega (arith, a, b, l)), (λ l. omega (arith, a, b, l)))

module _ (r s : Raster) (connect : Connect) (choice : Choice) (parts : List Part) (found : List (Part × ℕ)) (plane_r : IsPlane r) (plane_s : IsPlane s)
    (sheet : IsSheetOf r s connect choice parts) (k : AreTakenBack r s connect choice parts found) where
  there : (n : ℕ) → IsAmong n (sources r connect choice) → HasPartnerIn (IsSheets r s connect choice) n found
  there n m =
      let h : IsNode r connect n × IsTrue (is_source r connect choice n) = source_from_among r connect choice n plane_r m in
      let g : (t : Part) × Contains parts t × ((k : ℕ) × IsMovedSource r s connect choice t n k) =
      sources_stand_in_the_sheet r s connect choice parts n plane_r plane_s sheet h.0 h.1 in
      let c : Contains found (g.0, g.2.0) = k.all g.0 g.2.0 g.1 g.2.1.node_there g.2.1.source_there g.2.1.held_there in
      record { it = (g.0, g.2.0); among = among_of (g.0, g.2.0) found c; pair = record { part = sheet.each g.0 g.1; moved = g.2.1 } }

  back : (e : Part × ℕ) → IsAmong e found → HasPartnerIn (λ v u. IsSheets r s connect choice u v) e (sources r connect choice)
  back e m =
      let i : (j : ℕ) × (slice_get found j ≡ Some e) = among_get e found m in
      let o : Contains parts e.0 × IsNode s connect e.1 × IsTrue (is_source s connect choice e.1) × IsHeld s e.0.to e.0.own (top_of s connect e.1) =
      k.each i.0 e.0 e.1 i.1 in
      let n : (n : ℕ) × IsMovedSource r s connect choice e.0 n e.1 =
      sources_come_from_the_plane r s connect choice e.0 e.1 plane_r plane_s (sheet.each e.0 o.0) o.1 o.2 o.3 in
      record {
        it = n.0;
        among = among_sources r connect choice n.0 plane_r n.1.node n.1.source;
        pair = record { part = sheet.each e.0 o.0; moved = n.1 };
      }

  pairs : ArePaired (IsSheets r s connect choice) (sources r connect choice) found
  unfolding first_back
  pairs = paired_from_rising (IsSheets r s connect choice) (λ n. (sums_of r connect n).first) (first_back r s connect)
      (sources r connect choice) found (sheets_order r s connect choice) (sources_rise r connect choice plane_r)
      (rising_from_get (first_back r s connect) found (λ i j d e l a b. k.rise i j d.0 e.0 d.1 e.1 l a b))
      there back

pub sheet_gives_the_catalogue : SheetGivesTheCatalogue
unfolding sheet_rows
sheet_gives_the_catalogue r s connect choice parts found plane_r plane_s sheet k = catalogue-is r connect choice
    ∙ paired_enumerated (IsSheets r s connect choice) (catalogue_row r connect) (λ i e. row_back e.0 (catalogue_row s connect i e.1)) 1
    (sources r connect choice) found (λ i n e c. row_is r s connect choice e.0 n e.1 i c.moved) (pairs r s connect choice parts found plane_r plane_s sheet k)

pub sheet_gives_the_tops : SheetGivesTheTops
unfolding sheet_tops
sheet_gives_the_tops r s connect choice parts found plane_r plane_s sheet k =
    paired_map (IsSheets r s connect choice) (top_of r connect) (λ e. taken_back r.shape.width s.shape.width e.0 (top_of s connect e.1))
    (sources r connect choice) found (λ n e c. top_is r s connect choice e.0 n e.1 c.part c.moved) (pairs r s connect choice parts found plane_r plane_s sheet k)

-- ---- the map

-- a pixel of the plane where the part is, and the part's pixel there
record IsInPart (r s : Raster) (t : Part) (p : ℕ) : Type 0 where
  pub it : ℕ
  pub below : it < length t.plane.values
  pub place : in_whole r.shape.width t.from it ≡ p

module _ (r s : Raster) (connect : Connect) (choice : Choice) (t : Part) (part : IsPartOf r s connect choice.threshold t) where
  -- on the sheet it stands where the part is there
  on_sheet : (p q : ℕ) → in_whole r.shape.width t.from q ≡ p → put_on r.shape.width s.shape.width t p ≡ in_whole s.shape.width t.to q
  unfolding put_on in_whole
  on_sheet p q e =
      ap (λ (x : ℕ). x * s.shape.width + (p % r.shape.width + t.to.left - t.from.left)) rows
      ∙ ap (λ (x : ℕ). (q / t.from.shape.width + t.to.top) * s.shape.width + x) columns
      ∙ ap (λ (x : Shape). (q / x.width + t.to.top) * s.shape.width + (q % x.width + t.to.left)) (sym part.in_plane.shape_is ∙ part.in_sheet.shape_is)
    where
      at : IsAt r.shape.width t.from.shape.width t.from.left t.from.top p q
      at = subst (λ (x : ℕ). IsAt r.shape.width t.from.shape.width t.from.left t.from.top x q) e (in_whole-at r.shape t.from q part.in_plane.inside)

      rows : p / r.shape.width + t.to.top - t.from.top ≡ q / t.from.shape.width + t.to.top
      rows = let e : p / r.shape.width ≡ q / t.from.shape.width + t.from.top = at.row in omega (arith, e)

      columns : p % r.shape.width + t.to.left - t.from.left ≡ q % t.from.shape.width + t.to.left
      columns = let e : p % r.shape.width ≡ q % t.from.shape.width + t.from.left = at.column in omega (arith, e)

  one_each : length t.plane.values ≡ t.from.shape.width * t.from.shape.height
  one_each = part.one_each ∙ ap (λ (x : Shape). x.width * x.height) part.in_plane.shape_is

  -- which pixels these are
  in_part : (p : ℕ) → IsTrue (is_in_box r.shape.width (from_box t) p) → IsInPart r s t p
  unfolding is_in_box in_whole
  in_part p k = record { it = q; below = subst (λ (x : ℕ). q < x) (sym one_each) few; place = place }
    where
      a : IsTrue (nat_le t.from.left (p % r.shape.width) && nat_lt (p % r.shape.width) (t.from.left + t.from.shape.width))
          × IsTrue (nat_le t.from.top (p / r.shape.width) && nat_lt (p / r.shape.width) (t.from.top + t.from.shape.height))
      a = and_parts _ _ k

      b : IsTrue (nat_le t.from.left (p % r.shape.width)) × IsTrue (nat_lt (p % r.shape.width) (t.from.left + t.from.shape.width))
      b = and_parts _ _ a.0

      c : IsTrue (nat_le t.from.top (p / r.shape.width)) × IsTrue (nat_lt (p / r.shape.width) (t.from.top + t.from.shape.height))
      c = and_parts _ _ a.1

      l : t.from.left ≤ p % r.shape.width
      l = leb-true t.from.left (p % r.shape.width) b.0

      m : p % r.shape.width < t.from.left + t.from.shape.width
      m = ltb-true (p % r.shape.width) (t.from.left + t.from.shape.width) b.1

      n : t.from.top ≤ p / r.shape.width
      n = leb-true t.from.top (p / r.shape.width) c.0

      o : p / r.shape.width < t.from.top + t.from.shape.height
      o = ltb-true (p / r.shape.width) (t.from.top + t.from.shape.height) c.1

      x : ℕ
      x = p % r.shape.width - t.from.left

      y : ℕ
      y = p / r.shape.width - t.from.top

      x_few : x < t.from.shape.width
      x_few = omega (arith, l, m)

      y_few : y < t.from.shape.height
      y_few = omega (arith, n, o)

      q : ℕ
      q = y * t.from.shape.width + x

      few : q < t.from.shape.width * t.from.shape.height
      few = mul-add-lt y t.from.shape.width x t.from.shape.height y_few x_few

      row : q / t.from.shape.width + t.from.top ≡ p / r.shape.width
      row = let e : q / t.from.shape.width ≡ y = div-mul-add y t.from.shape.width x x_few in omega (arith, e, n)

      column : q % t.from.shape.width + t.from.left ≡ p % r.shape.width
      column = let e : q % t.from.shape.width ≡ x = mod-mul-add y t.from.shape.width x x_few in omega (arith, e, l)

      place : (q / t.from.shape.width + t.from.top) * r.shape.width + (q % t.from.shape.width + t.from.left) ≡ p
      place =
          ap (λ (z : ℕ). z * r.shape.width + (q % t.from.shape.width + t.from.left)) row
          ∙ ap (λ (z : ℕ). p / r.shape.width * r.shape.width + z) column
          ∙ div-add-mod' p r.shape.width

  -- each of the part's pixels is one
  in_box : (p q : ℕ) → q < length t.plane.values → in_whole r.shape.width t.from q ≡ p → IsTrue (is_in_box r.shape.width (from_box t) p)
  unfolding is_in_box
  in_box p q l e =
      and_from _ _
      (and_from _ _ (le-leb t.from.left (p % r.shape.width) (omega (arith, column))) (lt-ltb (p % r.shape.width) (t.from.left + t.from.shape.width)
      (omega (arith, column, x))))
      (and_from _ _ (le-leb t.from.top (p / r.shape.width) (omega (arith, row))) (lt-ltb (p / r.shape.width) (t.from.top + t.from.shape.height)
      (omega (arith, row, y))))
    where
      at : IsAt r.shape.width t.from.shape.width t.from.left t.from.top p q
      at = subst (λ (x : ℕ). IsAt r.shape.width t.from.shape.width t.from.left t.from.top x q) e (in_whole-at r.shape t.from q part.in_plane.inside)

      row : p / r.shape.width ≡ q / t.from.shape.width + t.from.top
      row = at.row

      column : p % r.shape.width ≡ q % t.from.shape.width + t.from.left
      column = at.column

      x : q % t.from.shape.width < t.from.shape.width
      x = mod_below q t.from.shape.width (some_columns t.from.shape)

      y : q / t.from.shape.width < t.from.shape.height
      y = div_below q t.from.shape.width t.from.shape.height (some_columns t.from.shape) (let f = one_each in omega (arith, l, f))

  -- so a source of the plane has a pixel where the sheet's has it
  has_same : (n k p : ℕ) → IsMovedSource r s connect choice t n k → is_in_node r connect n p ≡ has_on_sheet r s connect p (t, k)
  unfolding has_on_sheet
  has_same n k p g = same_bool (is_in_node r connect n p)
      (is_in_box r.shape.width (from_box t) p && is_in_node s connect k (put_on r.shape.width s.shape.width t p)) there back
    where
      at_sheet : (q : ℕ) → q < length t.plane.values → in_whole r.shape.width t.from q ≡ p
          → is_in_node r connect n p ≡ is_in_node s connect k (put_on r.shape.width s.shape.width t p)
      at_sheet q l e =
          ap (is_in_node r connect n) (sym e) ∙ g.from.pixels q l ∙ sym (g.to.pixels q l) ∙ ap (is_in_node s connect k) (sym (on_sheet p q e))

      there : is_in_node r connect n p ≡ true
          → is_in_box r.shape.width (from_box t) p && is_in_node s connect k (put_on r.shape.width s.shape.width t p) ≡ true
      there i =
          let h : IsHeld r t.from t.own p = g.all_held p i in
          let l : h.it < length t.plane.values = part.in_plane.below h.it h.is_own in
          and_from (is_in_box r.shape.width (from_box t) p) (is_in_node s connect k (put_on r.shape.width s.shape.width t p))
          (in_box p h.it l h.place) (sym (at_sheet h.it l h.place) ∙ i)

      back : is_in_box r.shape.width (from_box t) p && is_in_node s connect k (put_on r.shape.width s.shape.width t p) ≡ true
          → is_in_node r connect n p ≡ true
      back i =
          let a = and_parts (is_in_box r.shape.width (from_box t) p) (is_in_node s connect k (put_on r.shape.width s.shape.width t p)) i in
          let h : IsInPart r s t p = in_part p a.0 in
          at_sheet h.it h.below h.place ∙ a.1

pub sheet_gives_the_map : SheetGivesTheMap
unfolding sheet_number
sheet_gives_the_map r s connect choice parts found plane_r plane_s sheet k =
    segmentation-is r connect choice ∙ ap (λ (f : ℕ → ℕ). map f (pixels r)) (λ i p. number p i)
  where
    number : (p : ℕ) → listed_number_at r connect (sources r connect choice) p ≡ unwrap_or (position_from (has_on_sheet r s connect p) 1 found) 0
    number p =
        number-is r connect choice p
        ∙ ap (λ (o : Option ℕ). unwrap_or o 0)
        (paired_position (IsSheets r s connect choice) (λ n. is_in_node r connect n p) (has_on_sheet r s connect p) 1 (sources r connect choice) found
        (λ n e c. has_same r s connect choice e.0 c.part n e.1 p c.moved) (pairs r s connect choice parts found plane_r plane_s sheet k))
