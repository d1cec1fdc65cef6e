-- The catalogue of an image, from the catalogues of its pieces.
use Rattle.std.proofs.Common.{◌≡◌, ℕ, ◌+◌, ◌-◌, ◌*◌, ◌/◌, ◌%◌, ◌<◌, List, [], ◌∷◌, length, map, refl, sym, ◌∙◌, ap, subst, arith}
use Rattle.std.specs.Prelude.{IsTrue, Contains, Some, slice_get}
use Rattle.std.proofs.lemmas.Nat.{div-add-mod'}
use Rattle.lemmas.proofs.Exported.{IsAmong, IsRisingBy, among-map, among_get, among_of, contains_from_among}
use Rattle.comp_tree.specs.declared.shape.Connect.{Connect}
use Rattle.comp_tree.specs.Raster.{Raster, IsPlane}
use Rattle.comp_tree.specs.Laws.{IsNode}
use Rattle.comp_tree.specs.Windows.{Window, in_whole, seen_through, DeepComponentsLieSure}
use Rattle.mesh_background.specs.Residuals.{residual_with}
use Rattle.node_sums.specs.Sums.{sums_of}
use Rattle.source_pick.specs.declared.catalogue.CatRow.{CatRow}
use Rattle.source_pick.specs.Sources.{is_source, sources}
use Rattle.source_pick.specs.Catalogue.{measured_row, catalogue_row}
use Rattle.source_pick.specs.Laws.{SourcesAreListed, SourcesAreInOrder}
use Rattle.source_pick.specs.Catalogue.{moved_row}
use Rattle.source_pick.specs.Windows.{Tile, IsTileOf, IsOwnSource, IsFromTile, EachSourceIsATiles, OwnSourcesAreTheWholes}
use Rattle.tile_laws.specs.Pieces.{DetectionChoice, Piece, searched, detected, AnswersForCore, CoversImage, first_pixel, IsFromPiece, AreMerged}
use Rattle.tile_laws.specs.Pieces.{row_with_number, numbered_rows}
use Rattle.tile_laws.specs.Laws.{PiecesGiveTheCatalogue}
use Rattle.source_pick.proofs.Exported.{catalogue-is, rising_from_get}
use Rattle.tile_laws.proofs.Lists.{get_among, IsImageOf, image_of, rising_equal, rows_from, IsRowOf, row_of, get_rows, rising_rows}
use Rattle.tile_laws.proofs.Sure.{BackgroundLaws}
use Rattle.tile_laws.proofs.Tiles.{tile_of, is_tile}

-- ---- the rows of one catalogue

-- a row has the number that it is given
renumbered : (r : Raster) (connect : Connect) (i j n : ℕ) → row_with_number i (catalogue_row r connect j n) ≡ catalogue_row r connect i n
unfolding catalogue_row measured_row
renumbered r connect i j n = refl

moved_renumbered : (w : Window) (i : ℕ) (row : CatRow) → row_with_number i (moved_row w row) ≡ moved_row w (row_with_number i row)
unfolding moved_row
moved_renumbered w i row = refl

-- the first pixel of a source is told from its row
pub first_is : (r : Raster) (connect : Connect) (i n : ℕ) → first_pixel r.shape.width (catalogue_row r connect i n) ≡ (sums_of r connect n).first
unfolding catalogue_row measured_row
first_is r connect i n =
    let e : (sums_of r connect n).first / r.shape.width * r.shape.width + (sums_of r connect n).first % r.shape.width ≡ (sums_of r connect n).first =
    div-add-mod' (sums_of r connect n).first r.shape.width in
    let a : (sums_of r connect n).first / r.shape.width + 1 - 1 ≡ (sums_of r connect n).first / r.shape.width = omega arith in
    let b : (sums_of r connect n).first % r.shape.width + 1 - 1 ≡ (sums_of r connect n).first % r.shape.width = omega arith in
    ap (λ (k : ℕ). k * r.shape.width + ((sums_of r connect n).first % r.shape.width + 1 - 1)) a
    ∙ ap (λ (k : ℕ). (sums_of r connect n).first / r.shape.width * r.shape.width + k) b ∙ e

-- ---- two lists of rows with the same numbers

plain : CatRow → CatRow
plain row = row_with_number 0 row

plain_first : (width : ℕ) (row : CatRow) → first_pixel width (plain row) ≡ first_pixel width row
unfolding plain
plain_first width row = refl

numbered_plain : (k : ℕ) (rows : List CatRow) → rows_from row_with_number k (map plain rows) ≡ rows_from row_with_number k rows
unfolding plain
numbered_plain k [] = refl
numbered_plain k (row ∷ rows) = ap (λ (zs : List CatRow). row_with_number k row ∷ zs) (numbered_plain (k + 1) rows)

rows_numbered : (r : Raster) (connect : Connect) (k : ℕ) (ns : List ℕ)
    → rows_from row_with_number k (map plain (rows_from (catalogue_row r connect) k ns)) ≡ rows_from (catalogue_row r connect) k ns
unfolding plain
rows_numbered r connect k [] = refl
rows_numbered r connect k (n ∷ ns) =
    ap (λ (row : CatRow). row ∷ rows_from row_with_number (k + 1) (map plain (rows_from (catalogue_row r connect) (k + 1) ns)))
    (ap (row_with_number k) (renumbered r connect 0 k n) ∙ renumbered r connect k 0 n)
    ∙ ap (λ (zs : List CatRow). catalogue_row r connect k n ∷ zs) (rows_numbered r connect (k + 1) ns)

-- ---- the pieces

-- the laws of tiles that are used here
pub record TileLaws : Type 0 where
  pub background : BackgroundLaws
  pub deep : DeepComponentsLieSure
  pub listed : SourcesAreListed
  pub in_order : SourcesAreInOrder
  pub each : EachSourceIsATiles
  pub own : OwnSourcesAreTheWholes

module _ (laws : TileLaws) (d : DetectionChoice) (r : Raster) (pieces : List Piece) (plane : IsPlane r)
    (answers : (t : Piece) → Contains pieces t → AnswersForCore d r t) where
  abbrev R : Raster
  R = searched d r

  abbrev part : Piece → Raster
  part t = searched d (seen_through t.window r)

  pub plane_R : IsPlane R
  plane_R = laws.background.one_each d.empty r d.mesh d.flat plane

  pub tile : (t : Piece) → Contains pieces t → IsTileOf R d.connect d.choice (tile_of d r t)
  tile t k = is_tile laws.background laws.deep d r t plane (answers t k)

  -- n is a source of the image as m is of the piece, and has this row
  pub record IsPiecesSource (t : Piece) (n m : ℕ) : Type 0 where
    pub among : Contains pieces t
    pub from : IsFromTile R d.connect d.choice (tile_of d r t) n m

  -- the tile of a source of the image
  pub source_from : CoversImage r.shape pieces → (n : ℕ) → IsAmong n (sources R d.connect d.choice) → (t : Piece) × ((m : ℕ) × IsPiecesSource t n m)
  unfolding residual_with
  source_from cover n k = (
    piece.it,
    (
      g.2.0,
      record {
        among = contains_from_among piece.it pieces piece.among;
        from = subst
            (λ (x : Tile). IsFromTile R d.connect d.choice x n g.2.0) (sym piece.image) g.2.1;
      },
    ),
  )
    where
      is : IsNode R d.connect n × IsTrue (is_source R d.connect d.choice n)
      is = (laws.listed R d.connect d.choice n plane_R).0 (contains_from_among n (sources R d.connect d.choice) k)

      tiles : List Tile
      tiles = map (tile_of d r) pieces

      is_tiles : (x : Tile) → Contains tiles x → IsTileOf R d.connect d.choice x
      is_tiles x c =
          let i : IsImageOf (tile_of d r) x pieces = image_of (tile_of d r) x pieces (among_of x tiles c) in
          subst (λ (y : Tile). IsTileOf R d.connect d.choice y) i.image (tile i.it (contains_from_among i.it pieces i.among))

      covered : (p : ℕ) → p < length R.values → (x : Tile) × Contains tiles x × IsTrue (x.core p)
      covered p l =
          let e : length R.values ≡ r.shape.width * r.shape.height = plane_R in
          let c : (t : Piece) × Contains pieces t × IsTrue (t.core p) = cover p (omega (arith, l, e)) in
          (tile_of d r c.0, contains_from_among (tile_of d r c.0) tiles (among-map (tile_of d r) c.0 pieces (among_of c.0 pieces c.1)), c.2)

      g : (x : Tile) × Contains tiles x × ((m : ℕ) × IsFromTile R d.connect d.choice x n m)
      g = laws.each R d.connect d.choice tiles n plane_R is_tiles covered is.0 is.1

      piece : IsImageOf (tile_of d r) g.0 pieces
      piece = image_of (tile_of d r) g.0 pieces (among_of g.0 tiles g.1)

  -- ---- their rows

  listed_there : (t : Piece) (m : ℕ) → Contains pieces t → IsNode (part t) d.connect m → IsTrue (is_source (part t) d.connect d.choice m)
      → IsAmong m (sources (part t) d.connect d.choice)
  listed_there t m k node source =
      among_of m (sources (part t) d.connect d.choice) ((laws.listed (part t) d.connect d.choice m (tile t k).one_each).1 (node, source))

  -- the row that a source of the image has in its piece's catalogue, moved
  pub record IsRowThere (t : Piece) (n m : ℕ) : Type 0 where
    pub index : ℕ
    pub at : slice_get (sources (part t) d.connect d.choice) index ≡ Some m
    pub from : IsFromPiece d r t (moved_row t.window (catalogue_row (part t) d.connect (index + 1) m))

  pub row_there : (t : Piece) (n m : ℕ) → IsPiecesSource t n m → IsRowThere t n m
  unfolding residual_with
  row_there t n m k = record {
    index = j.0;
    at = j.1;
    from = record {
      it = row;
      listed = subst (λ (rows : List CatRow). Contains rows row) (sym (catalogue-is (part t) d.connect d.choice))
          (contains_from_among row (rows_from (catalogue_row (part t) d.connect) 1 (sources (part t) d.connect d.choice)) there);
      moved = refl;
      own = subst (λ (p : ℕ). IsTrue (t.core p)) place k.from.from.own;
    };
  }
    where
      j : (j : ℕ) × (slice_get (sources (part t) d.connect d.choice) j ≡ Some m)
      j = among_get m (sources (part t) d.connect d.choice) (listed_there t m k.among k.from.from.node k.from.from.source)

      row : CatRow
      row = catalogue_row (part t) d.connect (j.0 + 1) m

      there : IsAmong row (rows_from (catalogue_row (part t) d.connect) 1 (sources (part t) d.connect d.choice))
      there = get_among row (rows_from (catalogue_row (part t) d.connect) 1 (sources (part t) d.connect d.choice)) j.0
          (get_rows (catalogue_row (part t) d.connect) 1 (sources (part t) d.connect d.choice) j.0 m j.1)

      place : in_whole r.shape.width t.window (sums_of (part t) d.connect m).first ≡ first_pixel r.shape.width (moved_row t.window row)
      place = sym k.from.moved.first ∙ sym (first_is R d.connect (j.0 + 1) n) ∙ ap (first_pixel r.shape.width) (k.from.moved.row (j.0 + 1))

  -- but for its number it is the row in the image's
  same_plain : (t : Piece) (n m i j : ℕ) → IsFromTile R d.connect d.choice (tile_of d r t) n m
      → plain (moved_row t.window (catalogue_row (part t) d.connect j m)) ≡ plain (catalogue_row R d.connect i n)
  unfolding plain
  same_plain t n m i j k = ap (row_with_number 0) (sym (k.moved.row j)) ∙ renumbered R d.connect 0 j n ∙ sym (renumbered R d.connect 0 i n)

  moved_first : (t : Piece) (j m : ℕ)
      → first_pixel r.shape.width (moved_row t.window (catalogue_row (part t) d.connect j m))
      ≡ in_whole r.shape.width t.window (sums_of (part t) d.connect m).first
  unfolding catalogue_row measured_row moved_row in_whole residual_with seen_through
  moved_first t j m =
      let q : ℕ = (sums_of (part t) d.connect m).first in
      let a : q / t.window.shape.width + 1 + t.window.top - 1 ≡ q / t.window.shape.width + t.window.top = omega arith in
      let b : q % t.window.shape.width + 1 + t.window.left - 1 ≡ q % t.window.shape.width + t.window.left = omega arith in
      ap (λ (k : ℕ). k * r.shape.width + (q % t.window.shape.width + 1 + t.window.left - 1)) a
      ∙ ap (λ (k : ℕ). (q / t.window.shape.width + t.window.top) * r.shape.width + k) b

  -- and the source of a piece's own row
  pub record IsSourceOfRow (t : Piece) (row : CatRow) : Type 0 where
    pub index : ℕ
    pub there : ℕ
    pub at : slice_get (sources (part t) d.connect d.choice) index ≡ Some there
    pub here : ℕ
    pub from : IsFromTile R d.connect d.choice (tile_of d r t) here there
    pub row_is : row ≡ moved_row t.window (catalogue_row (part t) d.connect (index + 1) there)

  pub source_of_row : (t : Piece) (row : CatRow) → Contains pieces t → IsFromPiece d r t row → IsSourceOfRow t row
  unfolding residual_with
  source_of_row t row k f = record {
    index = e.index;
    there = e.it;
    at = e.at;
    here = n.0;
    from = n.1;
    row_is = row_is;
  }
    where
      e : IsRowOf (catalogue_row (part t) d.connect) 1 f.it (sources (part t) d.connect d.choice)
      e = row_of (catalogue_row (part t) d.connect) 1 f.it (sources (part t) d.connect d.choice)
          (among_of f.it (rows_from (catalogue_row (part t) d.connect) 1 (sources (part t) d.connect d.choice))
          (subst (λ (rows : List CatRow). Contains rows f.it) (catalogue-is (part t) d.connect d.choice) f.listed))

      is : IsNode (part t) d.connect e.it × IsTrue (is_source (part t) d.connect d.choice e.it)
      is =
          (laws.listed (part t) d.connect d.choice e.it (tile t k).one_each).0
          (contains_from_among e.it (sources (part t) d.connect d.choice) (get_among e.it (sources (part t) d.connect d.choice) e.index e.at))

      row_is : row ≡ moved_row t.window (catalogue_row (part t) d.connect (e.index + 1) e.it)
      row_is = f.moved ∙ ap (moved_row t.window) (sym e.image)

      own : IsOwnSource R d.connect d.choice (tile_of d r t) e.it
      own = record {
        node = is.0;
        source = is.1;
        own = subst (λ (p : ℕ). IsTrue (t.core p))
            (ap (first_pixel r.shape.width) row_is ∙ moved_first t (e.index + 1) e.it) f.own;
      }

      n : (n : ℕ) × IsFromTile R d.connect d.choice (tile_of d r t) n e.it
      n = laws.own R d.connect d.choice (tile_of d r t) e.it plane_R (tile t k) own

  -- its place among those of the image
  pub place_of_row : (t : Piece) (row : CatRow) (k : Contains pieces t) (f : IsFromPiece d r t row)
      → (j : ℕ) × (slice_get (sources R d.connect d.choice) j ≡ Some (source_of_row t row k f).here)
  place_of_row t row k f =
      let s : IsSourceOfRow t row = source_of_row t row k f in
      among_get s.here (sources R d.connect d.choice)
      (among_of s.here (sources R d.connect d.choice) ((laws.listed R d.connect d.choice s.here plane_R).1 (s.from.node, s.from.source)))

  -- so the image's catalogue has the row there, with the number of the place
  pub row_at_place : (t : Piece) (row : CatRow) (k : Contains pieces t) (f : IsFromPiece d r t row) (j : ℕ)
      → slice_get (sources R d.connect d.choice) j ≡ Some (source_of_row t row k f).here → slice_get (detected d r) j ≡ Some (row_with_number (j + 1) row)
  row_at_place t row k f j at =
      let s : IsSourceOfRow t row = source_of_row t row k f in
      let same : catalogue_row R d.connect (j + 1) s.here ≡ row_with_number (j + 1) row =
      sym (ap (row_with_number (j + 1)) (s.row_is ∙ sym (s.from.moved.row (s.index + 1))) ∙ renumbered R d.connect (j + 1) (s.index + 1) s.here) in
      ap (λ (rows : List CatRow). slice_get rows j) (catalogue-is R d.connect d.choice)
      ∙ get_rows (catalogue_row R d.connect) 1 (sources R d.connect d.choice) j s.here at ∙ ap (λ (x : CatRow). Some x) same

  module _ (cover : CoversImage r.shape pieces) (rows : List CatRow) (merged : AreMerged d r pieces rows) where
    abbrev rows_here : List CatRow
    rows_here = rows_from (catalogue_row R d.connect) 1 (sources R d.connect d.choice)

    there : (x : CatRow) → IsAmong x (map plain rows_here) → IsAmong x (map plain rows)
    there x k =
        subst (λ (y : CatRow). IsAmong y (map plain rows)) same
        (among-map plain row rows (among_of row rows (merged.all g.0 row g.1.1.among there_row.from)))
      where
        y : IsImageOf plain x rows_here
        y = image_of plain x rows_here k

        e : IsRowOf (catalogue_row R d.connect) 1 y.it (sources R d.connect d.choice)
        e = row_of (catalogue_row R d.connect) 1 y.it (sources R d.connect d.choice) y.among

        g : (t : Piece) × ((m : ℕ) × IsPiecesSource t e.it m)
        g = source_from cover e.it (get_among e.it (sources R d.connect d.choice) e.index e.at)

        there_row : IsRowThere g.0 e.it g.1.0
        there_row = row_there g.0 e.it g.1.0 g.1.1

        row : CatRow
        row = moved_row g.0.window (catalogue_row (part g.0) d.connect (there_row.index + 1) g.1.0)

        same : plain row ≡ x
        same = same_plain g.0 e.it g.1.0 (e.index + 1) (there_row.index + 1) g.1.1.from ∙ ap plain e.image ∙ y.image

    back : (x : CatRow) → IsAmong x (map plain rows) → IsAmong x (map plain rows_here)
    back x k = subst (λ (z : CatRow). IsAmong z (map plain rows_here)) same (among-map plain (catalogue_row R d.connect (j.0 + 1) s.here) rows_here row)
      where
        y : IsImageOf plain x rows
        y = image_of plain x rows k

        t : (t : Piece) × Contains pieces t × IsFromPiece d r t y.it
        t = merged.each y.it (contains_from_among y.it rows y.among)

        s : IsSourceOfRow t.0 y.it
        s = source_of_row t.0 y.it t.1 t.2

        j : (j : ℕ) × (slice_get (sources R d.connect d.choice) j ≡ Some s.here)
        j = place_of_row t.0 y.it t.1 t.2

        row : IsAmong (catalogue_row R d.connect (j.0 + 1) s.here) rows_here
        row =
            get_among (catalogue_row R d.connect (j.0 + 1) s.here) rows_here j.0
            (get_rows (catalogue_row R d.connect) 1 (sources R d.connect d.choice) j.0 s.here j.1)

        same : plain (catalogue_row R d.connect (j.0 + 1) s.here) ≡ x
        same = sym (same_plain t.0 s.here s.there (j.0 + 1) (s.index + 1) s.from) ∙ ap plain (sym s.row_is) ∙ y.image

    rising_plain : (zs : List CatRow) → IsRisingBy (first_pixel r.shape.width) zs → IsRisingBy (first_pixel r.shape.width) (map plain zs)
    rising_plain [] h = tt
    rising_plain (z ∷ zs) h = (
      (λ y m. let e : IsImageOf plain y zs = image_of plain y zs m in
          let l : first_pixel r.shape.width z < first_pixel r.shape.width e.it = h.0 e.it e.among in
          let a : first_pixel r.shape.width (plain z) ≡ first_pixel r.shape.width z = plain_first r.shape.width z in
          let b : first_pixel r.shape.width y ≡ first_pixel r.shape.width e.it =
          ap (first_pixel r.shape.width) (sym e.image) ∙ plain_first r.shape.width e.it in
          omega (arith, l, a, b)),
      rising_plain zs h.1,
    )

    rising_here : IsRisingBy (first_pixel r.shape.width) rows_here
    unfolding residual_with
    rising_here =
        rising_rows (catalogue_row R d.connect) (first_pixel r.shape.width) (λ n. (sums_of R d.connect n).first) (λ k n. first_is R d.connect k n) 1
        (sources R d.connect d.choice)
        (rising_from_get (λ n. (sums_of R d.connect n).first) (sources R d.connect d.choice)
        (λ i j m n l a b. laws.in_order R d.connect d.choice i j m n plane_R l a b))

    rising_there : IsRisingBy (first_pixel r.shape.width) rows
    rising_there = rising_from_get (first_pixel r.shape.width) rows (λ i j x y l a b. merged.rise i j x y l a b)

    pub same_rows : rows_here ≡ rows_from row_with_number 1 rows
    same_rows =
        sym (rows_numbered R d.connect 1 (sources R d.connect d.choice))
        ∙ ap (rows_from row_with_number 1) (rising_equal (first_pixel r.shape.width) (map plain rows_here) (map plain rows)
        (rising_plain rows_here rising_here) (rising_plain rows rising_there) there back)
        ∙ numbered_plain 1 rows

    pub same_catalogue : detected d r ≡ numbered_rows rows
    unfolding numbered_rows
    same_catalogue = catalogue-is R d.connect d.choice ∙ same_rows

pub pieces_give_the_catalogue : TileLaws → PiecesGiveTheCatalogue
pieces_give_the_catalogue laws d r pieces rows plane cover answers merged = same_catalogue laws d r pieces plane answers cover rows merged
