-- Where no two cores share a pixel, the rows of the pieces can be put together, and each is one row of one piece.
use Rattle.std.proofs.Common.{◌≡◌, ℕ, ◌+◌, ◌<◌, zero, suc, List, [], ◌∷◌, refl, sym, ◌∙◌, ap, subst, inl, inr}
use Rattle.std.specs.Prelude.{IsTrue, Contains, Some, None, slice_get}
use Rattle.std.proofs.lemmas.Option.{same_Some}
use Rattle.lemmas.proofs.Exported.{ArePaired, IsAmong, among_get, among_of, at_end, at_more, contains_from_among}
use Rattle.comp_tree.specs.Raster.{Raster, IsPlane}
use Rattle.comp_tree.specs.Windows.{seen_through}
use Rattle.comp_tree.proofs.Exported.{in_whole-one}
use Rattle.mesh_background.specs.Residuals.{residual_with}
use Rattle.node_sums.specs.Sums.{sums_of}
use Rattle.source_pick.specs.declared.catalogue.CatRow.{CatRow}
use Rattle.source_pick.specs.Sources.{sources}
use Rattle.source_pick.specs.Catalogue.{catalogue_row}
use Rattle.source_pick.specs.Catalogue.{moved_row}
use Rattle.tile_laws.specs.Pieces.{DetectionChoice, Piece, searched, AnswersForCore, CoversImage, CoresAreApart, first_pixel, IsFromPiece, AreMerged}
use Rattle.tile_laws.specs.Laws.{PiecesCanBeMerged, RowsAreOnePieces}
use Rattle.tile_laws.proofs.Merging.{plane_R, tile, source_from, IsPiecesSource, IsRowThere, row_there, IsSourceOfRow, source_of_row, first_is}
use Rattle.tile_laws.proofs.Mapping.{MapLaws, same_place}

-- ---- pairs by their places

paired_right : {X Y : Type 0} (R : X → Y → Type 0) (xs : List X) (ys : List Y) (i : ℕ) (v : Y) → ArePaired R xs ys → slice_get ys i ≡ Some v
    → (u : X) × (slice_get xs i ≡ Some u) × R u v
paired_right {X} {Y} R _ _ i v at_end e = absurd (no_member e)
  where
    no_member : None ≡ Some v → ⊥
    no_member e = cc
paired_right R _ _ zero v (at_more {x} {y} {xs} {ys} c rest) e = (x, refl, subst (λ z. R x z) (same_Some y v e) c)
paired_right R _ _ (suc i) v (at_more {x} {y} {xs} {ys} c rest) e = paired_right R xs ys i v rest e

paired_left : {X Y : Type 0} (R : X → Y → Type 0) (xs : List X) (ys : List Y) (i : ℕ) (u : X) → ArePaired R xs ys → slice_get xs i ≡ Some u
    → (v : Y) × IsAmong v ys × R u v
paired_left {X} {Y} R _ _ i u at_end e = absurd (no_member e)
  where
    no_member : None ≡ Some u → ⊥
    no_member e = cc
paired_left R _ _ zero u (at_more {x} {y} {xs} {ys} c rest) e = (y, inl refl, subst (λ z. R z y) (same_Some x u e) c)
paired_left {X} {Y} R _ _ (suc i) u (at_more {x} {y} {xs} {ys} c rest) e =
    let g : (v : Y) × IsAmong v ys × R u v = paired_left R xs ys i u rest e in (g.0, inr g.1, g.2)

module _ (laws : MapLaws) (d : DetectionChoice) (r : Raster) (pieces : List Piece) (plane : IsPlane r) (cover : CoversImage r.shape pieces)
    (answers : (t : Piece) → Contains pieces t → AnswersForCore d r t) (apart : CoresAreApart r.shape pieces) where
  abbrev R : Raster
  R = searched d r

  abbrev part : Piece → Raster
  part t = searched d (seen_through t.window r)

  whole : IsPlane R
  whole = plane_R laws.tiles d r pieces plane answers

  -- the first pixel of a piece's row is that of its source in the image
  first_of_row : (t : Piece) (row : CatRow) (c : Contains pieces t) (f : IsFromPiece d r t row)
      → first_pixel r.shape.width row ≡ (sums_of R d.connect (source_of_row laws.tiles d r pieces plane answers t row c f).here).first
  unfolding residual_with
  first_of_row t row c f =
      let s : IsSourceOfRow laws.tiles d r pieces plane answers t row = source_of_row laws.tiles d r pieces plane answers t row c f in
      ap (first_pixel r.shape.width) (s.row_is ∙ sym (s.from.moved.row (s.index + 1))) ∙ first_is R d.connect (s.index + 1) s.here

  -- two rows of one piece with one first pixel are one
  same_row : (t : Piece) (row other : CatRow) → Contains pieces t → IsFromPiece d r t row → IsFromPiece d r t other
      → first_pixel r.shape.width row ≡ first_pixel r.shape.width other → row ≡ other
  unfolding residual_with
  same_row t row other c f g e =
      s.row_is
      ∙ ap (λ (k : ℕ). moved_row t.window (catalogue_row (part t) d.connect (k + 1) s.there)) place
      ∙ ap (λ (m : ℕ). moved_row t.window (catalogue_row (part t) d.connect (u.index + 1) m)) same
      ∙ sym u.row_is
    where
      s : IsSourceOfRow laws.tiles d r pieces plane answers t row
      s = source_of_row laws.tiles d r pieces plane answers t row c f

      u : IsSourceOfRow laws.tiles d r pieces plane answers t other
      u = source_of_row laws.tiles d r pieces plane answers t other c g

      first : (sums_of (part t) d.connect s.there).first ≡ (sums_of (part t) d.connect u.there).first
      first = in_whole-one r.shape t.window (sums_of (part t) d.connect s.there).first (sums_of (part t) d.connect u.there).first (answers t c).inside
          (sym s.from.moved.first ∙ sym (first_of_row t row c f) ∙ e ∙ first_of_row t other c g ∙ u.from.moved.first)

      place : s.index ≡ u.index
      place =
          same_place laws (part t) d.connect d.choice (tile laws.tiles d r pieces plane answers t c).one_each s.index u.index s.there u.there s.at u.at
          first

      same : s.there ≡ u.there
      same = same_Some s.there u.there
          (sym s.at ∙ ap (λ (k : ℕ). slice_get (sources (part t) d.connect d.choice) k) place ∙ u.at)

  pub one_piece : (t u : Piece) (row other : CatRow) → Contains pieces t → Contains pieces u → IsFromPiece d r t row → IsFromPiece d r u other
      → first_pixel r.shape.width row ≡ first_pixel r.shape.width other → (t ≡ u) × (row ≡ other)
  one_piece t u row other a b f g e = (one, same_row t row other a f (subst (λ (x : Piece). IsFromPiece d r x other) (sym one) g) e)
    where
      one : t ≡ u
      one = apart (first_pixel r.shape.width row) t u a b f.own (subst (λ (p : ℕ). IsTrue (u.core p)) (sym e) g.own)

  -- ---- a row for each source

  record IsRowFor (n : ℕ) (row : CatRow) : Type 0 where
    pub piece : Piece
    pub among : Contains pieces piece
    pub from : IsFromPiece d r piece row
    pub first : first_pixel r.shape.width row ≡ (sums_of R d.connect n).first

  row_for : (n : ℕ) → IsAmong n (sources R d.connect d.choice) → (row : CatRow) × IsRowFor n row
  unfolding residual_with
  row_for n k = (row, record { piece = g.0; among = g.1.1.among; from = there.from; first = first })
    where
      g : (t : Piece) × ((m : ℕ) × IsPiecesSource laws.tiles d r pieces plane answers t n m)
      g = source_from laws.tiles d r pieces plane answers cover n k

      there : IsRowThere laws.tiles d r pieces plane answers g.0 n g.1.0
      there = row_there laws.tiles d r pieces plane answers g.0 n g.1.0 g.1.1

      row : CatRow
      row = moved_row g.0.window (catalogue_row (part g.0) d.connect (there.index + 1) g.1.0)

      first : first_pixel r.shape.width row ≡ (sums_of R d.connect n).first
      first = ap (first_pixel r.shape.width) (sym (g.1.1.from.moved.row (there.index + 1))) ∙ first_is R d.connect (there.index + 1) n

  rows_for : (ns : List ℕ) → ((n : ℕ) → IsAmong n ns → IsAmong n (sources R d.connect d.choice)) → (rows : List CatRow) × ArePaired IsRowFor ns rows
  rows_for [] h = ([], at_end)
  rows_for (n ∷ ns) h =
      let one : (row : CatRow) × IsRowFor n row = row_for n (h n (inl refl)) in
      let rest : (rows : List CatRow) × ArePaired IsRowFor ns rows = rows_for ns (λ x m. h x (inr m)) in
      (one.0 ∷ rest.0, at_more one.1 rest.1)

  pub merged : (rows : List CatRow) × AreMerged d r pieces rows
  merged = (made.0, record { each = each; all = all; rise = rise })
    where
      made : (rows : List CatRow) × ArePaired IsRowFor (sources R d.connect d.choice) rows
      made = rows_for (sources R d.connect d.choice) (λ n m. m)

      at : (i : ℕ) (row : CatRow) → slice_get made.0 i ≡ Some row → (n : ℕ) × (slice_get (sources R d.connect d.choice) i ≡ Some n) × IsRowFor n row
      at i row e = paired_right IsRowFor (sources R d.connect d.choice) made.0 i row made.1 e

      each : (row : CatRow) → Contains made.0 row → (t : Piece) × Contains pieces t × IsFromPiece d r t row
      each row c =
          let i : (i : ℕ) × (slice_get made.0 i ≡ Some row) = among_get row made.0 (among_of row made.0 c) in
          let g : (n : ℕ) × (slice_get (sources R d.connect d.choice) i.0 ≡ Some n) × IsRowFor n row = at i.0 row i.1 in
          (g.2.piece, g.2.among, g.2.from)

      all : (t : Piece) (row : CatRow) → Contains pieces t → IsFromPiece d r t row → Contains made.0 row
      all t row c f =
          let s : IsSourceOfRow laws.tiles d r pieces plane answers t row = source_of_row laws.tiles d r pieces plane answers t row c f in
          let i : (i : ℕ) × (slice_get (sources R d.connect d.choice) i ≡ Some s.here) =
          among_get s.here (sources R d.connect d.choice)
          (among_of s.here (sources R d.connect d.choice) ((laws.tiles.listed R d.connect d.choice s.here whole).1 (s.from.node, s.from.source))) in
          let g : (other : CatRow) × IsAmong other made.0 × IsRowFor s.here other =
          paired_left IsRowFor (sources R d.connect d.choice) made.0 i.0 s.here made.1 i.1 in
          let one : (t ≡ g.2.piece) × (row ≡ g.0) = one_piece t g.2.piece row g.0 c g.2.among f g.2.from (first_of_row t row c f ∙ sym g.2.first) in
          subst (λ (x : CatRow). Contains made.0 x) (sym one.1) (contains_from_among g.0 made.0 g.1)

      rise : (i j : ℕ) (row other : CatRow) → i < j → slice_get made.0 i ≡ Some row → slice_get made.0 j ≡ Some other
          → first_pixel r.shape.width row < first_pixel r.shape.width other
      rise i j row other l a b =
          let g : (n : ℕ) × (slice_get (sources R d.connect d.choice) i ≡ Some n) × IsRowFor n row = at i row a in
          let k : (n : ℕ) × (slice_get (sources R d.connect d.choice) j ≡ Some n) × IsRowFor n other = at j other b in
          subst (λ (x : ℕ). x < first_pixel r.shape.width other) (sym g.2.first)
          (subst (λ (x : ℕ). (sums_of R d.connect g.0).first < x) (sym k.2.first) (laws.tiles.in_order R d.connect d.choice i j g.0 k.0 whole l g.1 k.1))

pub pieces_can_be_merged : MapLaws → PiecesCanBeMerged
pieces_can_be_merged laws d r pieces plane cover answers apart = merged laws d r pieces plane cover answers apart

pub rows_are_one_pieces : MapLaws → RowsAreOnePieces
rows_are_one_pieces laws d r pieces t u row other plane cover answers apart a b f g e =
    one_piece laws d r pieces plane cover answers apart t u row other a b f g e
