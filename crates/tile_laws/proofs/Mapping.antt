-- The segmentation map of an image, from the maps of its pieces.
use Rattle.std.proofs.Common.{◌≡◌, ℕ, ◌+◌, ◌*◌, ◌<◌, ◌≤◌, zero, suc, Bool, true, false, cond, List, [], ◌∷◌, length, refl, sym, ◌∙◌, ap, subst, arith}
use Rattle.std.proofs.Common.{◌⊎◌, inl, inr}
use Rattle.std.specs.Prelude.{IsTrue, pos, unsigned_abs, Contains, Some, None, slice_get, slice_index, unwrap_or}
use Rattle.std.specs.List.{position_from}
use Rattle.std.proofs.lemmas.Bool.{cases_eq, cases_lt, cases_order, true≢false}
use Rattle.std.proofs.lemmas.List.{get_or_past, length-map}
use Rattle.std.proofs.lemmas.List.FromFn.{get_or-map-range_with_len}
use Rattle.std.proofs.lemmas.Option.{same_Some}
use Rattle.lemmas.proofs.Exported.{among_get, among_of, contains_from_among}
use Rattle.comp_tree.specs.declared.shape.Connect.{Connect}
use Rattle.comp_tree.specs.Raster.{Raster, IsPlane, pixels}
use Rattle.comp_tree.specs.Components.{is_in_node}
use Rattle.comp_tree.specs.Laws.{IsNode}
use Rattle.comp_tree.specs.Windows.{Window, IsShown, seen_through, SureComponentsAreTheSame}
use Rattle.comp_tree.proofs.Exported.{below_from_defined, in_node-defined, length-pixels}
use Rattle.mesh_background.specs.Residuals.{residual_with}
use Rattle.node_sums.specs.Sums.{sums_of}
use Rattle.source_pick.specs.declared.choice.Choice.{Choice}
use Rattle.source_pick.specs.declared.catalogue.CatRow.{CatRow}
use Rattle.source_pick.specs.Sources.{is_source, sources}
use Rattle.source_pick.specs.Catalogue.{measured_row, catalogue_row}
use Rattle.source_pick.specs.Laws.{SourcesAreDisjoint}
use Rattle.node_sums.specs.DisjointNodes.{listed_number_at}
use Rattle.source_pick.specs.Segmentation.{segmentation_of, segmentation}
use Rattle.source_pick.specs.Catalogue.{moved_row}
use Rattle.source_pick.specs.Windows.{IsTileOf}
use Rattle.tile_laws.specs.Pieces.{DetectionChoice, Piece, searched, mapped, AnswersForCore, CoversImage, first_pixel, IsFromPiece, AreMerged, row_with_number}
use Rattle.tile_laws.specs.Pieces.{IsMappedBy}
use Rattle.tile_laws.specs.Laws.{PiecesGiveTheMap}
use Rattle.tile_laws.proofs.Lists.{get_among, rows_from, get_rows, row_at}
use Rattle.tile_laws.proofs.Merging.{TileLaws, plane_R, tile, source_from, IsPiecesSource, IsRowThere, row_there, IsSourceOfRow, source_of_row, place_of_row}
use Rattle.tile_laws.proofs.Merging.{same_rows, first_is}
use Rattle.tile_laws.proofs.Shown.{shown_pixel}
use Rattle.tile_laws.proofs.Tiles.{tile_of}

-- ---- the place of the first member that passes a test

module _ (f : ℕ → Bool) where
  abbrev number_from : ℕ → List ℕ → ℕ
  number_from i xs = unwrap_or (position_from f i xs) 0

  record IsFoundAt (i v : ℕ) (xs : List ℕ) : Type 0 where
    pub index : ℕ
    pub number : v ≡ index + i
    pub it : ℕ
    pub at : slice_get xs index ≡ Some it
    pub passes : f it ≡ true

  number_gives : (i v : ℕ) (xs : List ℕ) → number_from i xs ≡ v → 0 < v → IsFoundAt i v xs
  number_gives i v [] e some = absurd (omega arith)
  number_gives i v (x ∷ xs) e some = go (f x) refl e (number_gives (i + 1) v xs)
    where
      go : (b : Bool) → f x ≡ b → unwrap_or (cond b (Some i) (position_from f (i + 1) xs)) 0 ≡ v
          → (number_from (i + 1) xs ≡ v → 0 < v → IsFoundAt (i + 1) v xs) → IsFoundAt i v (x ∷ xs)
      go true u k rest = record { index = 0; number = omega (arith, k); it = x; at = refl; passes = u }
      go false u k rest =
          let g : IsFoundAt (i + 1) v xs = rest k some in
          let n : v ≡ g.index + (i + 1) = g.number in
          record { index = suc g.index; number = omega (arith, n); it = g.it; at = g.at; passes = g.passes }

  number_from_place : (i k x : ℕ) (xs : List ℕ) → slice_get xs k ≡ Some x → f x ≡ true → ((j y : ℕ) → slice_get xs j ≡ Some y → f y ≡ true → j ≡ k)
      → number_from i xs ≡ k + i
  number_from_place i k x [] e u only = absurd (no_member e)
    where
      no_member : None ≡ Some x → ⊥
      no_member e = cc
  number_from_place i zero x (y ∷ xs) e u only = go (f y) (ap f (same_Some y x e) ∙ u)
    where
      go : (b : Bool) → b ≡ true → unwrap_or (cond b (Some i) (position_from f (i + 1) xs)) 0 ≡ 0 + i
      go true h = omega arith
      go false h = absurd (true≢false (sym h))
  number_from_place i (suc k) x (y ∷ xs) e u only =
      go (f y) refl (number_from_place (i + 1) k x xs e u (λ j z g h. let n : suc j ≡ suc k = only (suc j) z g h in omega arith))
    where
      go : (b : Bool) → f y ≡ b → number_from (i + 1) xs ≡ k + (i + 1) → unwrap_or (cond b (Some i) (position_from f (i + 1) xs)) 0 ≡ suc k + i
      go true h rest = let n : 0 ≡ suc k = only 0 y refl h in absurd (omega arith)
      go false h rest = omega (arith, rest)

-- ---- the map of one plane

-- the laws that are used here
pub record MapLaws : Type 0 where
  pub tiles : TileLaws
  pub same_component : SureComponentsAreTheSame
  pub disjoint : SourcesAreDisjoint

module _ (laws : MapLaws) (s : Raster) (connect : Connect) (choice : Choice) (plane : IsPlane s) where
  abbrev picked : List ℕ
  picked = sources s connect choice

  source_at : (i n : ℕ) → slice_get picked i ≡ Some n → IsNode s connect n × IsTrue (is_source s connect choice n)
  source_at i n e = (laws.tiles.listed s connect choice n plane).0 (contains_from_among n picked (get_among n picked i e))

  -- two places with one first pixel are one
  pub same_place : (i j m n : ℕ) → slice_get picked i ≡ Some m → slice_get picked j ≡ Some n
      → (sums_of s connect m).first ≡ (sums_of s connect n).first → i ≡ j
  same_place i j m n a b e = go (cases_order i j)
    where
      go : (i ≡ j) ⊎ ((i < j) ⊎ (j < i)) → i ≡ j
      go (inl k) = k
      go (inr (inl k)) =
          let l : (sums_of s connect m).first < (sums_of s connect n).first = laws.tiles.in_order s connect choice i j m n plane k a b in absurd
          (omega arith)
      go (inr (inr k)) =
          let l : (sums_of s connect n).first < (sums_of s connect m).first = laws.tiles.in_order s connect choice j i n m plane k b a in absurd
          (omega arith)

  -- so are two whose sources share a pixel
  same_holder : (i j m n q : ℕ) → slice_get picked i ≡ Some m → slice_get picked j ≡ Some n → is_in_node s connect m q ≡ true
      → is_in_node s connect n q ≡ true → i ≡ j
  same_holder i j m n q a b h k = go (cases_eq m n)
    where
      go : (m ≡ n) ⊎ (m ≡ n → ⊥) → i ≡ j
      go (inl e) = same_place i j m n a b (ap (λ (x : ℕ). (sums_of s connect x).first) e)
      go (inr e) =
          absurd (laws.disjoint s connect choice m n plane (source_at i m a).0 (source_at j n b).0 (source_at i m a).1 (source_at j n b).1 e q h k)

  map_length : length (segmentation s connect choice) ≡ length s.values
  unfolding segmentation segmentation_of
  map_length = length-map (pixels s) (listed_number_at s connect picked) ∙ length-pixels s

  map_at : (q : ℕ) → q < length s.values → slice_index (segmentation s connect choice) q ≡ number_from (λ n. is_in_node s connect n q) 1 picked
  unfolding segmentation segmentation_of listed_number_at pixels
  map_at q l = get_or-map-range_with_len (listed_number_at s connect picked) 0 (length s.values) q q 0 l (omega arith)

  -- the source that a pixel of the map names
  pub record IsNamed (q k : ℕ) : Type 0 where
    pub it : ℕ
    pub at : slice_get picked k ≡ Some it
    pub holds : is_in_node s connect it q ≡ true

  pub map_gives : (q k : ℕ) → slice_index (segmentation s connect choice) q ≡ k + 1 → IsNamed q k
  map_gives q k e = go (cases_lt q (length s.values))
    where
      go : (q < length s.values) ⊎ (length s.values ≤ q) → IsNamed q k
      go (inl l) =
          let g : IsFoundAt (λ n. is_in_node s connect n q) 1 (k + 1) picked =
          number_gives (λ n. is_in_node s connect n q) 1 (k + 1) picked (sym (map_at q l) ∙ e) (omega arith) in
          let n : k + 1 ≡ g.index + 1 = g.number in
          let i : g.index ≡ k = omega arith in
          record { it = g.it; at = subst (λ (x : ℕ). slice_get picked x ≡ Some g.it) i g.at; holds = g.passes }
      go (inr l) =
          let z : slice_index (segmentation s connect choice) q ≡ 0 =
          get_or_past (segmentation s connect choice) q 0 (let m : length (segmentation s connect choice) ≡ length s.values = map_length in omega arith) in
          absurd (omega (arith, e, z))

  pub map_from : (q k n : ℕ) → slice_get picked k ≡ Some n → is_in_node s connect n q ≡ true → slice_index (segmentation s connect choice) q ≡ k + 1
  map_from q k n e h =
      map_at q (below_from_defined s q (in_node-defined s connect n q h))
      ∙ number_from_place (λ x. is_in_node s connect x q) 1 k n picked e h (λ j y a b. same_holder j k y n q a e b h)

-- ---- the maps of the pieces

row_number : (r : Raster) (connect : Connect) (i n : ℕ) (w : Window) → (moved_row w (catalogue_row r connect i n)).number ≡ pos i
unfolding moved_row catalogue_row measured_row
row_number r connect i n w = refl

moved_number : (w : Window) (row : CatRow) → (moved_row w row).number ≡ row.number
unfolding moved_row
moved_number w row = refl

module _ (laws : MapLaws) (d : DetectionChoice) (r : Raster) (pieces : List Piece) (plane : IsPlane r)
    (answers : (t : Piece) → Contains pieces t → AnswersForCore d r t) where
  -- the number of a piece's own row tells its place in the piece
  pub index_at : (t : Piece) (row : CatRow) (c : Contains pieces t) (f : IsFromPiece d r t row) (i : ℕ) → f.it.number ≡ pos i
      → i ≡ (source_of_row laws.tiles d r pieces plane answers t row c f).index + 1
  index_at t row c f i e =
      let s : IsSourceOfRow laws.tiles d r pieces plane answers t row = source_of_row laws.tiles d r pieces plane answers t row c f in
      let k : pos i ≡ pos (s.index + 1) =
      sym e ∙ sym (moved_number t.window f.it) ∙ ap (λ (x : CatRow). x.number) (sym f.moved ∙ s.row_is)
      ∙ row_number (searched d (seen_through t.window r)) d.connect (s.index + 1) s.there t.window in
      ap unsigned_abs k

module _ (laws : MapLaws) (d : DetectionChoice) (r : Raster) (pieces : List Piece) (plane : IsPlane r) (cover : CoversImage r.shape pieces)
    (answers : (t : Piece) → Contains pieces t → AnswersForCore d r t) (rows : List CatRow) (merged : AreMerged d r pieces rows) where
  abbrev R : Raster
  R = searched d r

  abbrev part : Piece → Raster
  part t = searched d (seen_through t.window r)

  pub whole : IsPlane R
  whole = plane_R laws.tiles d r pieces plane answers

  pub piece : (t : Piece) → Contains pieces t → IsTileOf R d.connect d.choice (tile_of d r t)
  piece t c = tile laws.tiles d r pieces plane answers t c

  -- the source of the image that row k of the merged rows is
  record IsPlaced (k : ℕ) (row : CatRow) : Type 0 where
    pub it : ℕ
    pub at : slice_get (sources R d.connect d.choice) k ≡ Some it
    pub first : (sums_of R d.connect it).first ≡ first_pixel r.shape.width row

  placed : (k : ℕ) (row : CatRow) → slice_get rows k ≡ Some row → IsPlaced k row
  unfolding residual_with
  placed k row e = record { it = g.0; at = g.1; first = sym (first_is R d.connect (k + 1) g.0) ∙ ap (first_pixel r.shape.width) g.2 }
    where
      there : slice_get (rows_from (catalogue_row R d.connect) 1 (sources R d.connect d.choice)) k ≡ Some (row_with_number (k + 1) row)
      there =
          ap (λ (x : List CatRow). slice_get x k) (same_rows laws.tiles d r pieces plane answers cover rows merged) ∙ get_rows row_with_number 1 rows k row e

      g : (n : ℕ) × (slice_get (sources R d.connect d.choice) k ≡ Some n) × (catalogue_row R d.connect (k + 1) n ≡ row_with_number (k + 1) row)
      g = row_at (catalogue_row R d.connect) 1 (row_with_number (k + 1) row) (sources R d.connect d.choice) k there

  -- which is the source of the piece's row
  pub here_at : (t : Piece) (row : CatRow) (c : Contains pieces t) (f : IsFromPiece d r t row) (k : ℕ) → slice_get rows k ≡ Some row
      → slice_get (sources R d.connect d.choice) k ≡ Some (source_of_row laws.tiles d r pieces plane answers t row c f).here
  unfolding residual_with
  here_at t row c f k e = subst (λ (x : ℕ). slice_get (sources R d.connect d.choice) x ≡ Some s.here) same j.1
    where
      s : IsSourceOfRow laws.tiles d r pieces plane answers t row
      s = source_of_row laws.tiles d r pieces plane answers t row c f

      q : IsPlaced k row
      q = placed k row e

      j : (j : ℕ) × (slice_get (sources R d.connect d.choice) j ≡ Some s.here)
      j = place_of_row laws.tiles d r pieces plane answers t row c f

      same : j.0 ≡ k
      same = same_place laws R d.connect d.choice whole j.0 k s.here q.it j.1 q.at
          (sym (first_is R d.connect (s.index + 1) s.here) ∙ ap (first_pixel r.shape.width) (s.from.moved.row (s.index + 1) ∙ sym s.row_is) ∙ sym q.first)

  module _ (p k : ℕ) where
    there : slice_index (mapped d r) p ≡ k + 1 → (t : Piece) × Contains pieces t × IsMappedBy d r rows t p k
    unfolding residual_with seen_through
    there e = (
      t,
      is.among,
      record {
        pixel = seen.it;
        below = few;
        place = seen.place;
        row = row;
        at = subst (λ (x : ℕ). slice_get rows x ≡ Some row) same at.1;
        from = own.from;
        number = sym (moved_number t.window own.from.it) ∙ ap (λ (x : CatRow). x.number) (sym own.from.moved) ∙ row_number (part t) d.connect
            (own.index + 1) m t.window ∙ ap pos (sym number);
      },
    )
      where
        n : IsNamed laws R d.connect d.choice whole p k
        n = map_gives laws R d.connect d.choice whole p k e

        g : (t : Piece) × ((m : ℕ) × IsPiecesSource laws.tiles d r pieces plane answers t n.it m)
        g = source_from laws.tiles d r pieces plane answers cover n.it (get_among n.it (sources R d.connect d.choice) k n.at)

        t : Piece
        t = g.0

        m : ℕ
        m = g.1.0

        is : IsPiecesSource laws.tiles d r pieces plane answers t n.it m
        is = g.1.1

        seen : IsShown R (part t) t.window p
        seen = shown_pixel laws.same_component R d.connect d.choice (tile_of d r t) n.it m p whole (piece t is.among) is.from n.holds

        few : seen.it < t.window.shape.width * t.window.shape.height
        few = subst (λ (x : ℕ). seen.it < x) (piece t is.among).one_each seen.below

        own : IsRowThere laws.tiles d r pieces plane answers t n.it m
        own = row_there laws.tiles d r pieces plane answers t n.it m is

        row : CatRow
        row = moved_row t.window (catalogue_row (part t) d.connect (own.index + 1) m)

        number : slice_index (mapped d (seen_through t.window r)) seen.it ≡ own.index + 1
        number = map_from laws (part t) d.connect d.choice (piece t is.among).one_each seen.it own.index m own.at
            (sym (is.from.moved.pixels seen.it seen.below) ∙ ap (is_in_node R d.connect n.it) seen.place ∙ n.holds)

        at : (j : ℕ) × (slice_get rows j ≡ Some row)
        at = among_get row rows (among_of row rows (merged.all t row is.among own.from))

        same : at.0 ≡ k
        same =
            let q : IsPlaced at.0 row = placed at.0 row at.1 in
            same_place laws R d.connect d.choice whole at.0 k q.it n.it q.at n.at
            (q.first ∙ ap (first_pixel r.shape.width) (sym (is.from.moved.row (own.index + 1))) ∙ first_is R d.connect (own.index + 1) n.it)

    back : (t : Piece) → Contains pieces t → IsMappedBy d r rows t p k → slice_index (mapped d r) p ≡ k + 1
    unfolding residual_with
    back t c b = map_from laws R d.connect d.choice whole p k s.here at holds
      where
        s : IsSourceOfRow laws.tiles d r pieces plane answers t b.row
        s = source_of_row laws.tiles d r pieces plane answers t b.row c b.from

        number : slice_index (mapped d (seen_through t.window r)) b.pixel ≡ s.index + 1
        number = index_at laws d r pieces plane answers t b.row c b.from (slice_index (mapped d (seen_through t.window r)) b.pixel) b.number

        g : IsNamed laws (part t) d.connect d.choice (piece t c).one_each b.pixel s.index
        g = map_gives laws (part t) d.connect d.choice (piece t c).one_each b.pixel s.index number

        here : is_in_node (part t) d.connect s.there b.pixel ≡ true
        here = subst (λ (x : ℕ). is_in_node (part t) d.connect x b.pixel ≡ true) (same_Some g.it s.there (sym g.at ∙ s.at)) g.holds

        below : b.pixel < length (part t).values
        below = below_from_defined (part t) b.pixel (in_node-defined (part t) d.connect s.there b.pixel here)

        holds : is_in_node R d.connect s.here p ≡ true
        holds = ap (is_in_node R d.connect s.here) (sym b.place) ∙ s.from.moved.pixels b.pixel below ∙ here

        at : slice_get (sources R d.connect d.choice) k ≡ Some s.here
        at = here_at t b.row c b.from k b.at

pub pieces_give_the_map : MapLaws → PiecesGiveTheMap
pieces_give_the_map laws d r pieces rows p k plane cover answers merged =
    (there laws d r pieces plane cover answers rows merged p k, λ g. back laws d r pieces plane cover answers rows merged p k g.0 g.1 g.2)
