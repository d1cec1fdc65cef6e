-- The measures of an image's sources in a second image, from its pieces.
use Rattle.std.proofs.Common.{◌≡◌, ℕ, ◌*◌, ◌<◌, true, not, List, length, map, refl, sym, ◌∙◌, ap, subst, arith}
use Rattle.std.specs.Prelude.{IsTrue, ℤ, pos, ◌↔◌, Contains, Option, is_some, unwrap_or}
use Rattle.lemmas.proofs.Exported.{ArePaired, HasPartnerIn, IsAmong, paired_filter, paired_from_rising, paired_map}
use Rattle.comp_tree.specs.declared.shape.Connect.{Connect}
use Rattle.comp_tree.specs.declared.shape.Shape.{Shape}
use Rattle.comp_tree.specs.Raster.{Raster, IsPlane, value_at, is_defined, level}
use Rattle.comp_tree.specs.Components.{IsReached, is_in_node}
use Rattle.comp_tree.specs.Nesting.{pixels_of}
use Rattle.comp_tree.specs.Windows.{Window, IsInside, in_whole, is_in_box, IsShown, Shows, seen_through, SureComponentsAreTheSame}
use Rattle.comp_tree.proofs.Exported.{IsAt, among_pixels, at_order, below_from_defined}
use Rattle.comp_tree.proofs.Exported.{in_node-defined, in_node_from_among, in_whole-at, in_whole-one}
use Rattle.comp_tree.proofs.Exported.{rising_pixels_of, some_columns}
use Rattle.mesh_background.specs.Residuals.{residual_with}
use Rattle.node_sums.specs.Sums.{total, sums_of}
use Rattle.source_pick.specs.declared.choice.Choice.{Choice}
use Rattle.source_pick.specs.Windows.{Tile, IsTileOf, IsFromTile}
use Rattle.source_pick.proofs.Exported.{first_inside, length_paired, total_paired}
use Rattle.dual_measure.specs.declared.values.Measure.{Measure}
use Rattle.dual_measure.specs.Measures.{least_or_zero, greatest_or_zero, seen_of, missing_of, measure_over, measure_of}
use Rattle.tile_laws.specs.Pieces.{DetectionChoice, Piece, searched, AnswersForCore}
use Rattle.tile_laws.specs.SecondImage.{HasMeasuredBox, MeasuresItsCore}
use Rattle.tile_laws.proofs.Sure.{is_sure, sure_in_box, shows_sure}
use Rattle.tile_laws.proofs.Shown.{source_reached, source_pixel_high, shown_pixel}
use Rattle.tile_laws.proofs.Tiles.{tile_of}
use Rattle.tile_laws.proofs.Merging.{plane_R, tile}
use Rattle.tile_laws.proofs.Mapping.{MapLaws}

-- ---- measures over paired pixels

abbrev of_parts : ℕ → ℕ → ℤ → List ℤ → Measure
of_parts a b s xs = record {
  seen = a;
  missing = b;
  v = s;
  low = least_or_zero xs;
  peak = greatest_or_zero xs;
}

same_parts : (a b x y : ℕ) (s z : ℤ) (xs ys : List ℤ) → a ≡ x → b ≡ y → s ≡ z → xs ≡ ys → of_parts a b s xs ≡ of_parts x y z ys
same_parts a b x y s z xs ys e f g h =
    ap (λ (n : ℕ). of_parts n b s xs) e ∙ ap (λ (n : ℕ). of_parts x n s xs) f ∙ ap (λ (n : ℤ). of_parts x y n xs) g
    ∙ ap (λ (ns : List ℤ). of_parts x y z ns) h

module _ (v u : Raster) (R : ℕ → ℕ → Type 0) (same : (p q : ℕ) → R p q → value_at v.values p ≡ value_at u.values q) where
  same_level : (p q : ℕ) → R p q → level v p ≡ level u q
  unfolding level
  same_level p q c = ap (λ (o : Option ℤ). unwrap_or o (pos 0)) (same p q c)

  pub same_measure : (ps qs : List ℕ) → ArePaired R ps qs → measure_over v ps ≡ measure_over u qs
  unfolding measure_over
  same_measure ps qs c =
      same_parts (length (seen_of v ps)) (length (missing_of v ps)) (length (seen_of u qs)) (length (missing_of u qs))
      (total (level v) (seen_of v ps)) (total (level u) (seen_of u qs))
      (map (level v) (seen_of v ps)) (map (level u) (seen_of u qs)) seen_count missing_count sum values
    where
      seen : ArePaired R (seen_of v ps) (seen_of u qs)
      seen = paired_filter R (is_defined v) (is_defined u) ps qs (λ p q k. ap (λ (o : Option ℤ). is_some o) (same p q k)) c

      missing : ArePaired R (missing_of v ps) (missing_of u qs)
      missing =
          paired_filter R (λ p. not (is_defined v p)) (λ q. not (is_defined u q)) ps qs (λ p q k. ap (λ (o : Option ℤ). not (is_some o)) (same p q k)) c

      seen_count : length (seen_of v ps) ≡ length (seen_of u qs)
      seen_count = length_paired R (seen_of v ps) (seen_of u qs) seen

      missing_count : length (missing_of v ps) ≡ length (missing_of u qs)
      missing_count = length_paired R (missing_of v ps) (missing_of u qs) missing

      sum : total (level v) (seen_of v ps) ≡ total (level u) (seen_of u qs)
      sum = total_paired R (level v) (level u) (seen_of v ps) (seen_of u qs) same_level seen

      values : map (level v) (seen_of v ps) ≡ map (level u) (seen_of u qs)
      values = paired_map R (level v) (level u) (seen_of v ps) (seen_of u qs) same_level seen

-- ---- the pixels of a source, in the image and in the piece

-- pixel p of the image is pixel q of the window, and both are of the source
pub record AreOfSource (r s : Raster) (connect : Connect) (w : Window) (n m p q : ℕ) : Type 0 where
  pub place : in_whole r.shape.width w q ≡ p
  pub below : q < length s.values
  pub here : is_in_node r connect n p ≡ true
  pub there : is_in_node s connect m q ≡ true

module _ (law : SureComponentsAreTheSame) (r : Raster) (connect : Connect) (choice : Choice) (t : Tile) (n m : ℕ) (plane : IsPlane r)
    (tile : IsTileOf r connect choice t) (k : IsFromTile r connect choice t n m) where
  abbrev pub Of : ℕ → ℕ → Type 0
  Of p q = AreOfSource r t.plane connect t.window n m p q

  pub pixels_paired : ArePaired Of (pixels_of r connect n) (pixels_of t.plane connect m)
  pixels_paired =
      paired_from_rising Of (λ x. x) (λ x. x) (pixels_of r connect n) (pixels_of t.plane connect m) order (rising_pixels_of r connect n)
      (rising_pixels_of t.plane connect m) there back
    where
      at : (p q : ℕ) → Of p q → IsAt r.shape.width t.plane.shape.width t.window.left t.window.top p q
      at p q c =
          subst (λ (x : ℕ). IsAt r.shape.width t.plane.shape.width t.window.left t.window.top x q) c.place
          (subst (λ (x : Shape). IsAt r.shape.width x.width t.window.left t.window.top (in_whole r.shape.width t.window q) q)
          (sym tile.shows.shape_is) (in_whole-at r.shape t.window q tile.shows.inside))

      order : (p q a b : ℕ) → Of p q → Of a b → (p < a) ↔ (q < b)
      order p q a b c e =
          at_order r.shape.width t.plane.shape.width t.window.left t.window.top p q a b (some_columns r.shape) (some_columns t.plane.shape)
          (at p q c) (at a b e)

      there : (p : ℕ) → IsAmong p (pixels_of r connect n) → HasPartnerIn Of p (pixels_of t.plane connect m)
      there p a =
          let h : is_in_node r connect n p ≡ true = in_node_from_among r connect n p a in
          let g : IsShown r t.plane t.window p = shown_pixel law r connect choice t n m p plane tile k h in
          let i : is_in_node t.plane connect m g.it ≡ true = sym (k.moved.pixels g.it g.below) ∙ ap (is_in_node r connect n) g.place ∙ h in
          record { it = g.it; among = among_pixels t.plane connect m g.it i; pair = record { place = g.place; below = g.below; here = h; there = i } }

      back : (q : ℕ) → IsAmong q (pixels_of t.plane connect m) → HasPartnerIn (λ v u. Of u v) q (pixels_of r connect n)
      back q a =
          let i : is_in_node t.plane connect m q ≡ true = in_node_from_among t.plane connect m q a in
          let b : q < length t.plane.values = below_from_defined t.plane q (in_node-defined t.plane connect m q i) in
          let h : is_in_node r connect n (in_whole r.shape.width t.window q) ≡ true = k.moved.pixels q b ∙ i in
          record {
            it = in_whole r.shape.width t.window q;
            among = among_pixels r connect n
                (in_whole r.shape.width t.window q) h;
            pair = record { place = refl; below = b; here = h; there = i };
          }

-- ---- the law

module _ (laws : MapLaws) (d : DetectionChoice) (r values : Raster) (pieces : List Piece) (plane : IsPlane r) (value_plane : IsPlane values)
    (same_shape : values.shape ≡ r.shape)
    (answers : (t : Piece) → Contains pieces t → AnswersForCore d r t)
    (t : Piece) (among : Contains pieces t) (measures : MeasuresItsCore d r values t) where
  abbrev R : Raster
  R = searched d r

  abbrev S : Raster
  S = searched d (seen_through t.window r)

  abbrev V : Raster
  V = searched d values

  abbrev U : Raster
  U = searched d (seen_through t.window values)

  inside_values : IsInside values.shape t.window
  inside_values = subst (λ (x : Shape). IsInside x t.window) (sym same_shape) (answers t among).inside

  pub tile_is : IsTileOf R d.connect d.choice (tile_of d r t)
  tile_is = tile laws.tiles d r pieces plane answers t among

  -- a pixel of the image that is sure in the values has the same value there
  value_same : (p q : ℕ) → in_whole values.shape.width t.window q ≡ p → p < length V.values → IsTrue (is_sure d.empty values t.window d.flat d.mesh p)
      → value_at V.values p ≡ value_at U.values q
  unfolding residual_with
  value_same p q e l k =
      let shows : Shows V U t.window (is_sure d.empty values t.window d.flat d.mesh) =
      shows_sure laws.tiles.background d.empty values t.window d.flat d.mesh value_plane inside_values (answers t among).on_mesh in
      let g : IsShown V U t.window p = shows.shown p l k in
      g.same ∙ ap (value_at U.values) (in_whole-one values.shape t.window g.it q inside_values (g.place ∙ sym e))

  module _ (n m : ℕ) (k : IsFromTile R d.connect d.choice (tile_of d r t) n m) where
    abbrev first : ℕ
    first = (sums_of S d.connect m).first

    first_in : is_in_node S d.connect m first ≡ true
    first_in = first_inside S d.connect m tile_is.one_each k.from.node

    box : HasMeasuredBox d r values t first
    unfolding residual_with
    box = measures first k.from.own (source_pixel_high S d.connect d.choice tile_is.one_each m first k.from.node k.from.source first_in)

    -- so has each that the first pixel of a source reaches at the threshold
    pub reached_values : (p q : ℕ) → in_whole r.shape.width t.window q ≡ p → p < length R.values → IsReached S d.connect d.choice.threshold first q
        → value_at V.values p ≡ value_at U.values q
    unfolding residual_with
    reached_values p q e l path =
        value_same p q place below (sure_in_box laws.tiles.background d.empty values t.window d.flat d.mesh value_plane inside_values
        (answers t among).on_mesh box.box p box.sure in_box)
      where
        place : in_whole values.shape.width t.window q ≡ p
        place = ap (λ (x : Shape). in_whole x.width t.window q) same_shape ∙ e

        in_box : IsTrue (is_in_box values.shape.width box.box p)
        in_box = subst (λ (x : ℕ). IsTrue (is_in_box values.shape.width box.box x)) place (box.holds q path)

        below : p < length V.values
        below =
            let a : length V.values ≡ values.shape.width * values.shape.height = laws.tiles.background.one_each d.empty values d.mesh d.flat value_plane in
            let b : length R.values ≡ r.shape.width * r.shape.height = plane_R laws.tiles d r pieces plane answers in
            let c : values.shape.width * values.shape.height ≡ r.shape.width * r.shape.height = ap (λ (x : Shape). x.width * x.height) same_shape in
            omega (arith, a, b, c, l)

    same_values : (p q : ℕ) → AreOfSource R S d.connect t.window n m p q → value_at V.values p ≡ value_at U.values q
    unfolding residual_with
    same_values p q c = reached_values p q c.place (below_from_defined R p (in_node-defined R d.connect n p c.here))
        (source_reached S d.connect d.choice tile_is.one_each m first q k.from.node k.from.source first_in c.there)

    pub measure_same : measure_of V R d.connect n ≡ measure_of U S d.connect m
    unfolding measure_of
    measure_same =
        same_measure V U (AreOfSource R S d.connect t.window n m) same_values (pixels_of R d.connect n) (pixels_of S d.connect m)
        (pixels_paired laws.same_component R d.connect d.choice (tile_of d r t) n m (plane_R laws.tiles d r pieces plane answers) tile_is k)
