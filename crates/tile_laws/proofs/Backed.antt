-- The backs of an image's sources in a second image, from its pieces.
use Rattle.std.proofs.Common.{◌≡◌, ℕ, ◌+◌, ◌<◌, Bool, true, cond, not, ◌&&◌, List, length, filter, refl, sym, ◌∙◌, ap, subst, arith}
use Rattle.std.specs.Prelude.{IsTrue, ℤ, pos, Some, ◌≤ℤ◌, int_le, Contains, slice_get, slice_index}
use Rattle.std.proofs.lemmas.Bool.{and_parts, cond-true, cond-false, eq-eqb, ne_eqb}
use Rattle.std.proofs.lemmas.Int.{ints}
use Rattle.std.proofs.lemmas.Option.{get_or_from_slice_get}
use Rattle.lemmas.proofs.Exported.{ArePaired, HasPartnerIn, IsAmong, among-filter, among_from_filter, int_le-from, paired_from_rising, rising-pixels, same_bool}
use Rattle.comp_tree.specs.declared.shape.Connect.{Connect}
use Rattle.comp_tree.specs.Raster.{Raster, IsPlane, pixels, value_at, level}
use Rattle.comp_tree.specs.ComponentTree.{parent_in, no_node}
use Rattle.comp_tree.specs.Components.{reaches, is_in_node, tree_of}
use Rattle.comp_tree.specs.Laws.{IsNode, top_of}
use Rattle.comp_tree.specs.Nesting.{is_root}
use Rattle.comp_tree.specs.Windows.{Window, in_whole, LiesSure, seen_through}
use Rattle.comp_tree.proofs.Exported.{AlikeAlong, AreSurePair, IsReachedThere, along_reached, along_reaches}
use Rattle.comp_tree.proofs.Exported.{among_from_defined, below_from_defined, below_no_node, defined_from_at_least}
use Rattle.comp_tree.proofs.Exported.{in_node-defined, paired_sym, reaches-is_IsReached, reaches_lower, reaches_sym}
use Rattle.comp_tree.proofs.Exported.{reaches_trans, sure_components_are_seen, turned, window_along}
use Rattle.mesh_background.specs.Residuals.{residual_with}
use Rattle.node_sums.specs.Flux.{base_of}
use Rattle.node_sums.specs.Sums.{sums_of}
use Rattle.node_sums.proofs.Exported.{BaseCase, at_child, at_root, base-case, level-of_node, parent_holds}
use Rattle.source_pick.specs.declared.catalogue.CatRow.{CatRow}
use Rattle.source_pick.specs.Catalogue.{measured_row, catalogue_row}
use Rattle.source_pick.specs.Catalogue.{moved_row}
use Rattle.source_pick.specs.Windows.{IsTileOf, IsFromTile}
use Rattle.dual_measure.specs.Measures.{measure_over, measure_of, mean_of, around_node, back_of}
use Rattle.source_pick.specs.Sources.{sources}
use Rattle.source_pick.proofs.Exported.{first_inside}
use Rattle.tile_laws.specs.Pieces.{DetectionChoice, Piece, searched, AnswersForCore, IsFromPiece}
use Rattle.tile_laws.specs.Laws.{PiecesGiveTheMeasures}
use Rattle.tile_laws.specs.SecondImage.{measured, backed, MeasuresItsCore}
use Rattle.tile_laws.proofs.Shown.{source_pixel_high}
use Rattle.tile_laws.proofs.Sure.{is_sure}
use Rattle.tile_laws.proofs.Tiles.{tile_of}
use Rattle.tile_laws.proofs.Merging.{plane_R as plane_of, IsSourceOfRow, source_of_row}
use Rattle.tile_laws.proofs.Mapping.{MapLaws, here_at, index_at}
use Rattle.tile_laws.proofs.Measured.{same_measure, tile_is, reached_values, measure_same}

module _ (laws : MapLaws) (d : DetectionChoice) (r values : Raster) (pieces : List Piece) (plane : IsPlane r) (value_plane : IsPlane values)
    (same_shape : values.shape ≡ r.shape)
    (answers : (t : Piece) → Contains pieces t → AnswersForCore d r t)
    (t : Piece) (among : Contains pieces t) (measures : MeasuresItsCore d r values t) where
  abbrev R : Raster
  R = searched d r

  abbrev S : Raster
  S = searched d (seen_through t.window r)

  abbrev V : Raster
  V = searched d values

  abbrev U : Raster
  U = searched d (seen_through t.window values)

  abbrev h : ℤ
  h = d.choice.threshold

  abbrev sure : ℕ → Bool
  sure = is_sure d.empty r t.window d.flat d.mesh

  plane_R : IsPlane R
  plane_R = plane_of laws.tiles d r pieces plane answers

  tile : IsTileOf R d.connect d.choice (tile_of d r t)
  tile = tile_is laws d r values pieces plane value_plane same_shape answers t among measures

  along : AlikeAlong R S d.connect h (AreSurePair R S t.window d.connect h sure)
  along = window_along R S t.window d.connect h sure plane_R tile.one_each tile.shows

  module _ (n m : ℕ) (k : IsFromTile R d.connect d.choice (tile_of d r t) n m) where
    abbrev here : ℕ
    here = (sums_of R d.connect n).first

    abbrev there : ℕ
    there = (sums_of S d.connect m).first

    here_in : is_in_node R d.connect n here ≡ true
    here_in = first_inside R d.connect n plane_R k.node

    there_in : is_in_node S d.connect m there ≡ true
    there_in = first_inside S d.connect m tile.one_each k.from.node

    there_below : there < length S.values
    there_below = below_from_defined S there (in_node-defined S d.connect m there there_in)

    lies : LiesSure R d.connect h sure here
    lies = subst (λ (p : ℕ). LiesSure R d.connect h sure p) (sym k.moved.first)
        ((sure_components_are_seen R S t.window d.connect h sure there plane_R tile.one_each tile.shows there_below
        (tile.core_sure (in_whole R.shape.width t.window there) k.from.own)).1
        (tile.answers there k.from.own (source_pixel_high S d.connect d.choice tile.one_each m there k.from.node k.from.source there_in)))

    first_pair : AreSurePair R S t.window d.connect h sure here there
    first_pair = record {
      place = sym k.moved.first;
      below = there_below;
      high = source_pixel_high R d.connect d.choice plane_R n here k.node k.source here_in;
      lies = lies;
    }

    same_base : base_of (tree_of R d.connect) n ≡ base_of (tree_of S d.connect) m
    unfolding catalogue_row measured_row moved_row
    same_base = ap (λ (x : CatRow). x.base) (k.moved.row 0)

    same_level : level R (top_of R d.connect n) ≡ level S (top_of S d.connect m)
    unfolding catalogue_row measured_row moved_row
    same_level =
        sym (level-of_node R d.connect n k.node) ∙ ap (λ (x : CatRow). x.level) (k.moved.row 0) ∙ level-of_node S d.connect m k.from.node

    -- ---- the parents

    module _ (a c : ℕ) (parent_n : parent_in (tree_of R d.connect).rows n ≡ a) (parent_m : parent_in (tree_of S d.connect).rows m ≡ c)
        (ha : IsNode R d.connect a)
        (hc : IsNode S d.connect c) (levels : level R (top_of R d.connect a) ≡ level S (top_of S d.connect c))
        (low : int_le h (level R (top_of R d.connect a)) ≡ true) where
      from_here : (p : ℕ) → is_in_node R d.connect a p ≡ reaches R d.connect (level R (top_of R d.connect a)) here p
      unfolding is_in_node
      from_here p =
          same_bool (reaches R d.connect (level R (top_of R d.connect a)) (top_of R d.connect a) p)
          (reaches R d.connect (level R (top_of R d.connect a)) here p)
          (λ e. reaches_trans R d.connect (level R (top_of R d.connect a)) here (top_of R d.connect a) p
          (reaches_sym R d.connect (level R (top_of R d.connect a)) (top_of R d.connect a) here from_top) e)
          (λ e. reaches_trans R d.connect (level R (top_of R d.connect a)) (top_of R d.connect a) here p from_top e)
        where
          from_top : IsTrue (reaches R d.connect (level R (top_of R d.connect a)) (top_of R d.connect a) here)
          from_top = parent_holds R d.connect a n here plane_R k.node parent_n ha here_in

      from_there : (q : ℕ) → is_in_node S d.connect c q ≡ reaches S d.connect (level R (top_of R d.connect a)) there q
      unfolding is_in_node
      from_there q =
          same_bool (reaches S d.connect (level S (top_of S d.connect c)) (top_of S d.connect c) q)
          (reaches S d.connect (level S (top_of S d.connect c)) there q)
          (λ e. reaches_trans S d.connect (level S (top_of S d.connect c)) there (top_of S d.connect c) q
          (reaches_sym S d.connect (level S (top_of S d.connect c)) (top_of S d.connect c) there from_top) e)
          (λ e. reaches_trans S d.connect (level S (top_of S d.connect c)) (top_of S d.connect c) there q from_top e)
          ∙ ap (λ (z : ℤ). reaches S d.connect z there q) (sym levels)
        where
          from_top : IsTrue (reaches S d.connect (level S (top_of S d.connect c)) (top_of S d.connect c) there)
          from_top = parent_holds S d.connect c m there tile.one_each k.from.node parent_m hc there_in

      -- pixels that the first ones reach, as pairs
      pub record IsPairInParent (p q : ℕ) : Type 0 where
        pub pair : AreSurePair R S t.window d.connect h sure p q
        pub reached : IsTrue (reaches S d.connect (level R (top_of R d.connect a)) there q)

      abbrev around_n : ℕ → Bool
      around_n p = is_in_node R d.connect a p && not (is_in_node R d.connect n p)

      abbrev around_m : ℕ → Bool
      around_m q = is_in_node S d.connect c q && not (is_in_node S d.connect m q)

      same_around : (p q : ℕ) → AreSurePair R S t.window d.connect h sure p q → around_n p ≡ around_m q
      same_around p q e = ap (λ (b : Bool). b && not (is_in_node R d.connect n p)) outer ∙ ap (λ (b : Bool). is_in_node S d.connect c q && not b) inner
        where
          outer : is_in_node R d.connect a p ≡ is_in_node S d.connect c q
          outer =
              from_here p ∙ along_reaches R S d.connect h (AreSurePair R S t.window d.connect h sure) along.above
              (level R (top_of R d.connect a)) here there p q low first_pair e ∙ sym (from_there q)

          inner : is_in_node R d.connect n p ≡ is_in_node S d.connect m q
          inner = ap (is_in_node R d.connect n) (sym e.place) ∙ k.moved.pixels q e.below

      pub around_paired : ArePaired IsPairInParent (filter around_n (pixels R)) (filter around_m (pixels S))
      unfolding pixels
      around_paired =
          paired_from_rising IsPairInParent (λ x. x) (λ x. x) (filter around_n (pixels R)) (filter around_m (pixels S))
          (λ p q x y c e. along.above.order p q x y c.pair e.pair)
          (rising-pixels around_n (length R.values)) (rising-pixels around_m (length S.values)) there_one back_one
        where
          there_one : (p : ℕ) → IsAmong p (filter around_n (pixels R)) → HasPartnerIn IsPairInParent p (filter around_m (pixels S))
          there_one p e =
              let test : around_n p ≡ true = (among_from_filter around_n p (pixels R) e).1 in
              let both : (is_in_node R d.connect a p ≡ true) × (not (is_in_node R d.connect n p) ≡ true) =
              and_parts (is_in_node R d.connect a p) (not (is_in_node R d.connect n p)) test in
              let g : IsReachedThere S d.connect (level R (top_of R d.connect a)) (AreSurePair R S t.window d.connect h sure) there p =
              along_reached R S d.connect h (AreSurePair R S t.window d.connect h sure) along.above
              (level R (top_of R d.connect a)) here there p low first_pair (sym (from_here p) ∙ both.0) in
              let i : is_in_node S d.connect c g.it ≡ true = from_there g.it ∙ g.reached in
              record {
                it = g.it;
                among = among-filter around_m g.it (pixels S) (among_from_defined S g.it (in_node-defined S d.connect c g.it i))
                    (sym (same_around p g.it g.pair) ∙ test);
                pair = record { pair = g.pair; reached = g.reached };
              }

          back_one : (q : ℕ) → IsAmong q (filter around_m (pixels S)) → HasPartnerIn (λ v u. IsPairInParent u v) q (filter around_n (pixels R))
          back_one q e =
              let test : around_m q ≡ true = (among_from_filter around_m q (pixels S) e).1 in
              let both : (is_in_node S d.connect c q ≡ true) × (not (is_in_node S d.connect m q) ≡ true) =
              and_parts (is_in_node S d.connect c q) (not (is_in_node S d.connect m q)) test in
              let way : IsTrue (reaches S d.connect (level R (top_of R d.connect a)) there q) = sym (from_there q) ∙ both.0 in
              let g : IsReachedThere R d.connect (level R (top_of R d.connect a)) (turned (AreSurePair R S t.window d.connect h sure)) here q =
              along_reached S R d.connect h (turned (AreSurePair R S t.window d.connect h sure))
              (paired_sym R S d.connect h (AreSurePair R S t.window d.connect h sure) along.above)
              (level R (top_of R d.connect a)) there here q low first_pair way in
              let i : is_in_node R d.connect a g.it ≡ true = from_here g.it ∙ g.reached in
              record {
                it = g.it;
                among = among-filter around_n g.it (pixels R) (among_from_defined R g.it (in_node-defined R d.connect a g.it i))
                    (same_around g.it q g.pair ∙ test);
                pair = record { pair = g.pair; reached = way };
              }

      pub around_measure : measure_over V (filter around_n (pixels R)) ≡ measure_over U (filter around_m (pixels S))
      unfolding residual_with
      around_measure = same_measure V U IsPairInParent same (filter around_n (pixels R)) (filter around_m (pixels S)) around_paired
        where
          same : (p q : ℕ) → IsPairInParent p q → value_at V.values p ≡ value_at U.values q
          same p q e = reached_values laws d r values pieces plane value_plane same_shape answers t among measures n m k p q e.pair.place
              (below_from_defined R p (defined_from_at_least R h p e.pair.high))
              ((reaches-is_IsReached S d.connect h there q).0 (reaches_lower S d.connect h (level R (top_of R d.connect a)) there q low e.reached))

      around_n_is : around_node R d.connect n ≡ filter around_n (pixels R)
      unfolding around_node
      around_n_is = ap (λ (x : ℕ). filter (λ p. is_in_node R d.connect x p && not (is_in_node R d.connect n p)) (pixels R)) parent_n

      around_m_is : around_node S d.connect m ≡ filter around_m (pixels S)
      unfolding around_node
      around_m_is = ap (λ (x : ℕ). filter (λ q. is_in_node S d.connect x q && not (is_in_node S d.connect m q)) (pixels S)) parent_m

      pub back_in_parent : back_of V R d.connect n ≡ back_of U S d.connect m
      unfolding back_of
      back_in_parent =
          cond-false (is_root (tree_of R d.connect) n) (pos 0) (mean_of (measure_over V (around_node R d.connect n)))
          (ne_eqb (parent_in (tree_of R d.connect).rows n) no_node (λ e. below_no_node R d.connect a plane_R ha (sym parent_n ∙ e)))
          ∙ ap (λ (ps : List ℕ). mean_of (measure_over V ps)) around_n_is
          ∙ ap mean_of around_measure
          ∙ ap (λ (qs : List ℕ). mean_of (measure_over U qs)) (sym around_m_is)
          ∙ sym (cond-false (is_root (tree_of S d.connect) m) (pos 0) (mean_of (measure_over U (around_node S d.connect m)))
          (ne_eqb (parent_in (tree_of S d.connect).rows m) no_node (λ e. below_no_node S d.connect c tile.one_each hc (sym parent_m ∙ e))))

    pub back_same : h ≤ℤ base_of (tree_of R d.connect) n → back_of V R d.connect n ≡ back_of U S d.connect m
    unfolding back_of
    back_same low = go (base-case R d.connect n plane_R k.node) (base-case S d.connect m tile.one_each k.from.node)
      where
        go : BaseCase R d.connect n → BaseCase S d.connect m
            → cond (is_root (tree_of R d.connect) n) (pos 0) (mean_of (measure_over V (around_node R d.connect n)))
            ≡ cond (is_root (tree_of S d.connect) m) (pos 0) (mean_of (measure_over U (around_node S d.connect m)))
        go (at_root e b) (at_root f g) =
            cond-true (is_root (tree_of R d.connect) n) (pos 0) (mean_of (measure_over V (around_node R d.connect n)))
            (eq-eqb (parent_in (tree_of R d.connect).rows n) no_node e)
            ∙ sym (cond-true (is_root (tree_of S d.connect) m) (pos 0) (mean_of (measure_over U (around_node S d.connect m)))
            (eq-eqb (parent_in (tree_of S d.connect).rows m) no_node f))
        go (at_root e b) (at_child c f hc g l) = absurd (omega (arith, ints, b, g, l, same_base, same_level))
        go (at_child a e ha b l) (at_root f g) = absurd (omega (arith, ints, b, g, l, same_base, same_level))
        go (at_child a e ha b l) (at_child c f hc g u) =
            back_in_parent a c e f ha hc (sym b ∙ same_base ∙ g)
            (int_le-from h (level R (top_of R d.connect a)) (subst (λ (z : ℤ). h ≤ℤ z) b low))

-- ---- the law

row_base : (r : Raster) (connect : Connect) (i n : ℕ) (w : Window) → (moved_row w (catalogue_row r connect i n)).base ≡ base_of (tree_of r connect) n
unfolding moved_row catalogue_row measured_row
row_base r connect i n w = refl

module _ (laws : MapLaws) (d : DetectionChoice) (r values : Raster) (pieces : List Piece) (plane : IsPlane r) (value_plane : IsPlane values)
    (same_shape : values.shape ≡ r.shape)
    (answers : (t : Piece) → Contains pieces t → AnswersForCore d r t)
    (t : Piece) (among : Contains pieces t) (measures : MeasuresItsCore d r values t)
    (row : CatRow) (f : IsFromPiece d r t row) (k i : ℕ)
    (at : slice_get (sources (searched d r) d.connect d.choice) k ≡ Some (source_of_row laws.tiles d r pieces plane answers t row among f).here)
    (number : f.it.number ≡ pos (i + 1)) where
  abbrev s : IsSourceOfRow laws.tiles d r pieces plane answers t row
  s = source_of_row laws.tiles d r pieces plane answers t row among f

  source_here : slice_index (sources (searched d r) d.connect d.choice) k ≡ s.here
  source_here = get_or_from_slice_get (sources (searched d r) d.connect d.choice) k s.here 0 at

  source_there : slice_index (sources (searched d (seen_through t.window r)) d.connect d.choice) i ≡ s.there
  source_there =
      let e : i + 1 ≡ s.index + 1 = index_at laws d r pieces plane answers t row among f (i + 1) number in
      let j : s.index ≡ i = omega arith in
      get_or_from_slice_get (sources (searched d (seen_through t.window r)) d.connect d.choice) i s.there 0
      (subst (λ (x : ℕ). slice_get (sources (searched d (seen_through t.window r)) d.connect d.choice) x ≡ Some s.there) j s.at)

  base : row.base ≡ base_of (tree_of (searched d r) d.connect) s.here
  base =
      ap (λ (x : CatRow). x.base) s.row_is ∙ row_base (searched d (seen_through t.window r)) d.connect (s.index + 1) s.there t.window
      ∙ sym (same_base laws d r values pieces plane value_plane same_shape answers t among measures s.here s.there s.from)

  -- the measure and the back of a piece's own row, which is source i of the piece and source k of the image
  pub own_measures : (measured d r values k ≡ measured d (seen_through t.window r) (seen_through t.window values) i)
      × (d.choice.threshold ≤ℤ row.base → backed d r values k ≡ backed d (seen_through t.window r) (seen_through t.window values) i)
  own_measures = (
    ap (measure_of (searched d values) (searched d r) d.connect) source_here
        ∙ measure_same laws d r values pieces plane value_plane same_shape answers t among measures s.here s.there s.from
        ∙ sym (ap (measure_of (searched d (seen_through t.window values)) (searched d (seen_through t.window r)) d.connect) source_there),
    (λ low. ap (back_of (searched d values) (searched d r) d.connect) source_here
        ∙ back_same laws d r values pieces plane value_plane same_shape answers t among measures s.here s.there s.from
        (subst (λ (z : ℤ). d.choice.threshold ≤ℤ z) base low)
        ∙ sym (ap (back_of (searched d (seen_through t.window values)) (searched d (seen_through t.window r)) d.connect) source_there)),
  )

pub pieces_give_the_measures : MapLaws → PiecesGiveTheMeasures
pieces_give_the_measures laws d r values pieces rows t row f k i plane value_plane same_shape cover answers merged among measures at number =
    own_measures laws d r values pieces plane value_plane same_shape answers t among measures row f k i
    (here_at laws d r pieces plane cover answers rows merged t row among f k at) number
