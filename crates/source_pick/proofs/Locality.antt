-- The law of locality: planes that agree near the pixels of at least the threshold have the same sources.
use Rattle.std.proofs.Common.{◌≡◌, ℕ, ◌<◌, true, map, refl, sym, ◌∙◌, ap, subst, arith}
use Rattle.std.specs.Prelude.{IsTrue, ℤ, Option, unwrap_or, ◌↔◌}
use Rattle.std.specs.List.{enumerate_from, position_from}
use Rattle.lemmas.proofs.Exported.{ArePaired, HasPartnerIn, IsAmong, paired_enumerated, paired_from_rising, paired_map, paired_position}
use Rattle.comp_tree.specs.declared.shape.Connect.{Connect}
use Rattle.comp_tree.specs.Raster.{Raster, IsPlane, at_least, pixels, is_at_least}
use Rattle.comp_tree.specs.Components.{node_of, is_in_node}
use Rattle.comp_tree.specs.Laws.{IsNode, top_of}
use Rattle.comp_tree.proofs.Exported.{AlikeAbove, AlikeAlong, AreCounterparts, InPlace, IsAt, turned, above_pixels}
use Rattle.comp_tree.proofs.Exported.{along_counterpart}
use Rattle.comp_tree.proofs.Exported.{along_sym, counterpart_in_place, counterpart_test}
use Rattle.comp_tree.proofs.Exported.{below_from_defined, defined_from_at_least}
use Rattle.node_sums.specs.Sums.{sums_of}
use Rattle.node_sums.proofs.Exported.{y_small}
use Rattle.source_pick.specs.declared.choice.Choice.{Choice}
use Rattle.source_pick.specs.Sources.{is_source, sources}
use Rattle.node_sums.specs.DisjointNodes.{listed_number_at}
use Rattle.source_pick.specs.Segmentation.{segmentation_of, segmentation}
use Rattle.source_pick.specs.Catalogue.{catalogue_row, catalogue_of, catalogue}
use Rattle.source_pick.specs.Locality.{AgreeNearHigh, SourcesAreLocal}
use Rattle.source_pick.proofs.LocalityHighNodes.{top_high}
use Rattle.source_pick.proofs.CellsColumns.{all_of, unmoved}
use Rattle.source_pick.proofs.LocalityAlongSums.{along_first}
use Rattle.source_pick.proofs.LocalityAlongSources.{along_source_there}
use Rattle.source_pick.proofs.WindowsMovedRows.{StandApart, along_row}
use Rattle.source_pick.proofs.WindowsPairing.{source_from_among, among_sources, sources_rise}
use Rattle.source_pick.proofs.LocalityAlongInPlace.{in_place_alike, in_place_along}

-- ---- the definitions

-- the rows of the sources, numbered from 1
pub catalogue-is : (r : Raster) (connect : Connect) (choice : Choice)
    → catalogue r connect choice ≡ map (λ e. catalogue_row r connect e.0 e.1) (enumerate_from 1 (sources r connect choice))
unfolding catalogue catalogue_of
catalogue-is r connect choice = refl

-- the numbers of all pixels
pub segmentation-is : (r : Raster) (connect : Connect) (choice : Choice)
    → segmentation r connect choice ≡ map (listed_number_at r connect (sources r connect choice)) (pixels r)
unfolding segmentation segmentation_of
segmentation-is r connect choice = refl

-- the number of a pixel: the place of the source that has it
pub number-is : (r : Raster) (connect : Connect) (choice : Choice) (p : ℕ)
    → listed_number_at r connect (sources r connect choice) p ≡ unwrap_or (position_from (λ n. is_in_node r connect n p) 1 (sources r connect choice)) 0
unfolding listed_number_at
number-is r connect choice p = refl

-- ---- the law

module _ (r s : Raster) (connect : Connect) (choice : Choice) (plane_r : IsPlane r) (plane_s : IsPlane s)
    (agree : AgreeNearHigh r s connect choice.threshold) where
  -- counterparts in place
  abbrev Same : ℕ → ℕ → Type 0
  Same = AreCounterparts r s connect (InPlace r choice.threshold)

  above : AlikeAbove r s choice.threshold
  above = in_place_alike r s connect choice.threshold plane_r plane_s agree

  along : AlikeAlong r s connect choice.threshold (InPlace r choice.threshold)
  along = in_place_along r s connect choice.threshold plane_r plane_s agree

  back_along : AlikeAlong s r connect choice.threshold (turned (InPlace r choice.threshold))
  back_along = along_sym r s connect choice.threshold (InPlace r choice.threshold) along

  -- a source of one plane has its counterpart among the sources of the other
  there : (n : ℕ) → IsAmong n (sources r connect choice) → HasPartnerIn Same n (sources s connect choice)
  there n m = record {
    it = node_of s connect (top_of r connect n);
    among = among_sources s connect choice (node_of s connect (top_of r connect n)) plane_s c.other
        (along_source_there r s connect choice (InPlace r choice.threshold) n (node_of s connect (top_of r connect n)) plane_r plane_s along c k.1);
    pair = c;
  }
    where
      k : IsNode r connect n × IsTrue (is_source r connect choice n)
      k = source_from_among r connect choice n plane_r m

      c : Same n (node_of s connect (top_of r connect n))
      c = along_counterpart r s connect choice.threshold (InPlace r choice.threshold) along.above n (top_of r connect n) k.0
          (refl, top_high r connect choice n plane_r k.0 k.1)

  -- and the other way round
  back : (m : ℕ) → IsAmong m (sources s connect choice) → HasPartnerIn (turned Same) m (sources r connect choice)
  back m i = record {
    it = node_of r connect (top_of s connect m);
    among = among_sources r connect choice (node_of r connect (top_of s connect m)) plane_r c.other
        (along_source_there s r connect choice (turned (InPlace r choice.threshold)) m (node_of r connect (top_of s connect m)) plane_s plane_r back_along c
        k.1);
    pair = record { one = c.other; other = c.one; top = c.top };
  }
    where
      k : IsNode s connect m × IsTrue (is_source s connect choice m)
      k = source_from_among s connect choice m plane_s i

      high_there : IsTrue (is_at_least s choice.threshold (top_of s connect m))
      high_there = top_high s connect choice m plane_s k.0 k.1

      high : IsTrue (is_at_least r choice.threshold (top_of s connect m))
      high = subst (λ (v : Option ℤ). at_least choice.threshold v ≡ true) (sym (above.other (top_of s connect m) high_there)) high_there

      c : AreCounterparts s r connect (turned (InPlace r choice.threshold)) m (node_of r connect (top_of s connect m))
      c = along_counterpart s r connect choice.threshold (turned (InPlace r choice.threshold)) back_along.above m (top_of s connect m) k.0 (refl, high)

  -- counterparts have one least pixel
  first_same : (n m : ℕ) → Same n m → (sums_of r connect n).first ≡ (sums_of s connect m).first
  first_same n m c = (along_first r s connect choice.threshold (InPlace r choice.threshold) along n m plane_r plane_s c).0

  order : (n m a b : ℕ) → Same n m → Same a b
      → ((sums_of r connect n).first < (sums_of r connect a).first) ↔ ((sums_of s connect m).first < (sums_of s connect b).first)
  order n m a b c d =
      let e : (sums_of r connect n).first ≡ (sums_of s connect m).first = first_same n m c in
      let f : (sums_of r connect a).first ≡ (sums_of s connect b).first = first_same a b d in
      ((λ l. omega (arith, e, f, l)), (λ l. omega (arith, e, f, l)))

  -- so the sources are paired, one after the other
  both : ArePaired Same (sources r connect choice) (sources s connect choice)
  both = paired_from_rising Same (λ n. (sums_of r connect n).first) (λ m. (sums_of s connect m).first) (sources r connect choice) (sources s connect choice)
      order
      (sources_rise r connect choice plane_r) (sources_rise s connect choice plane_s) there back

  -- each pixel has one number
  number_same : (p : ℕ) → listed_number_at r connect (sources r connect choice) p ≡ listed_number_at s connect (sources s connect choice) p
  number_same p =
      number-is r connect choice p
      ∙ ap (λ (o : Option ℕ). unwrap_or o 0)
      (paired_position Same (λ n. is_in_node r connect n p) (λ m. is_in_node s connect m p) 1 (sources r connect choice) (sources s connect choice)
      (λ n m c i. counterpart_test r s connect choice.threshold n m above (counterpart_in_place r s connect choice.threshold n m c) i p) both)
      ∙ sym (number-is s connect choice p)

  numbers_same : segmentation r connect choice ≡ segmentation s connect choice
  numbers_same =
      segmentation-is r connect choice
      ∙ ap (λ (f : ℕ → ℕ). map f (pixels r)) (λ i p. number_same p i)
      ∙ ap (map (listed_number_at s connect (sources s connect choice))) (above_pixels r s choice.threshold above)
      ∙ sym (segmentation-is s connect choice)

  -- partners stand at one place
  apart : StandApart r s (all_of s) (InPlace r choice.threshold)
  apart = record {
    place = place;
    few_rows = λ p q c. y_small r p plane_r (below_from_defined r p (defined_from_at_least r choice.threshold p c.1));
  }
    where
      place : (p q : ℕ) → InPlace r choice.threshold p q → IsAt r.shape.width s.shape.width 0 0 p q
      place p q c = subst (λ (x : ℕ). IsAt r.shape.width s.shape.width 0 0 p x) c.0
          (subst (λ (w : ℕ). IsAt r.shape.width w 0 0 p p) above.width (record { column = omega arith; row = omega arith }))

  -- they have one row
  row_same : (number n m : ℕ) → Same n m → catalogue_row r connect number n ≡ catalogue_row s connect number m
  row_same number n m c =
      along_row r s (all_of s) connect choice.threshold (InPlace r choice.threshold) along apart n m plane_r plane_s c number
      ∙ unmoved s (catalogue_row s connect number m)

  rows_same : catalogue r connect choice ≡ catalogue s connect choice
  rows_same =
      catalogue-is r connect choice
      ∙ paired_enumerated Same (catalogue_row r connect) (catalogue_row s connect) 1 (sources r connect choice) (sources s connect choice) row_same both
      ∙ sym (catalogue-is s connect choice)

pub sources_are_local : SourcesAreLocal
sources_are_local r s connect choice plane_r plane_s agree = record {
  least = paired_map (AreCounterparts r s connect (InPlace r choice.threshold)) (λ n. (sums_of r connect n).first) (λ m. (sums_of s connect m).first)
      (sources r connect choice) (sources s connect choice) (first_same r s connect choice plane_r plane_s agree)
      (both r s connect choice plane_r plane_s agree);
  representatives = paired_map (AreCounterparts r s connect (InPlace r choice.threshold)) (top_of r connect) (top_of s connect)
      (sources r connect choice) (sources s connect choice) (λ n m c. c.top.0) (both r s connect choice plane_r plane_s agree);
  numbers = numbers_same r s connect choice plane_r plane_s agree;
  rows = rows_same r s connect choice plane_r plane_s agree;
}
