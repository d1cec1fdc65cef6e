-- A part that stands in a plane: its own pixels and their places are pairs along which both are alike, so their sources are the same but for the places.
use Rattle.std.proofs.Common.{◌≡◌, ℕ, ◌<◌, Bool, true, length, refl, sym, ◌∙◌, subst}
use Rattle.std.specs.Prelude.{IsTrue, ℤ, Option, is_some}
use Rattle.lemmas.proofs.Exported.{same_bool}
use Rattle.comp_tree.specs.declared.shape.Connect.{Connect}
use Rattle.comp_tree.specs.declared.shape.Shape.{Shape}
use Rattle.comp_tree.specs.Raster.{Raster, IsPlane, value_at, at_least, is_defined, is_at_least, level}
use Rattle.comp_tree.specs.Grid.{are_neighbours, IsAdjacency}
use Rattle.comp_tree.specs.Components.{node_of, is_in_node}
use Rattle.comp_tree.specs.Laws.{IsNode, top_of}
use Rattle.comp_tree.specs.Windows.{Window, in_whole, IsShown}
use Rattle.comp_tree.proofs.Exported.{AlikeAlong, AreCounterparts, HasLikeBeside, HasPartnerBeside, IsReachedThere, IsAt, along_counterpart, along_sym}
use Rattle.comp_tree.proofs.Exported.{at_neighbours, counterparts_in_node, counterparts_sym, in_whole-at, in_whole-one, at_order, some_columns, turned}
use Rattle.comp_tree.proofs.Exported.{below_from_defined, defined_from_at_least, adjacent_ends, adjacent_from}
use Rattle.node_sums.proofs.Exported.{y_small}
use Rattle.source_pick.specs.declared.choice.Choice.{Choice}
use Rattle.source_pick.specs.Sources.{is_source}
use Rattle.source_pick.specs.Windows.{IsMovedNode}
use Rattle.source_pick.specs.Sheets.{StandsIn, IsHeld}
use Rattle.source_pick.proofs.LocalityAlongSums.{along_first, reached_in_node}
use Rattle.source_pick.proofs.LocalityAlongSources.{along_source_there}
use Rattle.source_pick.proofs.WindowsMovedRows.{StandApart, along_row}

-- own pixel q of the part stands at p
pub record ArePartPair (r : Raster) (w : Window) (own : ℕ → Bool) (p q : ℕ) : Type 0 where
  pub place : in_whole r.shape.width w q ≡ p
  pub is_own : IsTrue (own q)

module _ (r m : Raster) (w : Window) (connect : Connect) (h : ℤ) (own : ℕ → Bool) (plane_r : IsPlane r) (plane_m : IsPlane m)
    (stands : StandsIn r m w connect h own) where
  -- each pixel of the part stands at its place
  part_at : (q : ℕ) → IsAt r.shape.width m.shape.width w.left w.top (in_whole r.shape.width w q) q
  part_at q =
      subst (λ (x : Shape). IsAt r.shape.width x.width w.left w.top (in_whole r.shape.width w q) q) (sym stands.shape_is)
      (in_whole-at r.shape w q stands.inside)

  place_of : (p q : ℕ) → ArePartPair r w own p q → IsAt r.shape.width m.shape.width w.left w.top p q
  place_of p q c = subst (λ (x : ℕ). IsAt r.shape.width m.shape.width w.left w.top x q) c.place (part_at q)

  same_of : (p q : ℕ) → ArePartPair r w own p q → value_at r.values p ≡ value_at m.values q
  same_of p q c = subst (λ (x : ℕ). value_at r.values x ≡ value_at m.values q) c.place (stands.same q c.is_own)

  high_of : (p q : ℕ) → ArePartPair r w own p q → IsTrue (is_at_least r h p)
  high_of p q c = subst (λ (v : Option ℤ). at_least h v ≡ true) (sym (same_of p q c)) (stands.high q c.is_own)

  -- what is adjacent in the plane is adjacent in the part
  step_there : (p q a : ℕ) → ArePartPair r w own p q → IsAdjacency r.values r.shape.width connect p a
      → (g : IsShown r m w a) × IsAdjacency m.values m.shape.width connect q g.it
  step_there p q a c e = (
    g,
    adjacent_from m.values m.shape.width connect q g.it (subst (λ (v : Option ℤ). is_some v ≡ true) (same_of p q c) ends.0)
        (subst (λ (v : Option ℤ). is_some v ≡ true) g.same ends.1)
        (sym (at_neighbours connect r.shape.width m.shape.width w.left w.top p q a g.it (place_of p q c) at_g) ∙ ends.2),
  )
    where
      ends : IsTrue (is_defined r p) × IsTrue (is_defined r a) × IsTrue (are_neighbours connect r.shape.width p a)
      ends = adjacent_ends r.values r.shape.width connect p a e

      g : IsShown r m w a
      g = stands.there q a c.is_own (subst (λ (x : ℕ). IsAdjacency r.values r.shape.width connect x a) (sym c.place) e)

      at_g : IsAt r.shape.width m.shape.width w.left w.top a g.it
      at_g = subst (λ (x : ℕ). IsAt r.shape.width m.shape.width w.left w.top x g.it) g.place (part_at g.it)

  -- and the other way round
  step_back : (p q b : ℕ) → ArePartPair r w own p q → IsAdjacency m.values m.shape.width connect q b
      → IsAdjacency r.values r.shape.width connect p (in_whole r.shape.width w b)
  step_back p q b c e =
      adjacent_from r.values r.shape.width connect p (in_whole r.shape.width w b)
      (subst (λ (v : Option ℤ). is_some v ≡ true) (sym (same_of p q c)) ends.0)
      (subst (λ (v : Option ℤ). is_some v ≡ true) (sym (stands.back q b c.is_own e)) ends.1)
      (at_neighbours connect r.shape.width m.shape.width w.left w.top p q (in_whole r.shape.width w b) b (place_of p q c) (part_at b) ∙ ends.2)
    where
      ends : IsTrue (is_defined m q) × IsTrue (is_defined m b) × IsTrue (are_neighbours connect m.shape.width q b)
      ends = adjacent_ends m.values m.shape.width connect q b e

  pairs_there : (p q a : ℕ) → ArePartPair r w own p q → IsAdjacency r.values r.shape.width connect p a → IsTrue (is_at_least r h a)
      → HasPartnerBeside m connect (ArePartPair r w own) a q
  pairs_there p q a c e k =
      let g : (g : IsShown r m w a) × IsAdjacency m.values m.shape.width connect q g.it = step_there p q a c e in
      record {
        it = g.0.it;
        adjacent = g.1;
        pair = record {
          place = g.0.place;
          is_own = stands.closed q g.0.it c.is_own g.1 (subst (λ (v : Option ℤ). at_least h v ≡ true) g.0.same k);
        };
      }

  pairs_back : (p q b : ℕ) → ArePartPair r w own p q → IsAdjacency m.values m.shape.width connect q b → IsTrue (is_at_least m h b)
      → HasPartnerBeside r connect (turned (ArePartPair r w own)) b p
  pairs_back p q b c e k = record {
    it = in_whole r.shape.width w b;
    adjacent = step_back p q b c e;
    pair = record { place = refl; is_own = stands.closed q b c.is_own e k };
  }

  likes_there : (p q a : ℕ) → ArePartPair r w own p q → IsAdjacency r.values r.shape.width connect p a → HasLikeBeside r m connect a q
  likes_there p q a c e =
      let g : (g : IsShown r m w a) × IsAdjacency m.values m.shape.width connect q g.it = step_there p q a c e in
      record { it = g.0.it; adjacent = g.1; same = g.0.same }

  likes_back : (p q b : ℕ) → ArePartPair r w own p q → IsAdjacency m.values m.shape.width connect q b → HasLikeBeside m r connect b p
  likes_back p q b c e = record {
    it = in_whole r.shape.width w b;
    adjacent = step_back p q b c e;
    same = sym (stands.back q b c.is_own e);
  }

  -- so the plane and the part are alike along these pairs
  pub part_along : AlikeAlong r m connect h (ArePartPair r w own)
  part_along = record {
    above = record {
      high = high_of;
      same = same_of;
      order = λ p q a b c d.
          at_order r.shape.width m.shape.width w.left w.top p q a b (some_columns r.shape) (some_columns m.shape) (place_of p q c) (place_of a b d);
      there = pairs_there;
      back = pairs_back;
    };
    there = likes_there;
    back = likes_back;
  }

  part_apart : StandApart r m w (ArePartPair r w own)
  part_apart = record {
    place = place_of;
    few_rows = λ p q c. y_small r p plane_r (below_from_defined r p (defined_from_at_least r h p (high_of p q c)));
  }

  -- a counterpart is the node, moved
  pub part_moved : (n j : ℕ) → AreCounterparts r m connect (ArePartPair r w own) n j → IsMovedNode r m w connect n j
  part_moved n j c = record {
    pixels = same;
    first = sym (along_first r m connect h (ArePartPair r w own) part_along n j plane_r plane_m c).place;
    row = along_row r m w connect h (ArePartPair r w own) part_along part_apart n j plane_r plane_m c;
  }
    where
      same : (q : ℕ) → q < length m.values → is_in_node r connect n (in_whole r.shape.width w q) ≡ is_in_node m connect j q
      same q l = same_bool (is_in_node r connect n (in_whole r.shape.width w q)) (is_in_node m connect j q) there back
        where
          there : is_in_node r connect n (in_whole r.shape.width w q) ≡ true → is_in_node m connect j q ≡ true
          there k =
              let t : IsReachedThere m connect (level r (top_of r connect n)) (ArePartPair r w own) (top_of m connect j) (in_whole r.shape.width w q) =
              reached_in_node r m connect h (ArePartPair r w own) part_along n j (in_whole r.shape.width w q) c k in
              subst (λ (x : ℕ). is_in_node m connect j x ≡ true) (in_whole-one r.shape w t.it q stands.inside t.pair.place)
              (sym (counterparts_in_node r m connect h (ArePartPair r w own) part_along.above n j (in_whole r.shape.width w q) t.it c t.pair) ∙ k)

          back : is_in_node m connect j q ≡ true → is_in_node r connect n (in_whole r.shape.width w q) ≡ true
          back k =
              let t : IsReachedThere r connect (level m (top_of m connect j)) (turned (ArePartPair r w own)) (top_of r connect n) q =
              reached_in_node m r connect h (turned (ArePartPair r w own)) (along_sym r m connect h (ArePartPair r w own) part_along) j n q
              (counterparts_sym r m connect h (ArePartPair r w own) part_along.above n j c) k in
              subst (λ (x : ℕ). is_in_node r connect n x ≡ true) (sym t.pair.place)
              (counterparts_in_node r m connect h (ArePartPair r w own) part_along.above n j t.it q c t.pair ∙ k)

-- ---- sources

-- source n of the plane is source `it` of the part
pub record IsPartsSource (r m : Raster) (w : Window) (own : ℕ → Bool) (connect : Connect) (choice : Choice) (n j : ℕ) : Type 0 where
  pub node : IsNode r connect n
  pub source : IsTrue (is_source r connect choice n)
  pub node_in : IsNode m connect j
  pub source_in : IsTrue (is_source m connect choice j)
  pub is_own : IsTrue (own (top_of m connect j))
  pub place : in_whole r.shape.width w (top_of m connect j) ≡ top_of r connect n
  pub all_held : (p : ℕ) → is_in_node r connect n p ≡ true → IsHeld r w own p
  pub moved : IsMovedNode r m w connect n j

module _ (r m : Raster) (w : Window) (connect : Connect) (choice : Choice) (own : ℕ → Bool) (plane_r : IsPlane r) (plane_m : IsPlane m)
    (stands : StandsIn r m w connect choice.threshold own) where
  along : AlikeAlong r m connect choice.threshold (ArePartPair r w own)
  along = part_along r m w connect choice.threshold own plane_r plane_m stands

  from_counterparts : (n j : ℕ) → AreCounterparts r m connect (ArePartPair r w own) n j → IsTrue (is_source r connect choice n)
      → IsTrue (is_source m connect choice j) → IsPartsSource r m w own connect choice n j
  from_counterparts n j c k l = record {
    node = c.one;
    source = k;
    node_in = c.other;
    source_in = l;
    is_own = c.top.is_own;
    place = c.top.place;
    all_held = held;
    moved = part_moved r m w connect choice.threshold own plane_r plane_m stands n j c;
  }
    where
      held : (p : ℕ) → is_in_node r connect n p ≡ true → IsHeld r w own p
      held p i =
          let g : IsReachedThere m connect (level r (top_of r connect n)) (ArePartPair r w own) (top_of m connect j) p =
          reached_in_node r m connect choice.threshold (ArePartPair r w own) along n j p c i in
          record { it = g.it; is_own = g.pair.is_own; place = g.pair.place }

  -- a source of the plane whose pixel the part holds is one of the part
  pub source_in_part : (n : ℕ) → IsNode r connect n → IsTrue (is_source r connect choice n) → IsHeld r w own (top_of r connect n)
      → (j : ℕ) × IsPartsSource r m w own connect choice n j
  source_in_part n hn k g = (
    node_of m connect g.it,
    from_counterparts n (node_of m connect g.it) c k
        (along_source_there r m connect choice (ArePartPair r w own) n (node_of m connect g.it) plane_r plane_m along c k),
  )
    where
      c : AreCounterparts r m connect (ArePartPair r w own) n (node_of m connect g.it)
      c = along_counterpart r m connect choice.threshold (ArePartPair r w own) along.above n g.it hn (record { place = g.place; is_own = g.is_own })

  -- and a source of the part is one of the plane
  pub source_from_part : (j : ℕ) → IsNode m connect j → IsTrue (is_source m connect choice j) → IsTrue (own (top_of m connect j))
      → (n : ℕ) × IsPartsSource r m w own connect choice n j
  source_from_part j hj k o = (
    node_of r connect p,
    from_counterparts (node_of r connect p) j (record { one = d.other; other = d.one; top = d.top })
        (along_source_there m r connect choice (turned (ArePartPair r w own)) j (node_of r connect p) plane_m plane_r back d k) k,
  )
    where
      p : ℕ
      p = in_whole r.shape.width w (top_of m connect j)

      back : AlikeAlong m r connect choice.threshold (turned (ArePartPair r w own))
      back = along_sym r m connect choice.threshold (ArePartPair r w own) along

      d : AreCounterparts m r connect (turned (ArePartPair r w own)) j (node_of r connect p)
      d = along_counterpart m r connect choice.threshold (turned (ArePartPair r w own)) back.above j p hj (record { place = refl; is_own = o })
