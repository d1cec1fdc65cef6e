-- What a sheet shows at a place of a copy is a part of both planes.
use Rattle.std.proofs.Common.{◌≡◌, ℕ, ◌*◌, ◌<◌, Bool, true, length, sym, ◌∙◌, ap, subst}
use Rattle.std.specs.Prelude.{IsTrue, ℤ, Option, nat_lt}
use Rattle.std.proofs.lemmas.Bool.{and_from, and_parts, lt-ltb, ltb-true}
use Rattle.comp_tree.specs.declared.shape.Connect.{Connect}
use Rattle.comp_tree.specs.declared.shape.Shape.{Shape}
use Rattle.comp_tree.specs.Raster.{Raster, IsPlane, value_at, at_least, is_at_least}
use Rattle.comp_tree.specs.Grid.{are_neighbours, IsAdjacency}
use Rattle.comp_tree.specs.Windows.{in_whole, seen_through, IsShown}
use Rattle.comp_tree.proofs.Exported.{IsAt, at_neighbours, in_whole-at, seen-length, seen-shape, seen-value, below_from_defined, adjacent_ends}
use Rattle.source_pick.specs.Sheets.{WindowPair, window_size, is_high_there, IsCopied, StandsIn, CopiesAreParts}

module _ (r s : Raster) (connect : Connect) (h : ℤ) (c : WindowPair) (plane_s : IsPlane s) (copied : IsCopied r s connect h c) where
  abbrev m : Raster
  m = seen_through c.to s

  abbrev own : ℕ → Bool
  own = is_high_there s h c.to

  few : (q : ℕ) → IsTrue (own q) → q < window_size c.to
  unfolding is_high_there
  few q k = ltb-true q (window_size c.to) (and_parts (nat_lt q (window_size c.to)) (is_at_least s h (in_whole s.shape.width c.to q)) k).0

  high_there : (q : ℕ) → IsTrue (own q) → IsTrue (is_at_least s h (in_whole s.shape.width c.to q))
  unfolding is_high_there
  high_there q k = (and_parts (nat_lt q (window_size c.to)) (is_at_least s h (in_whole s.shape.width c.to q)) k).1

  own_from : (q : ℕ) → q < window_size c.to → IsTrue (is_at_least s h (in_whole s.shape.width c.to q)) → IsTrue (own q)
  unfolding is_high_there
  own_from q l k = and_from (nat_lt q (window_size c.to)) (is_at_least s h (in_whole s.shape.width c.to q)) (lt-ltb q (window_size c.to) l) k

  length_m : length m.values ≡ window_size c.to
  length_m = seen-length c.to s

  value_m : (q : ℕ) → q < window_size c.to → value_at m.values q ≡ value_at s.values (in_whole s.shape.width c.to q)
  value_m q l = seen-value c.to s q l

  below : (q : ℕ) → IsTrue (own q) → q < length m.values
  below q k = subst (λ (x : ℕ). q < x) (sym length_m) (few q k)

  high : (q : ℕ) → IsTrue (own q) → IsTrue (is_at_least m h q)
  high q k = subst (λ (v : Option ℤ). at_least h v ≡ true) (sym (value_m q (few q k))) (high_there q k)

  -- an adjacent pixel of the part is one of the window's
  few_adjacent : (q b : ℕ) → IsAdjacency m.values m.shape.width connect q b → b < window_size c.to
  few_adjacent q b e =
      subst (λ (x : ℕ). b < x) length_m (below_from_defined m b (adjacent_ends m.values m.shape.width connect q b e).1)

  linked : (q b : ℕ) → IsAdjacency m.values m.shape.width connect q b → IsTrue (are_neighbours connect c.to.shape.width q b)
  linked q b e =
      subst (λ (x : Shape). IsTrue (are_neighbours connect x.width q b)) (seen-shape c.to s)
      (adjacent_ends m.values m.shape.width connect q b e).2

  closed : (q b : ℕ) → IsTrue (own q) → IsAdjacency m.values m.shape.width connect q b → IsTrue (is_at_least m h b) → IsTrue (own b)
  closed q b k e i =
      own_from b (few_adjacent q b e) (subst (λ (v : Option ℤ). at_least h v ≡ true) (value_m b (few_adjacent q b e)) i)

  in_sheet : StandsIn s m c.to connect h own
  in_sheet = record {
    shape_is = seen-shape c.to s;
    inside = copied.inside_sheet;
    below = below;
    high = high;
    same = λ q k. sym (value_m q (few q k));
    there = there;
    back = λ q b k e. sym (value_m b (few_adjacent q b e));
    closed = closed;
  }
    where
      there : (q a : ℕ) → IsTrue (own q) → IsAdjacency s.values s.shape.width connect (in_whole s.shape.width c.to q) a → IsShown s m c.to a
      there q a k e =
          let g : (b : ℕ) × (b < window_size c.to) × (in_whole s.shape.width c.to b ≡ a) = copied.beyond_sheet q a k e in
          record {
            it = g.0;
            below = subst (λ (x : ℕ). g.0 < x) (sym length_m) g.1;
            place = g.2;
            same = ap (value_at s.values) (sym g.2) ∙ sym (value_m g.0 g.1);
          }

  in_plane : StandsIn r m c.from connect h own
  in_plane = record {
    shape_is = seen-shape c.to s ∙ sym copied.same_shape;
    inside = copied.inside;
    below = below;
    high = high;
    same = λ q k. copied.same q k ∙ sym (value_m q (few q k));
    there = there;
    back = λ q b k e. copied.beside q b k (few_adjacent q b e) (linked q b e) ∙ sym (value_m b (few_adjacent q b e));
    closed = closed;
  }
    where
      at : (q : ℕ) → IsAt r.shape.width c.to.shape.width c.from.left c.from.top (in_whole r.shape.width c.from q) q
      at q =
          subst (λ (x : Shape). IsAt r.shape.width x.width c.from.left c.from.top (in_whole r.shape.width c.from q) q) copied.same_shape
          (in_whole-at r.shape c.from q copied.inside)

      there : (q a : ℕ) → IsTrue (own q) → IsAdjacency r.values r.shape.width connect (in_whole r.shape.width c.from q) a → IsShown r m c.from a
      there q a k e =
          let g : (b : ℕ) × (b < window_size c.to) × (in_whole r.shape.width c.from b ≡ a) = copied.beyond q a k e in
          let n : IsTrue (are_neighbours connect r.shape.width (in_whole r.shape.width c.from q) (in_whole r.shape.width c.from g.0)) =
          subst (λ (x : ℕ). IsTrue (are_neighbours connect r.shape.width (in_whole r.shape.width c.from q) x)) (sym g.2)
          (adjacent_ends r.values r.shape.width connect (in_whole r.shape.width c.from q) a e).2 in
          let l : IsTrue (are_neighbours connect c.to.shape.width q g.0) =
          sym (at_neighbours connect r.shape.width c.to.shape.width c.from.left c.from.top (in_whole r.shape.width c.from q) q
          (in_whole r.shape.width c.from g.0) g.0 (at q) (at g.0)) ∙ n in
          record {
            it = g.0;
            below = subst (λ (x : ℕ). g.0 < x) (sym length_m) g.1;
            place = g.2;
            same = ap (value_at r.values) (sym g.2) ∙ copied.beside q g.0 k g.1 l ∙ sym (value_m g.0 g.1);
          }

pub copies_are_parts : CopiesAreParts
copies_are_parts r s connect h c plane_s copied = record {
  one_each = seen-length c.to s ∙ sym (ap (λ (x : Shape). x.width * x.height) (seen-shape c.to s));
  in_plane = in_plane r s connect h c plane_s copied;
  in_sheet = in_sheet r s connect h c plane_s copied;
}
