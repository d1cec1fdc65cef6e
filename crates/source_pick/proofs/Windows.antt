-- The law of windows, and the law of tiles.
use Rattle.std.proofs.Common.{◌≡◌, ℕ, ◌<◌, Bool, true, length, refl, sym, ◌∙◌, subst, inl}
use Rattle.std.specs.Prelude.{IsTrue, ℤ, Option, Contains}
use Rattle.lemmas.proofs.Exported.{same_bool}
use Rattle.comp_tree.specs.declared.shape.Connect.{Connect}
use Rattle.comp_tree.specs.Raster.{Raster, IsPlane, at_least, is_at_least, level}
use Rattle.comp_tree.specs.Joined.{here}
use Rattle.comp_tree.specs.Components.{IsReached, node_of, is_in_node}
use Rattle.comp_tree.specs.Laws.{top_of}
use Rattle.comp_tree.specs.Windows.{Window, in_whole, Shows, IsShown, LiesSure, LiesSureIn}
use Rattle.comp_tree.proofs.Exported.{AlikeAlong, AreCounterparts, AreSurePair, IsReachedThere, IsAt, along_counterpart, along_sym, counterparts_in_node}
use Rattle.comp_tree.proofs.Exported.{counterparts_sym, pair_at, sure_same, window_along, sure_components_are_seen, in_whole-one, window_whole_below, turned}
use Rattle.comp_tree.proofs.Exported.{below_from_defined, defined_from_at_least, joined_trans, joined_sym, reaches-is_IsReached, top-defined}
use Rattle.comp_tree.proofs.Exported as Nodes
use Rattle.node_sums.specs.Sums.{sums_of}
use Rattle.node_sums.proofs.Exported.{y_small}
use Rattle.source_pick.specs.declared.choice.Choice.{Choice}
use Rattle.source_pick.specs.Windows.{IsMovedNode, IsSureSource, IsSureSourceIn, SureSourcesAreSeen, SeenSourcesAreSure, Tile, IsTileOf, IsFromTile}
use Rattle.source_pick.specs.Windows.{EachSourceIsATiles, OwnSourcesAreTheWholes, OwnSourcesAreDistinct}
use Rattle.source_pick.proofs.OrderListing.{same_source, first_inside, first_below}
use Rattle.source_pick.proofs.LocalityHighNodes.{top_high}
use Rattle.source_pick.proofs.LocalityAlongSums.{along_first, reached_in_node}
use Rattle.source_pick.proofs.LocalityAlongSources.{along_source_there}
use Rattle.source_pick.proofs.WindowsMovedRows.{StandApart, along_row}

-- each pixel of such a node is reached from the pixel that represents it, at the threshold
pub in_node_reached : (r : Raster) (connect : Connect) (h : ℤ) (n p : ℕ) → IsTrue (is_at_least r h (top_of r connect n)) → is_in_node r connect n p ≡ true
    → IsReached r connect h (top_of r connect n) p
unfolding is_in_node
in_node_reached r connect h n p k i =
    (reaches-is_IsReached r connect h (top_of r connect n) p).0
    (Nodes.reaches_lower r connect h (level r (top_of r connect n)) (top_of r connect n) p (Nodes.level_from_at_least r h (top_of r connect n) k) i)

module _ (r s : Raster) (w : Window) (connect : Connect) (h : ℤ) (sure : ℕ → Bool) (plane_r : IsPlane r) (plane_s : IsPlane s) (shows : Shows r s w sure) where
  -- ---- the pairs of the window

  -- pairs of the window stand apart by its corner
  pair_apart : StandApart r s w (AreSurePair r s w connect h sure)
  pair_apart = record {
    place = λ p q c. subst (λ (x : ℕ). IsAt r.shape.width s.shape.width w.left w.top x q) c.place (pair_at r s w connect h sure plane_r plane_s shows q);
    few_rows = λ p q c. y_small r p plane_r (below_from_defined r p (defined_from_at_least r h p c.high));
  }

  -- so a counterpart is the node, moved
  moved_node : (n m : ℕ) → AreCounterparts r s connect (AreSurePair r s w connect h sure) n m → IsMovedNode r s w connect n m
  moved_node n m c = record {
    pixels = same;
    first = sym (along_first r s connect h (AreSurePair r s w connect h sure) along n m plane_r plane_s c).place;
    row = along_row r s w connect h (AreSurePair r s w connect h sure) along pair_apart n m plane_r plane_s c;
  }
    where
      along : AlikeAlong r s connect h (AreSurePair r s w connect h sure)
      along = window_along r s w connect h sure plane_r plane_s shows

      same : (q : ℕ) → q < length s.values → is_in_node r connect n (in_whole r.shape.width w q) ≡ is_in_node s connect m q
      same q l = same_bool (is_in_node r connect n (in_whole r.shape.width w q)) (is_in_node s connect m q) there back
        where
          there : is_in_node r connect n (in_whole r.shape.width w q) ≡ true → is_in_node s connect m q ≡ true
          there k =
              let t : IsReachedThere s connect (level r (top_of r connect n)) (AreSurePair r s w connect h sure) (top_of s connect m)
              (in_whole r.shape.width w q) =
              reached_in_node r s connect h (AreSurePair r s w connect h sure) along n m (in_whole r.shape.width w q) c k in
              subst (λ (x : ℕ). is_in_node s connect m x ≡ true) (in_whole-one r.shape w t.it q shows.inside t.pair.place)
              (sym (counterparts_in_node r s connect h (AreSurePair r s w connect h sure) along.above n m (in_whole r.shape.width w q) t.it c t.pair) ∙ k)

          back : is_in_node s connect m q ≡ true → is_in_node r connect n (in_whole r.shape.width w q) ≡ true
          back k =
              let t : IsReachedThere r connect (level s (top_of s connect m)) (turned (AreSurePair r s w connect h sure)) (top_of r connect n) q =
              reached_in_node s r connect h (turned (AreSurePair r s w connect h sure)) (along_sym r s connect h (AreSurePair r s w connect h sure) along) m n q
              (counterparts_sym r s connect h (AreSurePair r s w connect h sure) along.above n m c) k in
              subst (λ (x : ℕ). is_in_node r connect n x ≡ true) (sym t.pair.place)
              (counterparts_in_node r s connect h (AreSurePair r s w connect h sure) along.above n m t.it q c t.pair ∙ k)

-- a sure source of the whole is one of the window
pub sure_sources_are_seen : SureSourcesAreSeen
sure_sources_are_seen r s w connect choice sure n plane_r plane_s shows k =
    (node_of s connect g.it, is, moved_node r s w connect choice.threshold sure plane_r plane_s shows n (node_of s connect g.it) c)
  where
    along : AlikeAlong r s connect choice.threshold (AreSurePair r s w connect choice.threshold sure)
    along = window_along r s w connect choice.threshold sure plane_r plane_s shows

    high : IsTrue (is_at_least r choice.threshold (top_of r connect n))
    high = top_high r connect choice n plane_r k.node k.source

    below : top_of r connect n < length r.values
    below = below_from_defined r (top_of r connect n) (top-defined r connect n k.node)

    top_sure : IsTrue (sure (top_of r connect n))
    top_sure = k.lies (top_of r connect n) (here high) (top_of r connect n) below (inl refl)

    g : IsShown r s w (top_of r connect n)
    g = shows.shown (top_of r connect n) below top_sure

    c : AreCounterparts r s connect (AreSurePair r s w connect choice.threshold sure) n (node_of s connect g.it)
    c = along_counterpart r s connect choice.threshold (AreSurePair r s w connect choice.threshold sure) along.above n g.it k.node
        (record { place = g.place; below = g.below; high = high; lies = k.lies })

    place : in_whole r.shape.width w (top_of s connect (node_of s connect g.it)) ≡ top_of r connect n
    place = c.top.place

    sure_there : IsTrue (sure (in_whole r.shape.width w (top_of s connect (node_of s connect g.it))))
    sure_there = subst (λ (x : ℕ). IsTrue (sure x)) (sym place) top_sure

    is : IsSureSourceIn r s w connect choice sure (node_of s connect g.it)
    is = record {
      node = c.other;
      source = along_source_there r s connect choice (AreSurePair r s w connect choice.threshold sure) n (node_of s connect g.it) plane_r plane_s along c
          k.source;
      top_sure = sure_there;
      lies = (sure_components_are_seen r s w connect choice.threshold sure (top_of s connect (node_of s connect g.it)) plane_r plane_s shows c.top.below
          sure_there).0
          (subst (λ (x : ℕ). LiesSure r connect choice.threshold sure x) (sym place) k.lies);
    }

-- and the other way round
pub seen_sources_are_sure : SeenSourcesAreSure
seen_sources_are_sure r s w connect choice sure m plane_r plane_s shows k =
    (node_of r connect p, is, moved_node r s w connect choice.threshold sure plane_r plane_s shows (node_of r connect p) m c)
  where
    p : ℕ
    p = in_whole r.shape.width w (top_of s connect m)

    along : AlikeAlong r s connect choice.threshold (AreSurePair r s w connect choice.threshold sure)
    along = window_along r s w connect choice.threshold sure plane_r plane_s shows

    back : AlikeAlong s r connect choice.threshold (turned (AreSurePair r s w connect choice.threshold sure))
    back = along_sym r s connect choice.threshold (AreSurePair r s w connect choice.threshold sure) along

    below : top_of s connect m < length s.values
    below = below_from_defined s (top_of s connect m) (top-defined s connect m k.node)

    high : IsTrue (is_at_least r choice.threshold p)
    high = subst (λ (v : Option ℤ). at_least choice.threshold v ≡ true)
        (sym (sure_same r s w connect choice.threshold sure plane_r plane_s shows (top_of s connect m) below k.top_sure))
        (top_high s connect choice m plane_s k.node k.source)

    lies : LiesSure r connect choice.threshold sure p
    lies = (sure_components_are_seen r s w connect choice.threshold sure (top_of s connect m) plane_r plane_s shows below k.top_sure).1 k.lies

    turned_c : AreCounterparts s r connect (turned (AreSurePair r s w connect choice.threshold sure)) m (node_of r connect p)
    turned_c = along_counterpart s r connect choice.threshold (turned (AreSurePair r s w connect choice.threshold sure)) back.above m p k.node
        (record { place = refl; below = below; high = high; lies = lies })

    c : AreCounterparts r s connect (AreSurePair r s w connect choice.threshold sure) (node_of r connect p) m
    c = record { one = turned_c.other; other = turned_c.one; top = turned_c.top }

    is : IsSureSource r connect choice sure (node_of r connect p)
    is = record {
      node = c.one;
      source = along_source_there s r connect choice (turned (AreSurePair r s w connect choice.threshold sure)) m (node_of r connect p) plane_s plane_r back
          turned_c k.source;
      lies = c.top.lies;
    }

-- ---- tiles

-- what reaches a component that lies sure belongs to it
lies_from_reached : (r : Raster) (connect : Connect) (h : ℤ) (sure : ℕ → Bool) (p q : ℕ) → IsReached r connect h p q → LiesSure r connect h sure q
    → LiesSure r connect h sure p
lies_from_reached r connect h sure p q path lies a k = lies a (joined_trans (joined_sym path) k)

-- the pixel of a tile that stands for a pixel of its core
record IsInCore (r : Raster) (connect : Connect) (choice : Choice) (t : Tile) (p : ℕ) : Type 0 where
  pub it : ℕ
  pub below : it < length t.plane.values
  pub place : in_whole r.shape.width t.window it ≡ p
  pub lies : LiesSure r connect choice.threshold t.sure p

-- each pixel of a core of at least the threshold is shown, and its component lies sure
in_core : (r : Raster) (connect : Connect) (choice : Choice) (t : Tile) (p : ℕ) → IsPlane r → IsTileOf r connect choice t → p < length r.values
    → IsTrue (t.core p)
    → IsTrue (is_at_least r choice.threshold p) → IsInCore r connect choice t p
in_core r connect choice t p plane tile l k high = record {
  it = g.it;
  below = g.below;
  place = g.place;
  lies = subst (λ (x : ℕ). LiesSure r connect choice.threshold t.sure x) g.place
      ((sure_components_are_seen r t.plane t.window connect choice.threshold t.sure g.it plane tile.one_each tile.shows g.below
      (subst (λ (x : ℕ). IsTrue (t.sure x)) (sym g.place) (tile.core_sure p k))).1
      (tile.answers g.it (subst (λ (x : ℕ). IsTrue (t.core x)) (sym g.place) k) (subst (λ (v : Option ℤ). at_least choice.threshold v ≡ true) g.same high)));
}
  where
    g : IsShown r t.plane t.window p
    g = tile.shows.shown p l (tile.core_sure p k)

-- the tile is the one whose core has the least pixel
pub each_source_is_a_tiles : EachSourceIsATiles
each_source_is_a_tiles r connect choice tiles n plane tile cover hn k = (
  t,
  at.1,
  (
    m.0,
    record {
      node = hn;
      source = k;
      from = record { node = m.1.node; source = m.1.source; own = subst (λ (x : ℕ). IsTrue (t.core x)) m.2.first at.2 };
      moved = m.2;
    },
  ),
)
  where
    first : ℕ
    first = (sums_of r connect n).first

    below : first < length r.values
    below = first_below r connect n plane hn

    at : (t : Tile) × Contains tiles t × IsTrue (t.core first)
    at = cover first below

    t : Tile
    t = at.0

    is_tile : IsTileOf r connect choice t
    is_tile = tile t at.1

    high : IsTrue (is_at_least r choice.threshold (top_of r connect n))
    high = top_high r connect choice n plane hn k

    path : IsReached r connect choice.threshold (top_of r connect n) first
    path = in_node_reached r connect choice.threshold n first high (first_inside r connect n plane hn)

    here_core : IsInCore r connect choice t first
    here_core = in_core r connect choice t first plane is_tile below at.2 (Nodes.reaches_end r connect choice.threshold (top_of r connect n) first
        ((reaches-is_IsReached r connect choice.threshold (top_of r connect n) first).1 path))

    m : (m : ℕ) × IsSureSourceIn r t.plane t.window connect choice t.sure m × IsMovedNode r t.plane t.window connect n m
    m = sure_sources_are_seen r t.plane t.window connect choice t.sure n plane is_tile.one_each is_tile.shows
        (record { node = hn; source = k; lies = lies_from_reached r connect choice.threshold t.sure (top_of r connect n) first path here_core.lies })

-- an own source is a sure one
pub own_sources_are_the_wholes : OwnSourcesAreTheWholes
own_sources_are_the_wholes r connect choice t m plane tile k = (n.0, record { node = n.1.node; source = n.1.source; from = k; moved = n.2 })
  where
    first : ℕ
    first = (sums_of t.plane connect m).first

    high : IsTrue (is_at_least t.plane choice.threshold (top_of t.plane connect m))
    high = top_high t.plane connect choice m tile.one_each k.node k.source

    path : IsReached t.plane connect choice.threshold (top_of t.plane connect m) first
    path = in_node_reached t.plane connect choice.threshold m first high (first_inside t.plane connect m tile.one_each k.node)

    lies_first : LiesSureIn r t.plane t.window connect choice.threshold t.sure first
    lies_first = tile.answers first k.own (Nodes.reaches_end t.plane connect choice.threshold (top_of t.plane connect m) first
        ((reaches-is_IsReached t.plane connect choice.threshold (top_of t.plane connect m) first).1 path))

    whole_below : in_whole r.shape.width t.window (top_of t.plane connect m) < length r.values
    whole_below = window_whole_below r t.plane t.window connect choice.threshold t.sure plane tile.one_each tile.shows (top_of t.plane connect m)
        (below_from_defined t.plane (top_of t.plane connect m) (top-defined t.plane connect m k.node))

    n : (n : ℕ) × IsSureSource r connect choice t.sure n × IsMovedNode r t.plane t.window connect n m
    n = seen_sources_are_sure r t.plane t.window connect choice t.sure m plane tile.one_each tile.shows (record {
      node = k.node;
      source = k.source;
      top_sure = lies_first (top_of t.plane connect m) (joined_sym path) (in_whole r.shape.width t.window (top_of t.plane connect m)) whole_below (inl refl);
      lies = λ b x. lies_first b (joined_trans (joined_sym path) x);
    })

-- two tiles with it would share its least pixel
pub own_sources_are_distinct : OwnSourcesAreDistinct
own_sources_are_distinct r connect choice t u n m k plane tile_t tile_u apart f g = (same, one)
  where
    same : t ≡ u
    same = apart (sums_of r connect n).first (subst (λ (x : ℕ). IsTrue (t.core x)) (sym f.moved.first) f.from.own)
        (subst (λ (x : ℕ). IsTrue (u.core x)) (sym g.moved.first) g.from.own)

    h : IsFromTile r connect choice t n k
    h = subst (λ (x : Tile). IsFromTile r connect choice x n k) (sym same) g

    one : m ≡ k
    one = same_source t.plane connect choice (sums_of t.plane connect m).first m k tile_t.one_each
        (record { node = f.from.node; source = f.from.source; first = refl })
        (record {
          node = h.from.node;
          source = h.from.source;
          first =
              in_whole-one r.shape t.window (sums_of t.plane connect k).first (sums_of t.plane connect m).first tile_t.shows.inside
              (sym h.moved.first ∙ f.moved.first);
        })
