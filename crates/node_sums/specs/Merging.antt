-- Bookkeeping: sums over two sets of pixels that share none, made from the sums over each, and what the two passes have added so far.
use Rattle.std.specs.Prelude.{◌≡◌, ℕ, ◌+◌, ◌*◌, ◌/◌, ◌%◌, ◌<◌, min, max, zero, suc, Bool, ◌&&◌, ◌==◌}
use Rattle.std.specs.Prelude.{ℤ, pos, ◌+ℤ◌, ◌*ℤ◌, List, length, map, filter, slice_get, Some, slice_index}
use Rattle.std.specs.Int.{int_max}
use Rattle.std.specs.List.{range_with_len}
use Rattle.comp_tree.specs.declared.shape.Connect.{Connect}
use Rattle.comp_tree.specs.Raster.{Raster, is_defined, level, pixels}
use Rattle.comp_tree.specs.ComponentTree.{ComponentTree, no_node}
use Rattle.comp_tree.specs.Components.{tree_of}
use Rattle.node_sums.specs.declared.entry.Sums.{Sums}
use Rattle.node_sums.specs.Sums.{sums_over}
use Rattle.node_sums.specs.Sizes.{IsUpTo}
use Rattle.comp_tree.specs.Limits.{value_bound}
use Rattle.node_sums.specs.Counted.{is_counted}

-- the sums over pixel p, in column x and row y, both from 1, which has this value
abbrev pub sums_at_place : ℕ → ℕ → ℕ → ℤ → Sums
sums_at_place x y p value = record {
  area = 1;
  r = value;
  x = x;
  y = y;
  xx = x * x;
  xy = x * y;
  yy = y * y;
  rx = value *ℤ pos x;
  ry = value *ℤ pos y;
  xmin = x;
  xmax = x;
  ymin = y;
  ymax = y;
  first = p;
  peak = value;
}

-- the sums over pixel p of a plane of this width
abbrev pub sums_of_pixel : ℕ → ℕ → ℤ → Sums
sums_of_pixel width p value = sums_at_place (p % width + 1) (p / width + 1) p value

-- the sums over two sets of pixels that share none, from those over each
abbrev pub together : Sums → Sums → Sums
together a b = record {
  area = a.area + b.area;
  r = a.r +ℤ b.r;
  x = a.x + b.x;
  y = a.y + b.y;
  xx = a.xx + b.xx;
  xy = a.xy + b.xy;
  yy = a.yy + b.yy;
  rx = a.rx +ℤ b.rx;
  ry = a.ry +ℤ b.ry;
  xmin = min a.xmin b.xmin;
  xmax = max a.xmax b.xmax;
  ymin = min a.ymin b.ymin;
  ymax = max a.ymax b.ymax;
  first = min a.first b.first;
  peak = int_max a.peak b.peak;
}

-- each entry has those pixels, for each connectivity for which the tree is the plane's
pub record AreCounted (r : Raster) (tree : ComponentTree) (k : ℕ) (sums : List Sums) : Type 0 where
  pub one_each : length sums ≡ length tree.rows
  pub counted : (connect : Connect) (m : ℕ) (s : Sums) → tree ≡ tree_of r connect → slice_get sums m ≡ Some s
      → s ≡ sums_over r (filter (is_counted r connect k m) (pixels r))

-- pixel q is defined, and its smallest node is m
abbrev pub is_own : Raster → List ℕ → ℕ → ℕ → Bool
is_own r node_of m q = is_defined r q && (slice_index node_of q == m)

-- each entry has the pixels of a list whose smallest node it is
pub record AreOwn (r : Raster) (node_of ps : List ℕ) (sums : List Sums) : Type 0 where
  pub own : (m : ℕ) (s : Sums) → slice_get sums m ≡ Some s → s ≡ sums_over r (filter (is_own r node_of m) ps)

-- each entry has those of the first n pixels whose smallest node it is, and the values of these pixels are small
pub record AreOwnTo (r : Raster) (node_of : List ℕ) (n : ℕ) (sums : List Sums) : Type 0 where
  pub own : AreOwn r node_of (range_with_len 0 n) sums
  pub small : (q : ℕ) → q < n → IsUpTo (value_bound (length r.values)) (level r q)

-- a place from the number that counts from 1; number 0 stands for none
abbrev pub place_from : ℕ → ℕ
place_from zero = no_node
place_from (suc place) = place

-- for each pixel the place of its smallest node, from the numbers of the nodes
abbrev pub places_of : List ℕ → List ℕ → List ℕ
places_of numbers node_of = map (λ n. place_from (slice_index numbers n)) node_of
