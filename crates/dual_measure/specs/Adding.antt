-- Bookkeeping: measures while pixels and nodes are being added.
use Rattle.std.specs.Prelude.{◌≡◌, ℕ, ◌+◌, ◌-◌, ◌^◌, ◌<◌, ◌==◌, if◌then◌else◌, ℤ, pos, neg_ℤ, ◌+ℤ◌}
use Rattle.std.specs.Prelude.{List, [], ◌∷◌, length, filter, Option, Some, None, slice_get, slice_index}
use Rattle.std.specs.Int.{int_min, int_max}
use Rattle.std.specs.List.{range_with_len}
use Rattle.comp_tree.specs.declared.shape.Connect.{Connect}
use Rattle.comp_tree.specs.Limits.{IsWithin, value_bound}
use Rattle.comp_tree.specs.Raster.{Raster, IsPlane, pixels, value_at}
use Rattle.comp_tree.specs.ComponentTree.{ComponentTree}
use Rattle.comp_tree.specs.Components.{tree_of}
use Rattle.node_sums.specs.Counted.{is_counted}
use Rattle.dual_measure.specs.declared.values.Measure.{Measure}

-- before any pixel was added. Until all are, low and peak are these numbers where none is seen
abbrev pub blank_measure : Measure
blank_measure = record {
  seen = 0;
  missing = 0;
  v = pos 0;
  low = pos (2 ^ 63 - 1);
  peak = neg_ℤ (pos (2 ^ 63));
}

-- of one pixel, which has this value or is undefined
abbrev pub measure_at : Option ℤ → Measure
measure_at None = record blank_measure { missing = 1 }
measure_at (Some v) = record {
  seen = 1;
  missing = 0;
  v = v;
  low = v;
  peak = v;
}

-- over two sets of pixels that share none, from those over each
abbrev pub combined : Measure → Measure → Measure
combined a b = record {
  seen = a.seen + b.seen;
  missing = a.missing + b.missing;
  v = a.v +ℤ b.v;
  low = int_min a.low b.low;
  peak = int_max a.peak b.peak;
}

-- over some pixels
unfoldable pub measured_so_far : Raster → List ℕ → Measure
measured_so_far values [] = blank_measure
measured_so_far values (p ∷ ps) = combined (measure_at (value_at values.values p)) (measured_so_far values ps)

-- when all pixels were added: 0 for low and peak where none is seen
unfoldable pub settled_measure : Measure → Measure
settled_measure m = if m.seen == 0 then record m { low = pos 0; peak = pos 0 } else m

-- each entry has those of the first n pixels whose smallest node it is, and the values of these pixels are in the range
pub record AreOfFront (values : Raster) (node_of : List ℕ) (n : ℕ) (entries : List Measure) : Type 0 where
  pub own : (m : ℕ) (entry : Measure) → slice_get entries m ≡ Some entry
      → entry ≡ measured_so_far values (filter (λ q. slice_index node_of q == m) (range_with_len 0 n))
  pub small : (q : ℕ) (v : ℤ) → q < n → value_at values.values q ≡ Some v → IsWithin (value_bound (length values.values)) v

-- when the nodes numbered from k on have been added to their parents, the entry of node m has the pixels of m
-- that belong to no node with a number above m and below k
pub record AreDownTo (values : Raster) (tree : ComponentTree) (k : ℕ) (entries : List Measure) : Type 0 where
  pub one_each : length entries ≡ length tree.rows
  pub added : (r : Raster) (connect : Connect) (m : ℕ) (entry : Measure) → IsPlane r → tree ≡ tree_of r connect → slice_get entries m ≡ Some entry
      → entry ≡ measured_so_far values (filter (is_counted r connect k m) (pixels values))
