-- Model: what the nodes of one plane's tree are in another plane of the same shape, whose pixels are the values.
use Rattle.std.specs.Prelude.{◌≡◌, ℕ, ◌+◌, ◌*◌, ◌^◌, ◌≤◌, not, ◌&&◌, ◌==◌, if◌then◌else◌, ℤ, pos, neg_ℤ, ◌*ℤ◌, ◌≤ℤ◌}
use Rattle.std.specs.Prelude.{List, [], ◌∷◌, length, map, filter, fold}
use Rattle.std.specs.Int.{int_min, int_max}
use Rattle.comp_tree.specs.declared.shape.Connect.{Connect}
use Rattle.comp_tree.specs.Raster.{Raster, IsPlane, HasValuesInRange, pixels, is_defined, level}
use Rattle.comp_tree.specs.ComponentTree.{ComponentTree, parent_in}
use Rattle.comp_tree.specs.Components.{is_in_node, tree_of}
use Rattle.comp_tree.specs.Nesting.{node_numbers, is_root, pixels_of}
use Rattle.node_sums.specs.Sums.{total}
use Rattle.source_pick.specs.Catalogue.{floor_of}
use Rattle.dual_measure.specs.declared.values.Measure.{Measure}

-- the least and the greatest of some numbers, or 0 where there are none
abbrev pub least_or_zero : List ℤ → ℤ
least_or_zero [] = pos 0
least_or_zero (v ∷ vs) = fold int_min v vs

abbrev pub greatest_or_zero : List ℤ → ℤ
greatest_or_zero [] = pos 0
greatest_or_zero (v ∷ vs) = fold int_max v vs

-- of some pixels those that are defined in the values, and the others
abbrev pub seen_of : Raster → List ℕ → List ℕ
seen_of values ps = filter (is_defined values) ps

abbrev pub missing_of : Raster → List ℕ → List ℕ
missing_of values ps = filter (λ p. not (is_defined values p)) ps

-- the values of some pixels
unfoldable pub measure_over : Raster → List ℕ → Measure
measure_over values ps = record {
  seen = length (seen_of values ps);
  missing = length (missing_of values ps);
  v = total (level values) (seen_of values ps);
  low = least_or_zero (map (level values) (seen_of values ps));
  peak = greatest_or_zero (map (level values) (seen_of values ps));
}

-- of node n of the tree of r: the values of the pixels of its component
unfoldable pub measure_of : Raster → Raster → Connect → ℕ → Measure
measure_of values r connect n = measure_over values (pixels_of r connect n)

-- of all its nodes, in the order of their numbers
unfoldable pub measures_of : Raster → Raster → Connect → List Measure
measures_of values r connect = map (measure_of values r connect) (node_numbers r connect)

-- a sum over so many, in thousandths and rounded towards minus infinity; 0 over none
unfoldable pub floor_mean : ℤ → ℕ → ℤ
floor_mean sum count = if count == 0 then pos 0 else floor_of (pos 1000 *ℤ sum) (pos count)

abbrev pub mean_of : Measure → ℤ
mean_of measure = floor_mean measure.v measure.seen

-- the pixels that the parent of node n holds and n doesn't
unfoldable pub around_node : Raster → Connect → ℕ → List ℕ
around_node r connect n = filter (λ p. is_in_node r connect (parent_in (tree_of r connect).rows n) p && not (is_in_node r connect n p)) (pixels r)

-- the back of node n: the mean of the values around it in its parent, and 0 at a root
unfoldable pub back_of : Raster → Raster → Connect → ℕ → ℤ
back_of values r connect n = if is_root (tree_of r connect) n then pos 0 else mean_of (measure_over values (around_node r connect n))

-- ---- how large measures are, and what is asked of arguments

-- a sum of so many values of a plane, each of which is from -2 ^ 37 to 2 ^ 37: all values of a plane come to at most 2 ^ 61
pub record IsSumOf (count : ℕ) (sum : ℤ) : Type 0 where
  pub low : neg_ℤ (pos (2 ^ 37 * count)) ≤ℤ sum
  pub high : sum ≤ℤ pos (2 ^ 37 * count)
  pub least : neg_ℤ (pos (2 ^ 61)) ≤ℤ sum
  pub most : sum ≤ℤ pos (2 ^ 61)

-- how large the measure of a node is: it has at most as many pixels as a plane
pub record HasMeasureSizes (measure : Measure) : Type 0 where
  pub few : measure.seen + measure.missing ≤ 2147483647
  pub sum : IsSumOf measure.seen measure.v

-- the tree is some plane's, for some connectivity
pub record IsPlanesTree (tree : ComponentTree) : Type 0 where
  pub plane : Raster
  pub one_each : IsPlane plane
  pub connect : Connect
  pub tree_is : tree ≡ tree_of plane connect

-- the measures are the tree's: it is some plane's, and some plane of its shape has these measures as values
pub record AreTheTreesMeasures (tree : ComponentTree) (measures : List Measure) : Type 0 where
  pub plane : Raster
  pub one_each : IsPlane plane
  pub connect : Connect
  pub tree_is : tree ≡ tree_of plane connect
  pub values : Raster
  pub value_each : IsPlane values
  pub same_shape : values.shape ≡ tree.shape
  pub in_range : HasValuesInRange values.values
  pub measures_are : measures ≡ measures_of values plane connect
