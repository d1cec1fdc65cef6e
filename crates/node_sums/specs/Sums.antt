-- Model: sums over the component of a node: plain sums over its set of pixels. As in FITS, x and y count columns and rows from 1.
use Rattle.std.specs.Prelude.{◌≡◌, ℕ, ◌+◌, ◌-◌, ◌*◌, ◌/◌, ◌%◌, ◌^◌, min, max, ℤ, pos, neg_ℤ, ◌+ℤ◌, ◌*ℤ◌, List, [], ◌∷◌, length, map, sum_by}
use Rattle.std.specs.Int.{int_max}
use Rattle.comp_tree.specs.declared.shape.Connect.{Connect}
use Rattle.comp_tree.specs.Raster.{Raster, IsPlane, HasValuesInRange, level}
use Rattle.comp_tree.specs.ComponentTree.{ComponentTree}
use Rattle.comp_tree.specs.Components.{tree_of}
use Rattle.comp_tree.specs.Nesting.{node_numbers, pixels_of}
use Rattle.node_sums.specs.declared.entry.Sums.{Sums}

-- the column and the row of pixel p, from 1
abbrev pub x_of : Raster → ℕ → ℕ
x_of r p = p % r.shape.width + 1

abbrev pub y_of : Raster → ℕ → ℕ
y_of r p = p / r.shape.width + 1

-- the sum of f over some pixels
abbrev pub total : (ℕ → ℤ) → List ℕ → ℤ
total f [] = pos 0
total f (p ∷ ps) = f p +ℤ total f ps

-- the least and the greatest value of f over some pixels; over none, the greatest u32, 0, and the least i64
abbrev pub least : (ℕ → ℕ) → List ℕ → ℕ
least f [] = 2 ^ 32 - 1
least f (p ∷ ps) = min (f p) (least f ps)

abbrev pub greatest : (ℕ → ℕ) → List ℕ → ℕ
greatest f [] = 0
greatest f (p ∷ ps) = max (f p) (greatest f ps)

abbrev pub highest : (ℕ → ℤ) → List ℕ → ℤ
highest f [] = neg_ℤ (pos (2 ^ 63))
highest f (p ∷ ps) = int_max (f p) (highest f ps)

-- the sums over some pixels
unfoldable pub sums_over : Raster → List ℕ → Sums
sums_over r ps = record {
  area = length ps;
  r = total (level r) ps;
  x = sum_by (x_of r) ps;
  y = sum_by (y_of r) ps;
  xx = sum_by (λ p. x_of r p * x_of r p) ps;
  xy = sum_by (λ p. x_of r p * y_of r p) ps;
  yy = sum_by (λ p. y_of r p * y_of r p) ps;
  rx = total (λ p. level r p *ℤ pos (x_of r p)) ps;
  ry = total (λ p. level r p *ℤ pos (y_of r p)) ps;
  xmin = least (x_of r) ps;
  xmax = greatest (x_of r) ps;
  ymin = least (y_of r) ps;
  ymax = greatest (y_of r) ps;
  first = least (λ p. p) ps;
  peak = highest (level r) ps;
}

-- the sums of node n of the plane's tree
unfoldable pub sums_of : Raster → Connect → ℕ → Sums
sums_of r connect n = sums_over r (pixels_of r connect n)

-- the sums of all its nodes, in the order of their numbers
unfoldable pub sums_in : Raster → Connect → List Sums
sums_in r connect = map (sums_of r connect) (node_numbers r connect)

-- the tree is that of the plane r, for some connectivity
abbrev pub IsTreeOfPlane : Raster → ComponentTree → Type 0
IsTreeOfPlane r tree = (connect : Connect) × (tree ≡ tree_of r connect)

-- the sums are those of node n of the tree: some plane has this tree for some connectivity, and the node these sums there
pub record AreSumsOfNode (tree : ComponentTree) (n : ℕ) (sums : Sums) : Type 0 where
  pub plane : Raster
  pub connect : Connect
  pub one_each : IsPlane plane
  pub in_range : HasValuesInRange plane.values
  pub tree_is : tree ≡ tree_of plane connect
  pub sums_are : sums ≡ sums_of plane connect n

-- the sums are those of the listed nodes of the tree, one for each
pub record AreSumsOfNodes (tree : ComponentTree) (listed : List ℕ) (sums : List Sums) : Type 0 where
  pub plane : Raster
  pub connect : Connect
  pub one_each : IsPlane plane
  pub in_range : HasValuesInRange plane.values
  pub tree_is : tree ≡ tree_of plane connect
  pub sums_are : sums ≡ map (sums_of plane connect) listed
