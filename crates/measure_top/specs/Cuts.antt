-- Bookkeeping: a plane without its pixels below a level, and the nodes that are left.
use Rattle.std.specs.Prelude.{ℕ, ℤ, None, cond, map}
use Rattle.comp_tree.specs.declared.shape.Connect.{Connect}
use Rattle.comp_tree.specs.Raster.{Raster, pixels, value_at, is_at_least}
use Rattle.comp_tree.specs.Components.{node_of}

-- the plane with the pixels of at least this value alone: all others are undefined
unfoldable pub cut : Raster → ℤ → Raster
cut r h = record {
  shape = r.shape;
  values = map (λ p. cond (is_at_least r h p) (value_at r.values p) None) (pixels r);
}

-- the node of the cut plane that the same pixel represents
abbrev pub node_in_cut : Raster → Connect → ℤ → ℕ → ℕ
node_in_cut r connect h p = node_of (cut r h) connect p
