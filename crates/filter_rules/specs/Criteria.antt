-- Model: which nodes of a plane's tree satisfy a criterion: by the sums over their components, and by their flux.
use Rattle.std.specs.Prelude.{ℕ, ◌+◌, ◌-◌, ◌*◌, ℤ, Bool, ◌&&◌, nat_le, int_le}
use Rattle.comp_tree.specs.declared.shape.Connect.{Connect}
use Rattle.comp_tree.specs.Raster.{Raster}
use Rattle.node_sums.specs.declared.entry.Sums.{Sums}
use Rattle.node_sums.specs.Sums.{sums_of}
use Rattle.node_sums.specs.Flux.{flux_of}
use Rattle.filter_rules.specs.declared.rule.Criterion.{Criterion}

-- the number of grid places in the box of a node with these sums: from its least to its greatest column and row
abbrev pub box_of : Sums → ℕ
box_of s = (s.xmax - s.xmin + 1) * (s.ymax - s.ymin + 1)

-- the fill, in thousandths, is reached
abbrev pub is_filled : Criterion → Sums → Bool
is_filled criterion s = nat_le (criterion.min_fill * box_of s) (1000 * s.area)

-- a node with these sums and this flux satisfies the criterion
abbrev pub admits : Criterion → Sums → ℤ → Bool
admits criterion s flux =
    nat_le criterion.min_area s.area && nat_le s.area criterion.max_area && int_le criterion.min_flux flux && is_filled criterion s

-- node n of the plane's tree does
unfoldable pub satisfies : Raster → Connect → Criterion → ℕ → Bool
satisfies r connect criterion n = admits criterion (sums_of r connect n) (flux_of r connect n)
