-- Model: a box as the code has it.
use Rattle.comp_tree.specs.Windows.{Box}
use Rattle.tile_laws.specs.declared.extents.Extent.{Extent}

abbrev pub extent_box : Extent → Box
extent_box e = record {
  left = e.columns.from;
  right = e.columns.to;
  top = e.rows.from;
  bottom = e.rows.to;
}

-- and the other way round
abbrev pub box_extent : Box → Extent
box_extent b = record {
  columns = record { from = b.left; to = b.right };
  rows = record { from = b.top; to = b.bottom };
}
