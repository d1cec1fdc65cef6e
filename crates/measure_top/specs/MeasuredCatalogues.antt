-- Model: what is written of the sources of one plane that are measured in another, the values: a primary HDU without data, their segmentation map,
-- and their catalogue with the columns of the measures.
use Rattle.std.specs.Prelude.{ℕ, List, ◌++◌, ℤ}
use Rattle.std.specs.List.{flat_map, enumerate_from}
use Rattle.comp_tree.specs.declared.shape.Shape.{Shape}
use Rattle.comp_tree.specs.declared.shape.Connect.{Connect}
use Rattle.comp_tree.specs.Raster.{Raster}
use Rattle.mesh_background.specs.Residuals.{residual_of}
use Rattle.fits_write.specs.CatalogueColumns.{measured_columns}
use Rattle.fits_write.specs.Hdus.{empty_primary, map_hdu, table_hdu}
use Rattle.source_pick.specs.declared.choice.Choice.{Choice}
use Rattle.source_pick.specs.Sources.{sources}
use Rattle.source_pick.specs.Segmentation.{segmentation}
use Rattle.source_pick.specs.Catalogue.{catalogue_row}
use Rattle.dual_measure.specs.Measures.{measure_of, back_of}
use Rattle.dual_measure.specs.Columns.{measured_cells_of}
use Rattle.orders.specs.declared.words.Order.{Order}

-- the HDUs one behind the other
abbrev pub measured_hdus : Shape → List ℕ → List ℤ → List ℕ
measured_hdus shape numbers cells = empty_primary ++ (map_hdu shape numbers ++ table_hdu measured_columns cells)

-- the numbers of node n of the plane's tree, as source with this number
unfoldable pub row_with_measure : (plane values : Raster) → Connect → ℕ → ℕ → List ℤ
row_with_measure plane values connect number n =
    measured_cells_of (catalogue_row plane connect number n) (measure_of values plane connect n) (back_of values plane connect n)

-- the numbers of some nodes, which are numbered from 1, row by row
unfoldable pub rows_with_measures : (plane values : Raster) → Connect → List ℕ → List ℤ
rows_with_measures plane values connect picked = flat_map (λ e. row_with_measure plane values connect e.0 e.1) (enumerate_from 1 picked)

-- what is written of the sources of a plane
unfoldable pub measured_sources : (plane values : Raster) → Connect → Choice → List ℕ
measured_sources plane values connect choice =
    measured_hdus plane.shape (segmentation plane connect choice) (rows_with_measures plane values connect (sources plane connect choice))

-- what an order writes of two images: of their residuals, both under its mesh, flat or smooth
unfoldable pub measured_output : Order → Choice → (image values : Raster) → List ℕ
measured_output order choice image values =
    measured_sources (residual_of image order.mesh order.flat) (residual_of values order.mesh order.flat) order.connect choice
