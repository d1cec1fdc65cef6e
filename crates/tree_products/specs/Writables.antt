-- Model: what stands ready to be written.
use Rattle.std.specs.Prelude.{◌≡◌, ℕ, List, length}
use Rattle.comp_tree.specs.Raster.{Raster}
use Rattle.fits_write.specs.Hdus.{plane_hdu}
use Rattle.orders.specs.declared.words.Job.{Job}
use Rattle.orders.specs.declared.words.Job.TheVariants.{Tree, Filter, Detect, Trial, Measure}
use Rattle.tree_products.specs.declared.product.Product.{Product}
use Rattle.tree_products.specs.declared.product.Product.TheVariants as made
use Rattle.tree_products.specs.Lines.{tree_lines}
use Rattle.tree_products.specs.Catalogues.{hdus, IsDetection}
use Rattle.tree_products.specs.Trials.{trial_line}
use Rattle.tree_products.specs.SmallValues.{HasSmallValues}

-- the values of a trial's plane are small and few, so that its fluxes can be added up; no plane by itself suits a job that measures
abbrev pub SuitsJob : Job → Raster → Type 0
SuitsJob Tree plane = Unit {0}
SuitsJob (Filter rule criterion) plane = Unit {0}
SuitsJob (Detect choice) plane = Unit {0}
SuitsJob (Trial seed shape) plane = HasSmallValues plane.values
SuitsJob (Measure choice values) plane = ⊥

-- the bytes that are written of it
abbrev pub bytes_of : Product → List ℕ
bytes_of (made.Nodes nodes) = tree_lines nodes.tree.rows nodes.areas.items
bytes_of (made.Image plane) = plane_hdu plane
bytes_of (made.Sources found) = hdus found.shape found.map.items found.cells.items
bytes_of (made.Told summary) = trial_line summary

-- it can be written
abbrev pub IsWritable : Product → Type 0
IsWritable (made.Nodes nodes) = length nodes.areas.items ≡ length nodes.tree.rows
IsWritable (made.Image plane) = Unit {0}
IsWritable (made.Sources found) = IsDetection found.shape found.map.items found.cells.items
IsWritable (made.Told summary) = Unit {0}
