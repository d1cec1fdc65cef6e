-- Model: what a job makes of a plane, and the bytes that are written of it.
use Rattle.std.specs.Prelude.{ℕ, List, []}
use Rattle.comp_tree.specs.declared.shape.Connect.{Connect}
use Rattle.comp_tree.specs.Raster.{Raster}
use Rattle.filter_rules.specs.Filtered.{filtered}
use Rattle.fits_write.specs.Hdus.{plane_hdu}
use Rattle.mesh_background.specs.Residuals.{residual_of}
use Rattle.orders.specs.declared.words.Order.{Order}
use Rattle.orders.specs.declared.words.Job.{Job}
use Rattle.orders.specs.declared.words.Job.TheVariants.{Tree, Filter, Detect, Trial, Measure}
use Rattle.tree_products.specs.Lines.{node_list}
use Rattle.tree_products.specs.Catalogues.{detected_hdus}
use Rattle.tree_products.specs.Trials.{summary_of, trial_line}

-- what a job writes of a plane; one that measures needs two, and writes nothing of one
abbrev pub output_of_job : Job → Connect → Raster → List ℕ
output_of_job Tree connect plane = node_list plane connect
output_of_job (Filter rule criterion) connect plane = plane_hdu (filtered plane connect rule criterion)
output_of_job (Detect choice) connect plane = detected_hdus plane connect choice
output_of_job (Trial seed shape) connect plane = trial_line (summary_of plane connect)
output_of_job (Measure choice values) connect plane = []

-- what an order writes of an image: its job works on the residual under the order's mesh, flat or smooth
unfoldable pub output_of : Order → Raster → List ℕ
output_of order image = output_of_job order.job order.connect (residual_of image order.mesh order.flat)
