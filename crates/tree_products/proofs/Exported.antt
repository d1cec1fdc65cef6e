-- The lemmas of this crate that crates above use. Its other modules of lemmas are its own.

-- nodes that were picked are few
pub use Rattle.tree_products.proofs.Cells.{few_picked}
-- the first rows of a catalogue, one row after the other
pub use Rattle.tree_products.proofs.Cells.{row_more, rows_all}
-- a primary HDU, a map and a table were put one behind the other, or the map was cut short; planes with the same sources are written alike
pub use Rattle.tree_products.proofs.Detections.{all_put, map_cut, detection_same}
-- the last of several calls of a sink answers for all of them
pub use Rattle.tree_products.proofs.Causes.{cause_after, cause_after_two}
-- a trial's image has values from 0 to 255; what holds of 0 and of a pixel's value holds of its level
pub use Rattle.tree_products.proofs.Trials.{IsByte, trial_bytes, trial_is_storable, small_in_half, get_from_read, level-from}
-- what is made of a plane is what its order writes; the image of a trial less its background suits the trial
pub use Rattle.tree_products.proofs.Products.{made_of_image, suits_made}
