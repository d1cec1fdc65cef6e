-- The lemmas of this crate that crates above use. Its other modules of lemmas are its own.

-- the member that the test of the counts finds is the lower median
pub use Rattle.mesh_background.proofs.Medians.{the_one}
-- a mesh has some columns; as many filtered numbers as cells; a level lies between the numbers around it
pub use Rattle.mesh_background.proofs.Extents.{columns-some}
pub use Rattle.mesh_background.proofs.Residuals.{length-smooth}
pub use Rattle.mesh_background.proofs.Levels.{stay_between}
-- the law of windows: the background and the residual of a pixel that is clear are seen, and so is which pixels are clear
pub use Rattle.mesh_background.proofs.Seeing.{background_is_seen, residual_is_seen, residual_is_shown, clear_is_told}
-- the shape of a residual, and the value of a pixel of it; it is one without a number for empty cells where this is the image's own
pub use Rattle.mesh_background.proofs.Residuals.{own_median}
pub use Rattle.mesh_background.proofs.Seeing.{residual_shape, residual_value}
-- a small number is in half of the range, and so are the values of a plane of such
pub use Rattle.mesh_background.proofs.HalfRanges.{half_range-given, half_range-push, half_range-of}
