-- The lemmas of this crate that crates above use. Its other modules of lemmas are its own.

-- the data of an HDU that holds an image which can be read are exactly the image's bytes
pub use Rattle.pixel_plane.proofs.ImageData.{all_data}
-- at the usual limits an image fits where it has at most 2 ^ 24 pixels, and its values are held to the limits alone
pub use Rattle.pixel_plane.proofs.UsualLimits.{usual_fits, usual_kept}
-- what the data of an HDU say of pixels is a plane
pub use Rattle.pixel_plane.proofs.Images.{whole_stored}
