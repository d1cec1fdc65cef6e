-- The lemmas of this crate that crates above use. Its other modules of lemmas are its own.

-- the first number of a range that passes a test
pub use Rattle.fits_hdu.proofs.FirstPassing.{first_passing_is}
-- a search that goes on behind an HDU finds what the search from the start finds, and takes at least all data of the HDU
pub use Rattle.fits_hdu.proofs.Searching.{search_goes_on, data_taken}
-- the data of an image that was found are its pixels
pub use Rattle.fits_hdu.proofs.ImageData.{image_data}
