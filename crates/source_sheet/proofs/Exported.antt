-- The lemmas of this crate that crates above use. Its other modules of lemmas are its own.

-- what holds of all of a list holds with one member more
pub use Rattle.source_sheet.proofs.Rows.{all_more}
-- what holds of each item of a list, as it grows at its end
pub use Rattle.source_sheet.proofs.WithTops.{each_more, no_item}
