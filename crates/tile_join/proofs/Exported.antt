-- The lemmas of this crate that crates above use. Its other modules of lemmas are its own.

-- joined rows are no more than pixels, and each is one of a tile's with another number; the map's numbers are no greater than they are many
pub use Rattle.tile_join.proofs.Sizes.{rows_are_few, IsRenumbered, joined_row_from, row_of_tiles, numbers_are_small}
