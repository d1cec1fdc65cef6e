-- The lemmas of this crate that crates above use. Its other modules of lemmas are its own.

-- where a pixel lies in a box, and the pixel of a window that stands there
pub use Rattle.tile_laws.proofs.Sure.{IsPlacedIn, placed_in, in_from_placed, IsSeenAt, seen_at}
-- a member of a list that is made of another one's, and of one whose members are numbered
pub use Rattle.tile_laws.proofs.Lists.{IsImageOf, image_of, get_among, rows_from, IsRowOf, row_of}
-- lists that rise by a number of each member, and have the same members, are the same
pub use Rattle.tile_laws.proofs.Lists.{rising_equal}
-- the box of a node lies in its plane
pub use Rattle.tile_laws.proofs.NodeBoxes.{box_in}
-- the test of a box in another one
pub use Rattle.tile_laws.proofs.Testing.{within_test_is_exact}
-- planes with the same pixels of at least the threshold have the same open boxes
pub use Rattle.tile_laws.proofs.Local.{open_alike}
