-- The lemmas of this crate that crates above use. Its other modules of lemmas are its own.

-- a plane's tree has a number for each pixel, and the plane's shape
pub use Rattle.source_pick.proofs.PassesReadings.{numbers-length, tree-shape}
-- a node's parent is none, or a node
pub use Rattle.source_pick.proofs.NodesSplits.{parent_cases}
-- a tree has few rows, and a list of disjoint nodes is short
pub use Rattle.node_sums.proofs.Exported.{few_marked, few_rows}
-- the plane that is kept has the same shape
pub use Rattle.source_pick.proofs.LocalityKeeping.{shape-kept}
-- the first pixel of a node lies in it
pub use Rattle.source_pick.proofs.OrderListing.{first_inside}
-- paired lists have one length, and what is the same for partners has one sum over them
pub use Rattle.source_pick.proofs.LocalityAlongSums.{length_paired, total_paired}
-- the list of the sources of a plane: its members are the sources, and it rises by their least pixels
pub use Rattle.source_pick.proofs.WindowsPairing.{among_sources, source_from_among, sources_rise, rising_from_get}
-- the catalogue is the rows of the sources, and the map the places of the sources that have the pixels
pub use Rattle.source_pick.proofs.Locality.{catalogue-is, number-is, segmentation-is}
-- the pixel that represents a source has at least the threshold, and each pixel of the source is reached from it there
pub use Rattle.source_pick.proofs.LocalityHighNodes.{top_high}
pub use Rattle.source_pick.proofs.Windows.{in_node_reached}
-- the laws of windows and of tiles
pub use Rattle.source_pick.proofs.Windows.{each_source_is_a_tiles, own_sources_are_distinct, own_sources_are_the_wholes, seen_sources_are_sure}
pub use Rattle.source_pick.proofs.Windows.{sure_sources_are_seen}
pub use Rattle.source_pick.proofs.WindowsTiling.{tiles_give_the_catalogue}
-- the row of a node of a plane fits its columns, and each of its numbers 64 bits
pub use Rattle.source_pick.proofs.CellsColumns.{catalogue_row_fits}
-- the columns of 32 and of 64 bits, one before the other; a row that fits its columns fits those of the catalogue
pub use Rattle.source_pick.proofs.CellsColumns.{narrow, wide, row_fits}
-- rows whose columns are the same are the same
pub use Rattle.source_pick.proofs.CellsColumns.{same_row}
