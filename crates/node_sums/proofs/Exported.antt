-- The lemmas of this crate that crates above use. Its other modules of lemmas are its own.

-- numbers up to a bound from zero: their differences, products and sums stay below the bounds that follow
pub use Rattle.node_sums.proofs.Sizes.{up_to-minus, up_to-times, up_to_more, total-up_to}
-- coordinates and values of a plane's pixels are small, and so are the sums over them
pub use Rattle.node_sums.proofs.Sizes.{x_small, y_small, value_in_range, value_within, level_up_to, level_within, filtered_pixels, sizes, length-filter-le}
-- the least and the greatest number of some pixels
pub use Rattle.node_sums.proofs.Sizes.{least_at_most, greatest_at_least, greatest_up_to}
-- the numbers of a plane's nodes; the area in a node's sums is the number of its pixels, of which there are few
pub use Rattle.node_sums.proofs.NodePixels.{among_nodes, node_from_among, sums-area, few-pixels_of}
-- numbers fall on the way up, from a node to its parent and to its ancestors
pub use Rattle.node_sums.proofs.Counting.{goes_down, parent_smaller, ancestor_smaller, ancestor_up}
-- a parent holds the pixels of its children, and of two nodes that hold a pixel one is an ancestor of the other
pub use Rattle.node_sums.proofs.Counting.{parent_holds, holders_are_nested}
-- the list of the pixels' nodes has the smallest node of each
pub use Rattle.node_sums.proofs.Counting.{numbers-are, number-within}
-- which pixels are in a node's entry: at first, when a node was added to its parent, and in the end
pub use Rattle.node_sums.proofs.Counting.{IsUnion, counted-start, counted-same, counted-parent, counted-end}
-- signed numbers as the code computes them
pub use Rattle.node_sums.proofs.Reading.{fits, plus-read, peak-read}
-- a row and an entry as they are read and written
pub use Rattle.comp_tree.proofs.Exported.{row-parent, row_level}
pub use Rattle.node_sums.proofs.Reading.{some_parent_smaller, get-written}
-- a range and a filtered list that get one member more; the front of a list
pub use Rattle.node_sums.proofs.Passes.{range-push, filter_yes, filter_no, filter_same, take_front}
-- a plane's tree has a row for each node and a number for each pixel; its parents are nodes
pub use Rattle.node_sums.proofs.Passes.{rows_are, numbers_for_pixels, parent_is, parent_inside}
-- a node's level is that of its top pixel, and the least of its pixels; the base by cases
pub use Rattle.node_sums.proofs.Fluxes.{level-of_node, level_at_least, BaseCase, at_root, at_child, base-case, base-root, base-child}
-- the flux is never negative, and grows with the component
pub use Rattle.node_sums.proofs.Fluxes.{never_negative, flux_grows}
-- the flux by the sums of a node is the flux by the definition; there are sums for each node
pub use Rattle.node_sums.proofs.FluxOfSums.{sums-flux, flux-is, base_up_to, base_within, length-sums_in}
-- there is an outline for each row
pub use Rattle.node_sums.proofs.OutlineFlux.{outlines_rows}
-- ways upwards: which components lie within which, and levels along them; rows and nodes have the same numbers
pub use Rattle.node_sums.proofs.Ways.{node_from_row, row_from_node, within_from_way, way_from_shared, way_from_within, way_trans, HasParent, way_up}
pub use Rattle.node_sums.proofs.Ways.{way_of_child, way_smaller, level_on_way}
-- a row's number is a node's; a list that is filled place by place, and a list of zeros
pub use Rattle.node_sums.proofs.Marks.{node_inside, filled, zeros_replicate}
-- a list of disjoint nodes is short, as a tree has few rows; the number of the listed node that holds a pixel, by that of its smallest node
pub use Rattle.node_sums.proofs.Marks.{few_marked, few_rows, number_bound, number_of_defined, number_of_undefined}
-- the sums of listed nodes: there is one for each, and which one stands at a place
pub use Rattle.node_sums.proofs.Listing.{count_of_sums, sums_at, sums_of_one}
