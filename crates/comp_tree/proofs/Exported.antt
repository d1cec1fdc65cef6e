-- The lemmas of this crate that crates above use. Its other modules of lemmas are its own.

-- lemmas of the crate below, for those that stand on this one
pub use Rattle.lemmas.proofs.Exported.{ArePaired, HasPartnerIn, IsAmong, IsRising, IsRisingBy, IsWitness, all_from_among, among-filter, among-range}
pub use Rattle.lemmas.proofs.Exported.{among_from_filter, among_from_range, any_from_among, at_end, at_more, cases_int, find_none, find_some, int_eq-from}
pub use Rattle.lemmas.proofs.Exported.{int_eq-true, int_eq_refl, int_le-false, int_le-from, int_le-true, int_le_antisym, int_le_from_lt, int_le_refl}
pub use Rattle.lemmas.proofs.Exported.{int_le_trans, int_lt-false, int_lt-from, int_lt-from_not_le, int_lt-true, int_lt_le, paired_enumerated}
pub use Rattle.lemmas.proofs.Exported.{paired_filter, paired_flat_map, paired_from_rising, paired_map, paired_position, rising-pixels}
pub use Rattle.lemmas.proofs.Exported.{same_bool, witness_from_any}
-- which of two pixels is earlier, where both are defined: irreflexive and transitive; a later one has at least the level of an earlier one
pub use Rattle.comp_tree.proofs.Order.{at_least_cases, at_least_defined, at_least_not_before, at_least_up, before_defined, before_irrefl, before_is}
pub use Rattle.comp_tree.proofs.Order.{before_other, before_trans, none_is_undefined}
-- the order of a plane's pixels is strict and total; `in_order` and `insert_pixel` keep the members of a list and put them in this order
pub use Rattle.comp_tree.proofs.Ordering.{IsOrdered, among_at, among_in_order-from, earlier-level, earlier-parts, earlier_irrefl, earlier_total, earlier_trans}
pub use Rattle.comp_tree.proofs.Ordering.{ordered-in_order, ordered-insert_pixel, ordered-same_place}
pub use Rattle.comp_tree.proofs.Finding.{among-in_order, length-in_order, length-nodes-le, length-pixels, node-undefined}
-- what pairs join: reflexive, symmetric, transitive, and more with more pairs; the three cases of a move of the walk that joins two pixels
pub use Rattle.comp_tree.proofs.Joining.{along_joined, at_only, joined_first, joined_left, joined_pair, joined_pairs, joined_second, joined_sym, joined_trans}
pub use Rattle.comp_tree.proofs.Joining.{joined_wider, joined_within, move_down, move_end}
-- relations that join the same pixels at each level, and links that stand for one stand for the other
pub use Rattle.comp_tree.proofs.Sames.{same_itself, same_none, same_or, same_or_right, same_pairs, same_sym, same_trans, same_turned, same_wider, stands_from}
pub use Rattle.comp_tree.proofs.Sames.{stands_gives}
-- the test `reaches` decides whether a path leads from one pixel to the other; reach is reflexive, symmetric, transitive, and wider at a lower level
pub use Rattle.comp_tree.proofs.Reaching.{among_from_defined, below_from_defined, defined_from_at_least, reaches-is_IsReached}
pub use Rattle.comp_tree.proofs.Nodes.{at_least-from, at_least-lower, at_least-own, defined_from_reached, level_from_at_least, reaches_end, reaches_here}
pub use Rattle.comp_tree.proofs.Nodes.{reaches_lower, reaches_start, reaches_sym, reaches_trans}
-- the neighbours of a pixel stand in its row and the rows beside it
pub use Rattle.comp_tree.proofs.Nearby.{far_rows_above, far_rows_below, filter-skip, neighbours-at, row-from, row_below}
pub use Rattle.comp_tree.proofs.Adjacent.{adjacent_ends, adjacent_from, adjacent_near, adjacent_turned, are_neighbours_comm, neighbours_eight, neighbours_four}
-- the representative of a component, the number of a pixel's node, and the candidates for a parent, by what they are
pub use Rattle.comp_tree.proofs.Nodes.{IsCandidate, IsPlace, IsRepresentative, ParentCase, candidate-from, candidate-parts, child, is_representative-parts}
pub use Rattle.comp_tree.proofs.Nodes.{node-unique, node_of-is, parent-case, parent-is, representative-is, representative-same, root}
-- components of nodes: each component of a threshold set is that of a node; the pixel that represents a node; nested components by their pixels
pub use Rattle.comp_tree.proofs.Components.{each_component_is_a_node, node_of_top, top-defined, top-representative}
pub use Rattle.comp_tree.proofs.Nesting.{all_from, all_gives, among_pixels, in_node-defined, in_node_from_among, test_from_within, top_inside, within_from_test}
pub use Rattle.comp_tree.proofs.Nesting.{rising_pixels_of}
-- the rows of a plane's tree: how many, what each holds, its parent, and that the nodes on the way upwards are the larger ones
pub use Rattle.comp_tree.proofs.Ancestors.{IsParent, ancestors_are_the_larger_nodes, below_no_node, length-rows, parent-candidate, parent-of_node}
pub use Rattle.comp_tree.proofs.Ancestors.{pixels_belong_to_their_ancestors, rows-are}
-- `tree_of` has the properties of a tree, and what has them is `tree_of`; its numbers are those of pixels and rows
pub use Rattle.comp_tree.proofs.OneTree.{IsImage, get-map, get-pixels, get_from_map, get_is, make_tree, ordered-equal, read-node_of}
pub use Rattle.comp_tree.proofs.OneTree.{rep-of, reps_of, tree_of-is}
pub use Rattle.comp_tree.proofs.WellFormed.{tree_of-well_formed}
-- its shape is the plane's, and it has a number for each pixel
pub use Rattle.comp_tree.proofs.WellFormed.{shape-of, length-numbers}
-- walks along links: each has a last pixel; a link leads to a pixel with fewer earlier ones
pub use Rattle.comp_tree.proofs.CountsBelow.{count_below_up}
pub use Rattle.comp_tree.proofs.Walks.{earlier_count_below, earlier_count_less, high_up, last_there}
-- what links stand for depends on the values of their own pixels alone
pub use Rattle.comp_tree.proofs.Agreeing.{Agree, forest_agree, stands_inner_agree}
-- links of which one is changed
pub use Rattle.comp_tree.proofs.Hanging.{forest_hung, link_hung, link_set_other, links_after, links_before}
-- the last pixel of a walk at a pixel's own level is the earliest that is joined to it there
pub use Rattle.comp_tree.proofs.Representatives.{before_level, last_earlier, last_start}
-- representatives and parents, read off a forest that stands for a plane's adjacencies
pub use Rattle.comp_tree.proofs.Canonical.{last_is, last_own, level-value, link_from_representative, parent_from_link, representative_from_link, value-level}
-- a shape is that of its sides, and a plane that of its shape and values; a plane that is written pixel by pixel
pub use Rattle.comp_tree.proofs.Shapes.{raster_is, shape_by_sides, shape_if-true, shape_of_sides, usual_sides}
pub use Rattle.comp_tree.proofs.Writing.{written_all, written_itself, written_next, written_none}
-- two planes whose pixels of at least a level stand in pairs: partners have one level, reach the same partners, and their representatives are
-- partners; nodes that partners represent are counterparts, of one level and with paired pixels
pub use Rattle.comp_tree.proofs.Along.{AlikeAlong, AreCounterparts, ArePairedAbove, HasLikeBeside, HasPartnerBeside, IsReachedThere, along_counterpart}
pub use Rattle.comp_tree.proofs.Along.{along_level, along_low, along_reached, along_reaches, along_sym, counterparts_in_node, counterparts_level}
pub use Rattle.comp_tree.proofs.Along.{counterparts_pixels, counterparts_sym, counterparts_unique, one_way, paired_sym, turned}
-- planes with the same pixels of at least a level are paired so in place: their components are the same, and so are their counterparts' pixels
pub use Rattle.comp_tree.proofs.Alike.{AlikeAbove, InPlace, IsCounterpart, above_level, above_pixels, above_reached, above_sym, counterpart}
pub use Rattle.comp_tree.proofs.Alike.{counterpart_in_place, counterpart_pixels, counterpart_sym, counterpart_test, in_place_above, reached_high}
-- a plane and its window are paired so: the window's pixels have one place each, keep order, neighbours and values, and its sure components
-- are the whole's
pub use Rattle.comp_tree.proofs.Windows.{AreSurePair, IsAt, at_neighbours, at_order, in_whole-at, in_whole-below, in_whole-one, pair_at, seen-length, seen-shape}
pub use Rattle.comp_tree.proofs.Windows.{seen-value, some_columns, sure_components_are_seen, sure_components_are_the_same, sure_same, window_along}
pub use Rattle.comp_tree.proofs.Windows.{window_whole_below}
-- the parent and the level that a row names are those of the tree at the row's number
pub use Rattle.comp_tree.proofs.WellFormed.{row-parent, row_level}
-- the bound of values, by how many pixels there are: never above 2 ^ 37, that of few pixels, and that of the sum of all
pub use Rattle.comp_tree.proofs.Values.{bound_least, bound_most, bound_of_sum, half_most, half_twice, usual_bound, usual_half, within_half, within_more, within_range, within_small, within-set}
pub use Rattle.comp_tree.proofs.Values.{in_range-value, some_within}
-- the pixel that represents a node, as its row names it
pub use Rattle.comp_tree.proofs.WellFormed.{rep-of_node}
