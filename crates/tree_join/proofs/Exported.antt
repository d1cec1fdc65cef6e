-- The lemmas of this crate that crates above use. Its other modules of lemmas are its own.

-- where links join what they joined before and further pairs, they stand for what they stood for and these pairs
pub use Rattle.tree_join.proofs.Rows.{stands_more}
-- the links of neighbouring groups, one list behind the other: each pixel keeps its link, the list is a forest, what it joins lies within the
-- groups, and it stands for the pairs of both
pub use Rattle.tree_join.proofs.Groups.{forest_groups, groups_same, groups_stand, link_inside, link_left, link_right, links_groups, part_left, part_right}
-- the adjacencies within the strips of a cut and those between them are all adjacencies; where a strip begins and ends
pub use Rattle.tree_join.proofs.Cutting.{cut_all, strip_inside, strip_low}
