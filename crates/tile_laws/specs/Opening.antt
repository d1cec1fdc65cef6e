-- Model: the boxes of the components that a window may not know whole, in the order of its tree's nodes.
use Rattle.std.specs.Prelude.{ℕ, ◌<◌, ◌≤◌, ◌↔◌, Bool, IsTrue, ◌&&◌, ◌||◌, ◌==◌, not, nat_le, nat_lt, ℤ, int_le, int_lt, List, map, filter}
use Rattle.std.specs.List.{enumerate_from}
use Rattle.comp_tree.specs.declared.shape.Shape.{Shape}
use Rattle.comp_tree.specs.declared.tree.NodeRow.{NodeRow}
use Rattle.comp_tree.specs.ComponentTree.{no_node, parent_in}
use Rattle.comp_tree.specs.Nesting.{level_in}
use Rattle.comp_tree.specs.Windows.{Box}
use Rattle.node_sums.specs.declared.outline.Outline.{Outline}
use Rattle.tile_laws.specs.declared.extents.Extent.{Extent}
use Rattle.tile_laws.specs.Clear.{IsBoxWithin}
use Rattle.tile_laws.specs.Extents.{box_extent}
use Rattle.tile_laws.specs.Knowing.{node_box, DoMeet, IsSettled, IsWholeAt}

-- ---- the tests

-- a node has at least the threshold, and its parent, if any, hasn't
unfoldable pub is_whole_node : ℤ → List NodeRow → ℕ → Bool
is_whole_node threshold rows n =
    int_le threshold (level_in rows n) && ((parent_in rows n == no_node) || int_lt (level_in rows (parent_in rows n)) threshold)

-- two boxes, neither of them empty, share a pixel
unfoldable pub share_pixels : Box → Box → Bool
share_pixels a b = nat_lt a.left b.right && nat_lt b.left a.right && (nat_lt a.top b.bottom && nat_lt b.top a.bottom)

-- one box lies in another
unfoldable pub holds_box : Box → Box → Bool
holds_box outer inner =
    nat_le outer.left inner.left && nat_le inner.right outer.right && (nat_le outer.top inner.top && nat_le inner.bottom outer.bottom)

-- along a side: the places from one up to another lie so far within two bounds that their neighbours do too, where there are so many
unfoldable pub lie_deep_along : ℕ → ℕ → ℕ → ℕ → ℕ → Bool
lie_deep_along from to low high side = (nat_lt low from || (low == 0)) && (nat_lt to high || ((to == high) && (high == side)))

-- a box that isn't empty doesn't meet the core, or lies so in the sure one
unfoldable pub is_box_settled : Shape → Box → Box → Box → Bool
is_box_settled whole core sure box =
    not (share_pixels core box)
    || (lie_deep_along box.left box.right sure.left sure.right whole.width && lie_deep_along box.top box.bottom sure.top sure.bottom whole.height)

-- ---- the boxes

-- of some nodes, each with its number and its outline, those that are whole components at the threshold and whose boxes aren't settled: these boxes
unfoldable pub open_among : ℤ → List NodeRow → ℕ → ℕ → Shape → Box → Box → List (ℕ × Outline) → List Extent
open_among threshold rows left top whole core sure entries =
    map (λ e. box_extent (node_box left top e.1))
    (filter (λ e. is_whole_node threshold rows e.0 && not (is_box_settled whole core sure (node_box left top e.1))) entries)

-- of all nodes of a tree, in the order of their numbers
abbrev pub open_extents : ℤ → List NodeRow → List Outline → ℕ → ℕ → Shape → Box → Box → List Extent
open_extents threshold rows outlines left top whole core sure = open_among threshold rows left top whole core sure (enumerate_from 0 outlines)

-- a box of an image, which isn't empty
pub record IsBoxOf (whole : Shape) (box : Box) : Type 0 where
  pub columns : box.left < box.right
  pub right : box.right ≤ whole.width
  pub rows : box.top < box.bottom
  pub bottom : box.bottom ≤ whole.height

-- ---- laws

-- what the tests say
abbrev pub WholeTestIsExact : Type 0
WholeTestIsExact = (threshold : ℤ) (rows : List NodeRow) (n : ℕ) → IsTrue (is_whole_node threshold rows n) ↔ IsWholeAt threshold rows n

abbrev pub MeetingTestIsExact : Type 0
MeetingTestIsExact = (a b : Box) → IsTrue (share_pixels a b) ↔ DoMeet a b

abbrev pub WithinTestIsExact : Type 0
WithinTestIsExact = (outer inner : Box) → IsTrue (holds_box outer inner) ↔ IsBoxWithin outer inner

abbrev pub SettledTestIsExact : Type 0
SettledTestIsExact = (whole : Shape) (core sure box : Box) → IsBoxOf whole box
    → IsTrue (is_box_settled whole core sure box) ↔ IsSettled whole core sure box
