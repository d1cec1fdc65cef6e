-- Bookkeeping: what the passes over the nodes and the pixels make of their lists.
use Rattle.std.specs.Prelude.{◌≡◌, ℕ, ◌<◌, ◌≤◌, Bool, true, false, ◌&&◌, ◌||◌, ◌==◌, cond, ◌⊎◌}
use Rattle.std.specs.Prelude.{ℤ, pos, ◌+ℤ◌, ◌-ℤ◌, ◌≤ℤ◌, List, length, Option, Some, None, slice_index_or}
use Rattle.comp_tree.specs.declared.tree.NodeRow.{NodeRow}
use Rattle.comp_tree.specs.Limits.{IsWithinRange}
use Rattle.comp_tree.specs.ComponentTree.{parent_in, no_node}
use Rattle.comp_tree.specs.Laws.{IsAncestor}
use Rattle.comp_tree.specs.Nesting.{level_in}
use Rattle.node_sums.specs.declared.outline.Outline.{Outline}
use Rattle.filter_rules.specs.declared.rule.Rule.{Rule}
use Rattle.filter_rules.specs.declared.rule.Rule.TheVariants.{Min, Max, Direct, Subtractive}

-- rows as in the tree of a plane: a parent's number is smaller, its level too, and the levels are in the range of pixels
pub record HasRisingLevels (rows : List NodeRow) : Type 0 where
  pub few : length rows ≤ 2147483647
  pub parents : (n : ℕ) → n < length rows → (parent_in rows n ≡ no_node) ⊎ (parent_in rows n < n)
  pub levels : (n : ℕ) → n < length rows → IsWithinRange (level_in rows n)
  pub rising : (n : ℕ) → n < length rows → parent_in rows n < length rows → level_in rows (parent_in rows n) ≤ℤ level_in rows n

-- an outline as that of a node of an image: the box lies in the image, and so do all pixels
pub record HasBox (o : Outline) : Type 0 where
  pub area : o.area ≤ 2147483647
  pub columns : o.xmin ≤ o.xmax
  pub few_columns : o.xmax ≤ 65535
  pub rows : o.ymin ≤ o.ymax
  pub few_rows : o.ymax ≤ 65535

-- the flag and the value of node n
abbrev pub flag : List Bool → ℕ → Bool
flag flags n = slice_index_or flags n false

abbrev pub value_in : List ℤ → ℕ → ℤ
value_in values n = slice_index_or values n (pos 0)

-- ---- `Min`: a node keeps its flag where its parent does

abbrev pub flag_with_parent : List NodeRow → List Bool → List Bool → ℕ → Bool
flag_with_parent rows own flags n = flag own n && (parent_in rows n == no_node || flag flags (parent_in rows n))

-- the first k nodes have been asked
pub record AreWithParents (rows : List NodeRow) (own flags : List Bool) (k : ℕ) : Type 0 where
  pub one_each : length flags ≡ length own
  pub asked : (n : ℕ) → n < k → n < length rows → flag flags n ≡ flag_with_parent rows own flags n
  pub others : (n : ℕ) → k ≤ n → flag flags n ≡ flag own n

-- ---- `Max`: the flag of a node goes to its parent

-- the flag of node n comes from a node, which is n or has n above it
pub record ComesFrom (rows : List NodeRow) (own : List Bool) (n : ℕ) : Type 0 where
  pub node : ℕ
  pub listed : node < length rows
  pub own_flag : flag own node ≡ true
  pub above : (node ≡ n) ⊎ IsAncestor rows n node

-- the nodes from number k on have been asked
pub record AreWithChildren (rows : List NodeRow) (own flags : List Bool) (k : ℕ) : Type 0 where
  pub one_each : length flags ≡ length own
  pub comes : (n : ℕ) → n < length rows → flag flags n ≡ true → ComesFrom rows own n
  pub own_kept : (n : ℕ) → flag own n ≡ true → flag flags n ≡ true
  pub goes_up : (n : ℕ) → k ≤ n → n < length rows → parent_in rows n < length rows → flag flags n ≡ true → flag flags (parent_in rows n) ≡ true

-- ---- the flags after the passes of a rule

abbrev pub AreKeptBy : Rule → List NodeRow → List Bool → List Bool → Type 0
AreKeptBy Min rows own flags = AreWithParents rows own flags (length rows)
AreKeptBy Max rows own flags = AreWithChildren rows own flags 0
AreKeptBy Direct rows own flags = flags ≡ own
AreKeptBy Subtractive rows own flags = flags ≡ own

-- ---- values of nodes

-- the value of a kept node that has a parent: by its level, and by the level and the value of the parent
abbrev pub value_of_kept : Rule → ℤ → ℤ → ℤ → ℤ
value_of_kept Min level base above = level
value_of_kept Max level base above = level
value_of_kept Direct level base above = level
value_of_kept Subtractive level base above = above +ℤ (level -ℤ base)

-- the value of node n, by that of its parent
abbrev pub value_of_node : List NodeRow → Rule → List Bool → List ℤ → ℕ → ℤ
value_of_node rows rule kept values n =
    cond (parent_in rows n == no_node) (level_in rows n)
    (cond (flag kept n) (value_of_kept rule (level_in rows n) (level_in rows (parent_in rows n)) (value_in values (parent_in rows n)))
    (value_in values (parent_in rows n)))

-- the first nodes have their values, which are at most their levels
pub record AreValues (rows : List NodeRow) (rule : Rule) (kept : List Bool) (values : List ℤ) : Type 0 where
  pub each : (n : ℕ) → n < length values → value_in values n ≡ value_of_node rows rule kept values n
  pub in_range : (n : ℕ) → n < length values → IsWithinRange (value_in values n)
  pub at_most : (n : ℕ) → n < length values → value_in values n ≤ℤ level_in rows n

-- ---- pixels

-- what a pixel gets whose smallest node is n
abbrev pub filled_pixel : List ℤ → ℕ → Option ℤ
filled_pixel values n = cond (n == no_node) None (Some (value_in values n))
