-- Model: the plane that a filter rule makes of a plane r, by the components of the nodes of its tree. `Min`, `Max` and `Direct` are
-- those of Salembier, Oliveras and Garrido 1998; `Subtractive`, and that a root is always kept, are this project's.
use Rattle.std.specs.Prelude.{ℕ, Bool, ◌&&◌, ◌||◌, cond, ℤ, pos, ◌-ℤ◌, List, map, filter, find, Option, Some, None}
use Rattle.std.specs.List.{list_all, list_any}
use Rattle.std.specs.Option.{option_map_or}
use Rattle.comp_tree.specs.declared.shape.Connect.{Connect}
use Rattle.comp_tree.specs.Raster.{Raster, pixels, is_defined}
use Rattle.comp_tree.specs.ComponentTree.{ComponentTree, parent_in}
use Rattle.comp_tree.specs.Components.{is_in_node, tree_of}
use Rattle.comp_tree.specs.Nesting.{node_numbers, is_root, level_in, lies_within}
use Rattle.node_sums.specs.Sums.{total}
use Rattle.filter_rules.specs.declared.rule.Rule.{Rule}
use Rattle.filter_rules.specs.declared.rule.Rule.TheVariants.{Min, Max, Direct, Subtractive}
use Rattle.filter_rules.specs.declared.rule.Criterion.{Criterion}
use Rattle.filter_rules.specs.Criteria.{satisfies}

-- ---- which nodes are kept

-- the nodes whose component contains that of n, and those whose component lies within it: n is among both
abbrev pub around : Raster → Connect → ℕ → List ℕ
around r connect n = filter (λ m. lies_within r connect n m) (node_numbers r connect)

abbrev pub inside : Raster → Connect → ℕ → List ℕ
inside r connect n = filter (λ m. lies_within r connect m n) (node_numbers r connect)

-- the rule keeps node n, where it isn't a root
unfoldable pub satisfies_rule : Raster → Connect → Rule → Criterion → ℕ → Bool
satisfies_rule r connect Min criterion n = list_all (satisfies r connect criterion) (around r connect n)
satisfies_rule r connect Max criterion n = list_any (satisfies r connect criterion) (inside r connect n)
satisfies_rule r connect Direct criterion n = satisfies r connect criterion n
satisfies_rule r connect Subtractive criterion n = satisfies r connect criterion n

-- node n is kept
unfoldable pub is_kept : Raster → Connect → Rule → Criterion → ℕ → Bool
is_kept r connect rule criterion n = is_root (tree_of r connect) n || satisfies_rule r connect rule criterion n

-- ---- what a pixel gets

-- the kept nodes whose component holds p
unfoldable pub holders : Raster → Connect → Rule → Criterion → ℕ → List ℕ
holders r connect rule criterion p =
    filter (λ n. is_kept r connect rule criterion n && is_in_node r connect n p) (node_numbers r connect)

-- of some nodes the one with the smallest component: it lies within the component of each
unfoldable pub smallest : Raster → Connect → List ℕ → Option ℕ
smallest r connect ns = find (λ n. list_all (lies_within r connect n) ns) ns

abbrev pub level_of_smallest : Raster → Connect → List ℕ → ℤ
level_of_smallest r connect ns = option_map_or (level_in (tree_of r connect).rows) (smallest r connect ns) (pos 0)

-- by how much node n rises above its parent: its level less the parent's, and at a root its level
unfoldable pub rise_in : ComponentTree → ℕ → ℤ
rise_in tree n = cond (is_root tree n) (level_in tree.rows n) (level_in tree.rows n -ℤ level_in tree.rows (parent_in tree.rows n))

-- what a pixel gets of the kept nodes that hold it: the level of the smallest, and under `Subtractive` the sum of the rises
unfoldable pub value_from : Raster → Connect → Rule → List ℕ → ℤ
value_from r connect Min ns = level_of_smallest r connect ns
value_from r connect Max ns = level_of_smallest r connect ns
value_from r connect Direct ns = level_of_smallest r connect ns
value_from r connect Subtractive ns = total (rise_in (tree_of r connect)) ns

unfoldable pub filtered_value : Raster → Connect → Rule → Criterion → ℕ → ℤ
filtered_value r connect rule criterion p = value_from r connect rule (holders r connect rule criterion p)

-- the filtered plane. An undefined pixel stays undefined
unfoldable pub filtered : Raster → Connect → Rule → Criterion → Raster
filtered r connect rule criterion = record {
  shape = r.shape;
  values = map (λ p. cond (is_defined r p) (Some (filtered_value r connect rule criterion p)) None) (pixels r);
}
