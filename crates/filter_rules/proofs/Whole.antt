-- The filtered plane, from the flags and the values of the nodes.
use Rattle.std.proofs.Common.{◌≡◌, ℕ, ◌<◌, Bool, true, false, cond, List, [], ◌∷◌, length, map, refl, sym, ◌∙◌, ap, subst, arith, ◌⊎◌}
use Rattle.std.specs.Prelude.{◌==◌, ℤ, Some, None, slice_index, Result, Ok, Err, IfOk}
use Rattle.std.proofs.lemmas.Bool.{ne_eqb}
use Rattle.comp_tree.specs.declared.shape.Connect.{Connect}
use Rattle.comp_tree.specs.Raster.{Raster, IsPlane, pixels, is_defined}
use Rattle.comp_tree.specs.ComponentTree.{ComponentTree, no_node}
use Rattle.comp_tree.specs.Components.{nodes, node_of, tree_of}
use Rattle.comp_tree.proofs.Exported.{node-undefined, length-rows, below_no_node, tree_of-well_formed}
use Rattle.comp_tree.proofs.Exported as Nodes
use Rattle.filter_rules.specs.declared.rule.Rule.{Rule}
use Rattle.filter_rules.specs.declared.rule.Criterion.{Criterion}
use Rattle.filter_rules.specs.Filtered.{satisfies_rule, filtered_value, filtered}
use Rattle.filter_rules.specs.Passes.{flag, AreValues, filled_pixel}
use Rattle.filter_rules.proofs.Valued.{value_of_pixel}
use Rattle.comp_tree.proofs.Exported.{raster_is}
use Rattle.node_sums.proofs.Exported.{numbers-are}

-- what two clauses say of a result
pub both_ok : {A E : Type 0} (x : Result A E) (P Q R : A → Type 0) → IfOk x P → IfOk x Q → ((a : A) → P a → Q a → R a) → IfOk x R
both_ok (Ok a) P Q R p q f = f a p q
both_ok (Err e) P Q R p q f = tt

map_twice : {X Y : Type 0} (f : ℕ → Y) (g : X → ℕ) (h : X → Y) (xs : List X) → ((x : X) → f (g x) ≡ h x) → map f (map g xs) ≡ map h xs
map_twice f g h [] e = refl
map_twice f g h (x ∷ xs) e = ap (λ (y : _). y ∷ map f (map g xs)) (e x) ∙ ap (λ (ys : List _). h x ∷ ys) (map_twice f g h xs e)

filtered-is : (r : Raster) (connect : Connect) (rule : Rule) (criterion : Criterion) (left : Raster) → left.shape ≡ r.shape
    → left.values ≡ map (λ p. cond (is_defined r p) (Some (filtered_value r connect rule criterion p)) None) (pixels r)
    → left ≡ filtered r connect rule criterion
unfolding filtered
filtered-is r connect rule criterion left e f = raster_is left (filtered r connect rule criterion) e f

-- the plane, and what the passes have made of it
pub record IsMade (r left : Raster) (connect : Connect) (tree : ComponentTree) (rule : Rule) (criterion : Criterion) (kept : List Bool)
    (values : List ℤ) : Type 0 where
  pub tree_is : tree ≡ tree_of r connect
  pub flags : (n : ℕ) → n < length tree.rows → flag kept n ≡ satisfies_rule r connect rule criterion n
  pub one_each : length values ≡ length tree.rows
  pub made : AreValues tree.rows rule kept values
  pub same_shape : left.shape ≡ r.shape
  pub filled : left.values ≡ map (filled_pixel values) tree.node_of

pub made_is_filtered : (r left : Raster) (connect : Connect) (tree : ComponentTree) (rule : Rule) (criterion : Criterion) (kept : List Bool) (values : List ℤ)
    → IsPlane r
    → IsMade r left connect tree rule criterion kept values → left ≡ filtered r connect rule criterion
made_is_filtered r left connect tree rule criterion kept values plane m =
    filtered-is r connect rule criterion left m.same_shape
    (m.filled ∙ ap (map (filled_pixel values)) (ap (λ (t : ComponentTree). t.node_of) m.tree_is ∙ numbers-are r connect)
    ∙ map_twice (filled_pixel values) (node_of r connect) (λ p. cond (is_defined r p) (Some (filtered_value r connect rule criterion p)) None) (pixels r)
    (λ p. go p (is_defined r p) refl))
  where
    count : length values ≡ length (nodes r connect)
    count = m.one_each ∙ ap (λ (t : ComponentTree). length t.rows) m.tree_is ∙ length-rows r connect

    flags : (n : ℕ) → n < length (nodes r connect) → flag kept n ≡ satisfies_rule r connect rule criterion n
    flags n h = m.flags n (omega (arith, ap (λ (t : ComponentTree). length t.rows) m.tree_is, length-rows r connect))

    made : AreValues (tree_of r connect).rows rule kept values
    made = subst (λ (t : ComponentTree). AreValues t.rows rule kept values) m.tree_is m.made

    go : (p : ℕ) → (b : Bool) → is_defined r p ≡ b
        → filled_pixel values (node_of r connect p) ≡ cond (is_defined r p) (Some (filtered_value r connect rule criterion p)) None
    go p true d =
        let some : (node_of r connect p == no_node) ≡ false =
        ne_eqb (node_of r connect p) no_node (below_no_node r connect (node_of r connect p) plane (Nodes.node_of-is r connect p d).below) in
        rw (some, d) (ap Some (value_of_pixel r connect plane rule criterion kept values count flags made p d))
    go p false d = let none : node_of r connect p ≡ no_node = sym (node-undefined r connect p d) in rw (none, d) refl

-- each pixel's number is none, or that of a node
pub numbers_fit : (r : Raster) (connect : Connect) (tree : ComponentTree) → IsPlane r → tree ≡ tree_of r connect
    → (p : ℕ) → p < length tree.node_of → (slice_index tree.node_of p ≡ no_node) ⊎ (slice_index tree.node_of p < length tree.rows)
numbers_fit r connect tree plane e =
    subst (λ (t : ComponentTree). (p : ℕ) → p < length t.node_of → (slice_index t.node_of p ≡ no_node) ⊎ (slice_index t.node_of p < length t.rows)) (sym e)
    (tree_of-well_formed r connect plane).nodes
