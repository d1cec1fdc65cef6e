use Rattle.std.proofs.Common.{◌≡◌, ◌∙◌, sym, ap, subst, arith, ℕ, List, [], length, map}
use Rattle.std.specs.Prelude.{slice_index}
use Rattle.std.proofs.lemmas.List.{length-replicate}
use Rattle.comp_tree.specs.declared.shape.Connect.{Connect}
use Rattle.comp_tree.specs.Raster.{pixels}
use Rattle.comp_tree.specs.Components.{tree_of}
use Rattle.node_sums.specs.declared.entry.Sums.{Sums}
use Rattle.node_sums.specs.Sums.{sums_over, sums_of, AreSumsOfNodes}
use Rattle.node_sums.specs.DisjointNodes.{AreNumbered}
use Rattle.node_sums.specs.Merging.{AreOwn, places_of}
use Rattle.node_sums.proofs.Passes
use Rattle.node_sums.proofs.Marks.{few_marked, few_rows}
use Rattle.node_sums.proofs.Listing
use Rattle.node_sums.proofs.listed.sums_of_nodes.Goals.{After-deref_mut, After-drop-numbers-2}
use Rattle.node_sums.proofs.listed.sums_of_nodes.Goals as goal

-- the numbers as they are lent
known : (c : After-deref_mut) → AreNumbered c.args.tree.now c.args.nodes.now (length c.args.tree.now.rows) c.deref.result.now
known c =
    subst (λ (xs : List ℕ). AreNumbered c.args.tree.now c.args.nodes.now (length c.args.tree.now.rows) xs) (sym c.deref.ensures.value)
    c.in_ok-numbers.ensures

-- there is an entry for each listed node
count : (c : After-deref_mut) → length c.deref_mut.result.now ≡ length c.args.nodes.now
count c =
    ap length (c.deref_mut.ensures.value ∙ c.in_ok-sums.ensures c.args.plane.now)
    ∙ length-replicate (length c.args.nodes.now) (sums_over c.args.plane.now [])

pub add_pixels-requires-clause-nodes : goal.add_pixels-requires-clause-nodes
add_pixels-requires-clause-nodes c = λ p d.
    omega (
      arith,
      Passes.number_below c.args.plane.now c.args.tree.now c.requires.tree p d,
      ap (λ (xs : List ℕ). slice_index xs p) c.node_of.ensures.same,
      (known c).one_each,
    )

pub add_pixels-requires-clause-numbers : goal.add_pixels-requires-clause-numbers
add_pixels-requires-clause-numbers c = λ n.
    omega (arith, Listing.numbers_up_to c.args.tree.now c.args.nodes.now c.deref.result.now c.requires.disjoint (known c) n, count c)

pub add_pixels-requires-clause-few : goal.add_pixels-requires-clause-few
add_pixels-requires-clause-few c =
    omega (arith, count c, few_marked c.args.tree.now c.args.nodes.now c.requires.disjoint, few_rows c.args.tree.now c.args.nodes.now c.requires.disjoint)

pub add_pixels-requires-clause-one_each : goal.add_pixels-requires-clause-one_each
add_pixels-requires-clause-one_each c = ap length c.node_of.ensures.same ∙ Passes.numbers_for_pixels c.args.plane.now c.args.tree.now c.requires.tree

pub add_pixels-requires-clause-none : goal.add_pixels-requires-clause-none
add_pixels-requires-clause-none c =
    Passes.own_none c.args.plane.now (places_of c.deref.result.now c.node_of.result.now) _ c.deref_mut.result.now
    (c.deref_mut.ensures.value ∙ c.in_ok-sums.ensures c.args.plane.now)

-- the sums as they were filled
filled : (c : After-drop-numbers-2) (connect : Connect) → c.args.tree.now ≡ tree_of c.args.plane.now connect
    → c.add_pixels.new.sums ≡ map (sums_of c.args.plane.now connect) c.args.nodes.now
filled c connect same =
    Listing.listed_sums c.args.plane.now connect c.args.tree.now c.args.nodes.now c.deref.result.now c.add_pixels.ensures.plane same c.requires.disjoint
    (subst (λ (xs : List ℕ). AreNumbered c.args.tree.now c.args.nodes.now (length c.args.tree.now.rows) xs) (sym c.deref.ensures.value)
    c.in_ok-numbers.ensures)
    c.add_pixels.new.sums
    (c.add_pixels.auto.sums ∙ ap length (c.deref_mut.ensures.value ∙ c.in_ok-sums.ensures c.args.plane.now)
    ∙ length-replicate (length c.args.nodes.now) (sums_over c.args.plane.now []))
    (subst (λ (xs : List ℕ). AreOwn c.args.plane.now (places_of c.deref.result.now xs) (pixels c.args.plane.now) c.add_pixels.new.sums) c.node_of.ensures.same
    c.add_pixels.ensures.own)

pub returns-clause-exact : goal.returns-clause-exact
returns-clause-exact c = λ connect same.
    Passes.take_front c.add_pixels.new.sums _ _ (c.add_pixels.auto.sums ∙ c.deref_mut.ensures.len) ∙ filled c connect same

pub returns-clause-of_nodes : goal.returns-clause-of_nodes
returns-clause-of_nodes c =
    subst (λ (xs : List Sums). AreSumsOfNodes c.args.tree.now c.args.nodes.now xs)
    (sym (Passes.take_front c.add_pixels.new.sums _ _ (c.add_pixels.auto.sums ∙ c.deref_mut.ensures.len)))
    (Listing.sums_of_plane c.args.plane.now c.requires.tree.0 c.args.tree.now c.args.nodes.now c.add_pixels.new.sums c.add_pixels.ensures.plane
    c.add_pixels.ensures.in_range c.requires.tree.1 (filled c c.requires.tree.0 c.requires.tree.1))
