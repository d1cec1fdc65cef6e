use Rattle.std.proofs.Common.{◌≡◌, ◌∙◌, ◌*◌, ◌<◌, ℕ, zero, suc, [], ◌∷◌, length, sym, ap, subst, arith}
use Rattle.std.specs.Prelude.{Some, slice_get}
use Rattle.std.proofs.lemmas.Option.{slice_get_within, same_Some}
use Rattle.comp_tree.specs.declared.shape.Shape.{Shape}
use Rattle.node_sums.specs.declared.entry.Sums.{Sums}
use Rattle.node_sums.specs.Sums.{AreSumsOfNode}
use Rattle.node_sums.proofs.Listing.{sums_of_one}
use Rattle.node_sums.proofs.tests.sums_of_one.Goals as goal

-- a list of one number has no other
only : (n i s : ℕ) → slice_get (n ∷ []) i ≡ Some s → s ≡ n
only n zero s g = sym (same_Some n s g)
only n (suc i) s g = absurd (cc)

pub sums_of_nodes-requires-clause-disjoint : goal.sums_of_nodes-requires-clause-disjoint
sums_of_nodes-requires-clause-disjoint c = record {
  plane = c.args.plane.now;
  connect = c.requires.tree.0;
  one_each = c.shape.ensures.pixels ∙ ap (λ (s : Shape). s.width * s.height) c.shape.ensures.same;
  tree_is = c.requires.tree.1;
  nodes = λ i s g. omega (arith, only c.args.n i s g, c.requires.node);
  disjoint = λ i j s t l f g.
      (let a : i < length (c.args.n ∷ []) = slice_get_within (c.args.n ∷ []) i s f in
      let b : j < length (c.args.n ∷ []) = slice_get_within (c.args.n ∷ []) j t g in
      absurd (omega (arith, a, b, l)));
}

pub flux-requires-clause-sums : goal.flux-requires-clause-sums
flux-requires-clause-sums c =
    subst (λ (s : Sums). AreSumsOfNode c.args.tree.now c.args.n s)
    (sym c.index.ensures)
    (sums_of_one c.args.tree.now (c.args.n ∷ []) c.in_ok-found.found.items 0 c.index.result.now c.in_ok-found.ensures.of_nodes (omega arith))
