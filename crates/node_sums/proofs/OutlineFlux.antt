-- The outlines of a tree are parts of its sums, and the flux follows from either.
use Rattle.std.proofs.Common.{◌≡◌, ℕ, ◌<◌, List, [], length, map, refl, sym, ◌∙◌, ap, subst, arith, get_or}
use Rattle.std.specs.Prelude.{pos, ◌-ℤ◌, ◌*ℤ◌, ◌≤ℤ◌}
use Rattle.std.proofs.lemmas.List.{length-map, get_or-map}
use Rattle.std.proofs.lemmas.Option.{slice_get-get_or}
use Rattle.comp_tree.specs.declared.shape.Connect.{Connect}
use Rattle.comp_tree.specs.Raster.{Raster}
use Rattle.comp_tree.specs.ComponentTree.{ComponentTree}
use Rattle.comp_tree.specs.Components.{tree_of}
use Rattle.comp_tree.proofs.Exported.{length-rows}
use Rattle.node_sums.specs.declared.entry.Sums.{Sums}
use Rattle.node_sums.specs.declared.outline.Outline.{Outline}
use Rattle.node_sums.specs.Sums.{sums_over, sums_in}
use Rattle.node_sums.specs.OutlinePasses.{AreTheTrees}
use Rattle.node_sums.specs.Flux.{base_of, flux_of}
use Rattle.node_sums.specs.Sizes.{HasFluxSizes}
use Rattle.node_sums.specs.Outlines.{outline_of, outlines_in, AreOutlinesOfTree}
use Rattle.node_sums.proofs.FluxOfSums.{length-sums_in, trees_rows, flux-is, flux_numbers, flux_not_negative}

-- the outline that is read is that of the sums
pub outline_read : (outlines : List Outline) (sums : List Sums) (n : ℕ) (d : Outline) (e : Sums) → outlines ≡ map outline_of sums → n < length outlines
    → get_or outlines n d ≡ outline_of (get_or sums n e)
outline_read outlines sums n d e f h =
    ap (λ (xs : List Outline). get_or xs n d) f ∙ get_or-map outline_of sums n e d (omega (arith, ap length f, length-map sums outline_of))

-- the sums of which a tree's outlines are parts
pub trees_sums : (tree : ComponentTree) (outlines : List Outline) → (t : AreOutlinesOfTree tree outlines)
    → AreTheTrees tree (sums_in t.plane t.of_plane.connect)
trees_sums tree outlines t = record {
  plane = t.plane;
  one_each = t.one_each;
  in_range = t.in_range;
  of_plane = record { connect = t.of_plane.connect; tree_is = t.of_plane.tree_is; sums_are = refl };
}

pub outlines_rows : (tree : ComponentTree) (outlines : List Outline) → AreOutlinesOfTree tree outlines → length outlines ≡ length tree.rows
outlines_rows tree outlines t =
    ap length t.of_plane.outlines_are ∙ length-map (sums_in t.plane t.of_plane.connect) outline_of
    ∙ trees_rows tree (sums_in t.plane t.of_plane.connect) (trees_sums tree outlines t)

pub outline_sizes : (tree : ComponentTree) (outlines : List Outline) (n : ℕ) (d : Outline) → AreOutlinesOfTree tree outlines → n < length tree.rows
    → HasFluxSizes (get_or outlines n d).area (get_or outlines n d).r (base_of tree n)
outline_sizes tree outlines n d t h =
    let sums : List Sums = sums_in t.plane t.of_plane.connect in
    let none : Sums = sums_over t.plane [] in
    let trees : AreTheTrees tree (sums_in t.plane t.of_plane.connect) = trees_sums tree outlines t in
    subst (λ (o : Outline). HasFluxSizes o.area o.r (base_of tree n))
    (sym (outline_read outlines sums n d none t.of_plane.outlines_are (omega (arith, outlines_rows tree outlines t))))
    (flux_numbers tree sums n (get_or sums n none) trees (slice_get-get_or sums n none (omega (arith, trees_rows tree sums trees))))

pub outlined_flux : (r : Raster) (connect : Connect) (tree : ComponentTree) (outlines : List Outline) (n : ℕ) (d : Outline) → tree ≡ tree_of r connect
    → outlines ≡ outlines_in r connect → n < length tree.rows
    → (get_or outlines n d).r -ℤ base_of tree n *ℤ pos (get_or outlines n d).area ≡ flux_of r connect n
outlined_flux r connect tree outlines n d e f h =
    ap (λ (o : Outline). o.r -ℤ base_of tree n *ℤ pos o.area)
    (outline_read outlines (sums_in r connect) n d (sums_over r []) f (omega (arith, ap length f, length-map (sums_in r connect) outline_of, inside)))
    ∙ flux-is r connect tree (sums_in r connect) n (get_or (sums_in r connect) n (sums_over r [])) e refl
    (slice_get-get_or (sums_in r connect) n (sums_over r []) inside)
  where
    inside : n < length (sums_in r connect)
    inside = omega (arith, ap (λ (t : ComponentTree). length t.rows) e, length-rows r connect, length-sums_in r connect)

pub outlined_flux_not_negative : (tree : ComponentTree) (outlines : List Outline) (n : ℕ) (d : Outline) → AreOutlinesOfTree tree outlines → n < length tree.rows
    → pos 0 ≤ℤ ((get_or outlines n d).r -ℤ base_of tree n *ℤ pos (get_or outlines n d).area)
outlined_flux_not_negative tree outlines n d t h =
    let sums : List Sums = sums_in t.plane t.of_plane.connect in
    let none : Sums = sums_over t.plane [] in
    let trees : AreTheTrees tree (sums_in t.plane t.of_plane.connect) = trees_sums tree outlines t in
    subst (λ (o : Outline). pos 0 ≤ℤ (o.r -ℤ base_of tree n *ℤ pos o.area))
    (sym (outline_read outlines sums n d none t.of_plane.outlines_are (omega (arith, outlines_rows tree outlines t, h))))
    (flux_not_negative tree sums n (get_or sums n none) trees (slice_get-get_or sums n none (omega (arith, h, trees_rows tree sums trees))))
