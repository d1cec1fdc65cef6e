use Rattle.std.proofs.Common.{rules, ◌≡◌, ℕ, ℤ, List, Option, map, ap, sym, ◌∙◌}
use Rattle.std.specs.Prelude.{slice_get, unwrap_or}
use Rattle.std.specs.List.{range_with_len}
use Rattle.std.proofs.lemmas.Int.{to_z-of_z}
use mir.Syntax.{w64}
use mir.Val.{SFits}
use Rattle.rayon.proofs.ListFacts.{IfOk-then}
use Rattle.mesh_background.specs.Medians.{lower_median}
use Rattle.mesh_background.specs.Mesh.{cell_count, cell_pixels, defined_values}
use Rattle.mesh_background.proofs.Gathering.{filled-is}
use Rattle.mesh_background.proofs.cells.mesh_values_with.Goals as goal

pub returns : goal.returns
returns g c =
    let r = c.args.plane.now in
    let medians : List (Option ℤ) = c.deref-2.result.now in
    let kept : medians ≡ c.in_ok-medians.medians.items = c.deref-2.ensures.value in
    let same : medians ≡ c.deref.result.now = kept ∙ sym c.deref.ensures.value in
    let are : medians ≡ map (λ k. lower_median (defined_values r (cell_pixels r c.args.mesh k))) (range_with_len 0 (cell_count c.args.mesh r.shape)) =
    kept ∙ c.in_ok-medians.ensures
    ∙ ap (λ (m : ℕ). map (λ k. lower_median (defined_values r (cell_pixels r m k))) (range_with_len 0 (cell_count m r.shape))) c.of-grid.ensures.mesh in
    let fits : SFits w64 c.in_ok-otherwise.otherwise = search rules in
    IfOk-then c.filled.result _ _ c.filled.ensures (λ v is.
    filled-is c.args.empty r c.args.mesh medians c.in_ok-otherwise.otherwise v.items are
    (λ k e. c.in_ok-otherwise.ensures k (ap (λ (xs : List (Option ℤ)). slice_get xs k) (sym same) ∙ e))
    (is ∙ ap (λ (z : ℤ). map (λ m. unwrap_or m z) medians) (to_z-of_z w64 c.in_ok-otherwise.otherwise fits)))
