use Rattle.std.proofs.Common.{◌≡◌, ◌-◌, ◌<◌, ℕ, ℤ, List, map, ap, subst, ◌∙◌, arith, Vec, Global, Option}
use Rattle.std.specs.Prelude.{IfOk}
use Rattle.std.specs.List.{range_with_len}
use Rattle.rayon.specs.Numbers.{nat_range}
use Rattle.rayon.proofs.ToStd.{nat_range-All}
use Rattle.rayon.specs.declared.iter.min_len.MinLen.{MinLen}
use Rattle.rayon.specs.declared.range.Iter.{Iter}
use denote.Bor.{Bor}
use Rattle.comp_tree.specs.Raster.{Raster}
use Rattle.mesh_background.specs.declared.grid.Grid.{Grid}
use Rattle.comp_tree.specs.declared.shape.Shape.{Shape}
use Rattle.mesh_background.specs.Medians.{lower_median}
use Rattle.mesh_background.specs.Mesh.{cell_count, cell_pixels, defined_values}
use Rattle.mesh_background.proofs.Mapping.{collected}
use Rattle.mesh_background.proofs.cells.cell_medians.Goals as goal

pub collect-requires-clause-ready : goal.collect-requires-clause-ready
collect-requires-clause-ready g c κs within =
    let ends = c.into_par_iter.ensures in
    let grid = c.args.grid.now in
    let plane = c.args.plane.now in
    let count : c.cells.result ≡ cell_count grid.mesh plane.shape = c.cells.ensures.count ∙ ap (λ (s : Shape). cell_count grid.mesh s) c.requires in
    let inside =
    nat_range-All (λ k. (grid.shape ≡ plane.shape) × (k < cell_count grid.mesh plane.shape)) 0 c.cells.result (λ k low high. (c.requires, omega arith)) in
    rw (c.map.ensures.base, c.map.ensures.f, c.with_min_len.ensures.base, ends.0, ends.1) (λ k d lt. (inside k d lt, λ y p. tt))

pub returns : goal.returns
returns g c =
    let h = c.in_ok-collect.ensures in
    let ends = c.into_par_iter.ensures in
    let grid = c.args.grid.now in
    let plane = c.args.plane.now in
    let count : c.cells.result ≡ cell_count grid.mesh plane.shape = c.cells.ensures.count ∙ ap (λ (s : Shape). cell_count grid.mesh s) c.requires in
    let whole : c.cells.result - 0 ≡ cell_count grid.mesh plane.shape = omega arith in
    let places : h.1.0 ≡ range_with_len 0 (cell_count grid.mesh plane.shape) =
    h.1.1 ∙ ap (λ (m : MinLen (Iter ℕ)). nat_range m.base.start m.base.end) c.map.ensures.base
    ∙ ap (λ (it : Iter ℕ). nat_range it.start it.end) c.with_min_len.ensures.base
    ∙ ap (λ (n : ℕ). nat_range n c.into_par_iter.result.end) ends.0 ∙ ap (nat_range 0) ends.1 ∙ ap (range_with_len 0) whole in
    let called : ℕ → Option ℤ = λ k. lower_median (defined_values c.map.result.f.1.now (cell_pixels c.map.result.f.1.now c.map.result.f.2.now.mesh k)) in
    let answers : IfOk c.in_ok-collect.field-0 (λ (v : Vec (Option ℤ) Global). v.items ≡ map called h.1.0) =
    collected called h.1.0 h.0 c.in_ok-collect.field-0 h.1.2 h.2 in
    let placed : IfOk c.in_ok-collect.field-0 (λ (v : Vec (Option ℤ) Global). v.items ≡ map called (range_with_len 0 (cell_count grid.mesh plane.shape))) =
    subst (λ (ns : List ℕ). IfOk c.in_ok-collect.field-0 (λ (v : Vec (Option ℤ) Global). v.items ≡ map called ns)) places answers in
    subst (λ (t : Bor Global × Bor Raster × Bor Grid). IfOk c.in_ok-collect.field-0 (λ (v : Vec (Option ℤ) Global). v.items
    ≡ map (λ k. lower_median (defined_values t.1.now (cell_pixels t.1.now t.2.now.mesh k))) (range_with_len 0 (cell_count grid.mesh plane.shape))))
    c.map.ensures.f placed
