use Rattle.std.proofs.Common.{◌≡◌, ◌<◌, ℕ, ℤ, List, length, ◌++◌, ap, subst, ◌∙◌}
use Rattle.std.specs.List.{flat_map, range_with_len}
use Rattle.std.specs.Option.{option_to_list}
use Rattle.std.proofs.lemmas.Result.{on_ok_weaker}
use Rattle.mesh_background.specs.Mesh.{defined_values}
use Rattle.mesh_background.proofs.Gathering.{run-values}
use Rattle.mesh_background.proofs.cells.push_run.Goals as goal

pub returns-clause-pushed : goal.returns-clause-pushed
returns-clause-pushed c =
    let r = c.args.plane.now in
    let run = c.copy_pixels.new.run in
    let old : List ℤ = c.args.members.now.items in
    let long : length run ≡ length c.args.run.now = c.copy_pixels.ensures.one_each in
    let values : flat_map option_to_list run ≡ defined_values r (range_with_len c.args.first (length run)) =
    run-values r c.args.first run (λ k lt. c.copy_pixels.ensures.same k (subst (λ (n : ℕ). k < n) long lt)) in
    on_ok_weaker c.push_defined.result (λ pushed. pushed ∙ ap (λ (xs : List ℤ). old ++ xs) values
    ∙ ap (λ (n : ℕ). old ++ defined_values r (range_with_len c.args.first n)) long) c.push_defined.ensures
