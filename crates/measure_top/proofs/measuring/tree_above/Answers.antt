use Rattle.std.proofs.Common.{◌≡◌, ◌∙◌, ap, subst, IfOk, w64}
use Rattle.std.proofs.lemmas.Int.{to_z-of_z}
use Rattle.comp_tree.specs.Raster.{Raster}
use Rattle.comp_tree.specs.Components.{tree_of}
use Rattle.measure_top.specs.Cuts.{cut}
use Rattle.measure_top.proofs.measuring.tree_above.Goals as goal

pub returns : goal.returns
returns g c =
    subst (λ (r : Raster). IfOk c.component_tree.result (λ tree. tree ≡ tree_of r c.args.order.connect))
    (c.compact.ensures ∙ c.cut_below.ensures ∙ ap (cut c.args.plane) (to_z-of_z w64 c.args.level c.ranges.level)) c.component_tree.ensures
