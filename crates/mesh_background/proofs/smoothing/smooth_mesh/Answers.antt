use Rattle.std.proofs.Common.{rules, ◌∙◌, arith}
use Rattle.std.proofs.lemmas.Int.{to_z-of_z}
use mir.Syntax.{w64}
use mir.Val.{SFits}
use Rattle.mesh_background.proofs.Around.{filtered-next, filtered-from, filtered-all}
use Rattle.mesh_background.proofs.smoothing.smooth_mesh.Goals as goal

pub loop-cell-preserved : goal.loop-cell-preserved
loop-cell-preserved c =
    let fits : SFits w64 c.unwrap_or.result = search rules in
    filtered-next c.args.values.now c.loop-cell.smooth.items c.push.new.self.items c.args.columns c.args.rows c.loop-cell.cell _ c.loop-cell.invariant
    c.in_ok-push.ensures.items
    (to_z-of_z w64 c.unwrap_or.result fits
    ∙ filtered-from c.args.values.now c.deref_mut.result.now c.args.columns c.args.rows c.loop-cell.cell c.lower_median.result c.unwrap_or.result
    (c.deref_mut.ensures.value ∙ c.in_ok-gather_around.ensures) c.lower_median.ensures c.unwrap_or.ensures)

pub returns : goal.returns
returns c =
    filtered-all c.args.values.now c.loop-cell.smooth.items c.args.columns c.args.rows c.loop-cell.cell (omega arith) c.loop-cell.invariant
