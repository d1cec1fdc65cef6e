use Rattle.std.proofs.Common.{◌≡◌, ◌<◌, ◌≤◌, ℕ, ◌+◌, ◌-◌, ◌*◌, ◌/◌, ◌%◌, length, take, refl, ◌∙◌, arith}
use Rattle.std.proofs.lemmas.List.{length-take-le}
use Rattle.std.proofs.lemmas.Nat.{div-add-mod', mod_below}
use Rattle.std.proofs.lemmas.Result.{on_ok_weaker}
use Rattle.mesh_background.proofs.Gathering.{gathered-none, gathered-more}
use Rattle.mesh_background.proofs.cells.push_values.Goals as goal

pub loop-k-init : goal.loop-k-init
loop-k-init c = record { long = refl; gathered = gathered-none c.args.plane.now c.args.first c.args.members.now.items }

pub loop-k-preserved : goal.loop-k-preserved
loop-k-preserved c =
    let long : length c.loop-k.run ≡ 64 = c.loop-k.invariant.long in
    record {
      long = c.in_ok-push_run.ensures.one_each ∙ long;
      gathered = gathered-more c.args.plane.now c.args.first (c.loop-k.k * 64) (length c.loop-k.run) (c.args.first + c.loop-k.k * 64) ((c.loop-k.k + 1) * 64)
          c.args.members.now.items c.loop-k.members.items c.push_run.new.members.items refl (omega (arith, long)) c.loop-k.invariant.gathered
          c.in_ok-push_run.ensures.pushed;
    }

pub returns : goal.returns
returns c =
    let ordered : c.args.first ≤ c.args.end = c.requires.ordered in
    let count : ℕ = c.args.end - c.args.first in
    let rest : ℕ = count % 64 in
    let whole : count / 64 * 64 + rest ≡ count = div-add-mod' count 64 in
    let few : rest < 64 = mod_below count 64 (omega arith) in
    let k_is : c.loop-k.k ≡ count / 64 = omega (arith, c.loop-k.auto.k-end, c.loop-k-test.false) in
    let long : length c.loop-k.run ≡ 64 = c.loop-k.invariant.long in
    let taken : length (take rest c.loop-k.run) ≡ rest = length-take-le rest c.loop-k.run (omega (arith, few, long)) in
    on_ok_weaker c.push_run-2.result (λ pushed.
    gathered-more c.args.plane.now c.args.first (c.loop-k.k * 64) (length (take rest c.loop-k.run)) (c.args.end - rest) count
    c.args.members.now.items c.loop-k.members.items c.push_run-2.new.members.items (omega (arith, whole, k_is, ordered)) (omega (arith, taken, whole, k_is)) c.loop-k.invariant.gathered
    pushed) c.push_run-2.ensures.pushed
