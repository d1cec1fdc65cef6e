use Rattle.std.proofs.Common.{◌≡◌, length, subst, ℕ, arith}
use Rattle.std.proofs.lemmas.Option.{slice_get-get_or}
use Rattle.source_sheet.specs.Groups.{HasLookedAtFirst}
use Rattle.source_sheet.proofs.Grouping.{first_none, first_more}
use Rattle.source_sheet.proofs.groups.mark_high.Goals as goal

pub loop-b-init : goal.loop-b-init
loop-b-init c = first_none _ _ _ _ _

pub loop-b-preserved : goal.loop-b-preserved
loop-b-preserved c =
    first_more c.args.plane.now c.args.choice.now.threshold c.args.near.now c.loop-b.b-index _ c.args.marks.now c.args.pixels.now.items c.loop-b.marks
    c.loop-b.pixels.items c.mark.new.marks c.mark.new.pixels.items c.loop-b.invariant (slice_get-get_or c.args.near.now c.loop-b.b-index 0 c.loop-b-test.true)
    c.in_ok-mark.ensures

pub returns : goal.returns
returns c =
    let all : c.loop-b.b-index ≡ length c.args.near.now = omega (arith, c.loop-b-test.false, c.loop-b.auto.b-index-end) in
    subst (λ (n : ℕ). HasLookedAtFirst c.args.plane.now c.args.choice.now.threshold c.args.near.now n c.args.marks.now c.args.pixels.now.items c.loop-b.marks
    c.loop-b.pixels.items) all c.loop-b.invariant
