use Rattle.std.proofs.Common.{◌∙◌, ◌+◌, ◌*◌, sym, arith}
use Rattle.std.proofs.lemmas.Bool.{true≢false}
use Rattle.source_sheet.specs.Laid.{windows_of}
use Rattle.source_sheet.proofs.Copies.{low_start, low_more}
use Rattle.source_sheet.proofs.checking.high_from.Goals as goal

pub loop-x-init : goal.loop-x-init
loop-x-init c =
    low_start c.args.sheet.now c.args.choice.now.threshold (windows_of c.args.place.now).to (c.args.row * c.args.place.now.shape.width + c.args.column)

pub loop-x-preserved : goal.loop-x-preserved
loop-x-preserved c = λ q low high k.
    low_more c.args.sheet.now c.args.choice.now.threshold (windows_of c.args.place.now).to (c.args.row * c.args.place.now.shape.width + c.args.column)
    (c.args.row * c.args.place.now.shape.width + c.loop-x.x) c.loop-x.invariant
    (λ m. true≢false (sym (c.is_high_at.ensures m) ∙ c.if-is_high_at.false)) q low (omega (arith, high)) k

pub returns-clause-low : goal.returns-clause-low
returns-clause-low c = λ q low high k. c.loop-x.invariant q low (omega (arith, high, c.loop-x-test.false)) k
