use Rattle.source_sheet.specs.Groups.{HasLookedAtFirst}
use Rattle.source_sheet.proofs.groups.mark_high.Given as goal

abbrev pub invariant-loop-b : goal.invariant-loop-b
invariant-loop-b l = HasLookedAtFirst l.plane l.choice.threshold l.near l.b-index l.fn.marks l.fn.pixels.items l.marks l.pixels.items
