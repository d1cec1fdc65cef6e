use Rattle.std.proofs.Common.{◌≡◌, ◌∙◌, ◌<◌, ◌+◌, length, sym, subst, List, ℕ, arith}
use Rattle.source_sheet.specs.Groups.{IsFlooded, HasGrouped}
use Rattle.source_sheet.proofs.Grouping.{grouped_small, grouped_large, taken_off}
use Rattle.source_sheet.proofs.groups.add_group.Goals as goal

pub returns-then-len-start-clause-grouped : goal.returns-then-len-start-clause-grouped
returns-then-len-start-clause-grouped c = λ _.
    let f : IsFlooded c.args.plane.now c.args.connect c.args.choice.now.threshold c.args.p c.args.marks.now c.args.groups.now.pixels.items c.flood.new.marks
    c.flood.new.pixels.items = c.in_ok-flood.ensures.flooded c.if-not-branch.false in
    let start : c.len-start.result ≡ length c.args.groups.now.pixels.items = c.len-start.ensures ∙ c.args.groups.now.pixels.ok.0 in
    let small : length c.flood.new.pixels.items < length c.args.groups.now.pixels.items + c.args.choice.now.min_area =
    omega (arith, c.if-len-start.true, c.len.ensures, c.flood.new.pixels.ok.0, start) in
    subst (λ (xs : List ℕ). HasGrouped c.args.plane.now c.args.connect c.args.choice.now.threshold c.args.choice.now.min_area c.args.p c.args.marks.now
    c.flood.new.marks xs)
    (sym (c.truncate.ensures.items ∙ taken_off c.args.groups.now.pixels.items f.more.added c.flood.new.pixels.items c.len-start.result f.more.items_are start))
    (grouped_small c.args.plane.now c.args.connect c.args.choice.now.threshold c.args.choice.now.min_area c.args.p c.args.marks.now
    c.args.groups.now.pixels.items c.flood.new.marks c.flood.new.pixels.items c.requires.grouped f small)

pub returns-clause-grouped : goal.returns-clause-grouped
returns-clause-grouped c = λ _.
    grouped_large c.args.plane.now c.args.connect c.args.choice.now.threshold c.args.choice.now.min_area c.args.p c.args.marks.now
    c.args.groups.now.pixels.items c.flood.new.marks c.flood.new.pixels.items c.requires.grouped (c.in_ok-flood.ensures.flooded c.if-not-branch.false)
