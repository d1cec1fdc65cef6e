use Rattle.std.proofs.Common.{◌∙◌, ◌-◌, SFits, w64, to_z-of_z, rules, ap, sym}
use Rattle.std.specs.List.{list_any, range_with_len}
use Rattle.comp_tree.specs.Raster.{is_at_least}
use Rattle.source_sheet.proofs.Grouping.{passed_over}
use Rattle.source_sheet.proofs.groups.look_at_piece.Goals as goal

pub returns-then-not-any_at_least-clause-before : goal.returns-then-not-any_at_least-clause-before
returns-then-not-any_at_least-clause-before c = λ _.
    let fits : SFits w64 c.args.choice.now.threshold = search rules in
    passed_over c.args.plane.now c.args.connect c.args.choice.now.threshold c.args.choice.now.min_area c.args.first c.args.end c.args.marks.now
    c.args.groups.now.pixels.items c.requires.before
    (ap (λ h. list_any (is_at_least c.args.plane.now h) (range_with_len c.args.first (c.args.end - c.args.first))) (sym (to_z-of_z fits))
    ∙ sym c.any_at_least.ensures ∙ c.if-not-any_at_least.true)
