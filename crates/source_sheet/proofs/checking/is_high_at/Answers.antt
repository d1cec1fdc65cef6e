use Rattle.std.proofs.Common.{◌∙◌, ◌+◌, ◌*◌, ℤ, sym, ap, rules, w64}
use Rattle.std.proofs.lemmas.Int.{to_z-of_z}
use Rattle.comp_tree.specs.declared.shape.Shape.{Shape}
use Rattle.comp_tree.specs.Raster.{is_at_least}
use Rattle.source_sheet.specs.Laid.{windows_of}
use Rattle.source_sheet.proofs.Copies.{high_there, in_whole-row}
use Rattle.source_sheet.proofs.checking.is_high_at.Goals as goal

pub returns : goal.returns
returns c = λ k.
    c.is_at_least.ensures
    ∙ ap (λ (h : ℤ). is_at_least c.args.sheet.now h c.pixel_at-there.result) (to_z-of_z w64 c.args.choice.now.threshold (search rules))
    ∙ high_there c.args.sheet.now c.args.choice.now.threshold (windows_of c.args.place.now).to
    (c.args.row * c.args.place.now.shape.width + c.args.column) c.pixel_at-there.result
    (in_whole-row c.args.sheet.now.shape.width (windows_of c.args.place.now).to c.args.row c.args.column c.requires.column
    ∙ ap (λ (x : Shape). (c.args.row + c.args.place.now.to_top) * x.width + (c.args.column + c.args.place.now.to_left)) (sym c.shape.ensures.same)
    ∙ sym c.pixel_at-there.ensures.is) k
