use Rattle.std.proofs.Common.{rules, ◌≡◌, ◌∙◌, sym, ap, w32, SFits, to_z, of_z}
use Rattle.std.specs.Int.RustNames.{unsigned_abs}
use Rattle.std.proofs.lemmas.Int.{to_z-of_z}
use Rattle.comp_tree.specs.Numbers.{undefined_short}
use Rattle.comp_tree.proofs.Values.{pixel_of-same, pixel_of-other, within_abs_value, abs_value_least}
use Rattle.comp_tree.proofs.pixel.ShortPixel.distance.Goals as goal

pub returns-then-self-clause-within : goal.returns-then-self-clause-within
returns-then-self-clause-within c =
    let fits : SFits w32 c.self.inside.number = search rules in
    let same : c.self.inside.number ≡ undefined_short = sym (to_z-of_z w32 c.self.inside.number fits) ∙ ap (to_z w32) c.if-self.true in
    rw (sym c.self.view_is ∙ pixel_of-same undefined_short c.self.inside.number same) tt

pub returns-clause-within : goal.returns-clause-within
returns-clause-within c =
    within_abs_value c.args.self c.self.inside.number c.unsigned_abs.result
    (sym c.self.view_is ∙ pixel_of-other undefined_short c.self.inside.number (λ same. c.if-self.false (ap (of_z w32) same)))
    (c.unsigned_abs.ensures.value ∙ ap unsigned_abs (to_z-of_z w32 c.self.inside.number (search rules)))

pub returns-clause-least : goal.returns-clause-least
returns-clause-least c most within =
    abs_value_least c.args.self c.self.inside.number c.unsigned_abs.result most
    (sym c.self.view_is ∙ pixel_of-other undefined_short c.self.inside.number (λ same. c.if-self.false (ap (of_z w32) same)))
    (c.unsigned_abs.ensures.value ∙ ap unsigned_abs (to_z-of_z w32 c.self.inside.number (search rules)))
    within
