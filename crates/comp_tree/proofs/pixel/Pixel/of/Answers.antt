use Rattle.std.proofs.Common.{◌∙◌, sym, w64, SFits, rules}
use Rattle.std.proofs.lemmas.Int.{to_z-of_z}
use Rattle.comp_tree.specs.Limits.{IsWithinRange}
use Rattle.comp_tree.proofs.Values.{pixel_of-undefined, pixel_of-in_range}
use Rattle.comp_tree.proofs.pixel.Pixel.of.Goals as goal

pub returns-in-Some : goal.returns-in-Some
returns-in-Some c =
    let fits : SFits w64 c.in-Some.number = search rules in
    let in_range : IsWithinRange c.in-Some.number = rw c.in-Some.is at c.requires in
    rw (to_z-of_z w64 c.in-Some.number fits) (pixel_of-in_range c.in-Some.number in_range ∙ sym c.in-Some.is)

pub returns-in-None : goal.returns-in-None
returns-in-None c = pixel_of-undefined ∙ sym c.in-None.is
