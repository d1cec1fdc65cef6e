use Rattle.std.proofs.Common.{◌∙◌, sym, w32, w64, to_z, of_z, arith, ◌≡◌}
use Rattle.std.proofs.lemmas.Int.{ints}
use Rattle.comp_tree.specs.Limits.{IsWithin}
use Rattle.comp_tree.specs.Numbers.{most_short}
use Rattle.comp_tree.proofs.Values.{pixel_of-undefined_short, pixel_of-short}
use Rattle.comp_tree.proofs.pixel.ShortPixel.of.Goals as goal

pub returns-in-Some : goal.returns-in-Some
returns-in-Some c =
    let within : IsWithin most_short c.in-Some.number = rw c.in-Some.is at c.requires in
    let low : _ = within.low in
    let high : _ = within.high in
    let same : to_z w32 (of_z w32 (to_z w64 (of_z w64 c.in-Some.number))) ≡ c.in-Some.number = omega (arith, ints) in
    rw same (pixel_of-short c.in-Some.number within ∙ sym c.in-Some.is)

pub returns-in-None : goal.returns-in-None
returns-in-None c = pixel_of-undefined_short ∙ sym c.in-None.is
