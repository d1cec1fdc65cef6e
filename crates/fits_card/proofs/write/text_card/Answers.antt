use Rattle.std.proofs.Common.{◌≡◌, ◌++◌, ◌∷◌, [], ◌+◌, take, max, length, ap, ◌∙◌, rules}
use Rattle.fits_card.specs.Written.{written_text, written_value, left_justified}
use Rattle.fits_card.proofs.Writing.{text-between}
use Rattle.fits_card.proofs.write.text_card.Goals as goal

pub returns : goal.returns
unfolding written_text
returns c =
    let width : c.max-width.result ≡ max (length c.args.value.now) 8 = search rules in
    let between : take (2 + c.max-width.result) c.put-3.new.line ≡ (39 ∷ left_justified 8 c.args.value.now) ++ (39 ∷ []) =
    text-between c.args.value.now c.put.new.line c.put-2.new.line c.put-3.new.line c.max-width.result c.requires.short width c.put.ensures c.put-2.ensures
    c.put-3.ensures in
    c.value_card.ensures ∙ ap (written_value c.args.name.now) between
