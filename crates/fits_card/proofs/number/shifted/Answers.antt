use Rattle.std.proofs.Common.{◌≡◌, ◌∙◌, sym, ap, ◌*◌, ◌^◌, ◌-◌, length, pos}
use mir.Val.{to_z, of_z}
use mir.Syntax.{w64}
use Rattle.std.specs.Prelude.{int_le, unsigned_abs}
use Rattle.std.specs.Str.{all_ascii_digits}
use Rattle.std.proofs.lemmas.Int.{to_z-of_z}
use Rattle.fits_card.specs.Values.{number_of, signed, fitted}
use Rattle.fits_card.proofs.Digits.{all_digits-take, all_digits-drop}
use Rattle.fits_card.proofs.Wholes.{whole-up, shifted-yes, shifted-no, number-not_zero}
use Rattle.fits_card.proofs.number.shifted.Goals as goal

pub returns-then-shift-ge0 : goal.returns-then-shift-ge0
returns-then-shift-ge0 c =
    let plain : to_z w64 (of_z w64 c.args.shift) ≡ c.args.shift = to_z-of_z w64 c.args.shift c.ranges.shift in
    c.fitted.ensures (number_of c.args.digits.now * 10 ^ c.unsigned_abs-places.result) c.raised.ensures
    ∙ ap (λ n. fitted (signed c.args.negative (number_of c.args.digits.now * 10 ^ n))) (c.unsigned_abs-places.ensures.value ∙ ap unsigned_abs plain)
    ∙ whole-up c.args.negative (number_of c.args.digits.now) c.args.shift (ap (int_le (pos 0)) (sym plain) ∙ c.if-shift-ge0.true)

pub magnitude-requires : goal.magnitude-requires
magnitude-requires c = ap all_ascii_digits c.split_at.ensures.back ∙ all_digits-drop (length c.args.digits.now - c.min-cut.result) c.args.digits.now c.requires

pub magnitude-requires-2 : goal.magnitude-requires-2
magnitude-requires-2 c =
    ap all_ascii_digits c.split_at.ensures.front ∙ all_digits-take (length c.args.digits.now - c.min-cut.result) c.args.digits.now c.requires

pub returns-in_default : goal.returns-in_default
returns-in_default c =
    let plain : to_z w64 (of_z w64 c.args.shift) ≡ c.args.shift = to_z-of_z w64 c.args.shift c.ranges.shift in
    shifted-no c.args.negative c.args.digits.now c.split_at.result.1.now c.args.shift c.unsigned_abs-places.result c.min-cut.result c.requires
    (ap (int_le (pos 0)) (sym plain) ∙ c.if-shift-ge0.false)
    (c.unsigned_abs-places.ensures.value ∙ ap unsigned_abs plain) c.min-cut.ensures c.split_at.ensures.back
    (number-not_zero (number_of c.split_at.result.1.now) c.in_default.ensures)

pub returns-then-cut_off-ne0 : goal.returns-then-cut_off-ne0
returns-then-cut_off-ne0 c =
    let plain : to_z w64 (of_z w64 c.args.shift) ≡ c.args.shift = to_z-of_z w64 c.args.shift c.ranges.shift in
    shifted-no c.args.negative c.args.digits.now c.split_at.result.1.now c.args.shift c.unsigned_abs-places.result c.min-cut.result c.requires
    (ap (int_le (pos 0)) (sym plain) ∙ c.if-shift-ge0.false)
    (c.unsigned_abs-places.ensures.value ∙ ap unsigned_abs plain) c.min-cut.ensures c.split_at.ensures.back
    (λ zero. c.if-cut_off-ne0.true (c.in-Some.ensures.1 ∙ zero))

pub returns : goal.returns
returns c =
    let plain : to_z w64 (of_z w64 c.args.shift) ≡ c.args.shift = to_z-of_z w64 c.args.shift c.ranges.shift in
    c.fitted-2.ensures (number_of c.split_at.result.0.now) c.magnitude-2.ensures
    ∙ shifted-yes c.args.negative c.args.digits.now c.split_at.result.0.now c.split_at.result.1.now c.args.shift c.unsigned_abs-places.result c.min-cut.result
    c.requires
    (ap (int_le (pos 0)) (sym plain) ∙ c.if-shift-ge0.false)
    (c.unsigned_abs-places.ensures.value ∙ ap unsigned_abs plain) c.min-cut.ensures c.split_at.ensures.front c.split_at.ensures.back
    (sym c.in-Some.ensures.1 ∙ c.if-cut_off-ne0.false)
