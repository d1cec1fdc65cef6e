use Rattle.std.proofs.Common.{refl, arith, ◌≡◌, ◌≤◌, ◌+◌, ◌/◌, ◌%◌}
use Rattle.source_pick.specs.Sheets.{taken_back}
use Rattle.source_sheet.proofs.Spots.{IsBack, back_from, back_few}
use Rattle.source_sheet.proofs.back.back.Goals as goal

pub overflow_add-row : goal.overflow_add-row
overflow_add-row c =
    let b : IsBack c.args.whole c.args.onto c.args.place.now c.args.p = back_from c.args.whole c.args.onto c.args.place.now c.args.p c.requires.placed c.requires.lies in
    let y : c.args.p / c.args.onto.width ≤ 65535 = b.few_rows in
    let t : c.args.place.now.top ≤ 65535 = b.top in
    record { fits = omega (arith, y, t) }

pub overflow_sub-row : goal.overflow_sub-row
overflow_sub-row c =
    let b : IsBack c.args.whole c.args.onto c.args.place.now c.args.p = back_from c.args.whole c.args.onto c.args.place.now c.args.p c.requires.placed c.requires.lies in
    let y : c.args.p / c.args.onto.width ≡ b.it / c.args.place.now.shape.width + c.args.place.now.to_top = b.row in
    omega (arith, y)

pub overflow_sub-column : goal.overflow_sub-column
overflow_sub-column c =
    let b : IsBack c.args.whole c.args.onto c.args.place.now c.args.p = back_from c.args.whole c.args.onto c.args.place.now c.args.p c.requires.placed c.requires.lies in
    let x : c.args.p % c.args.onto.width ≡ b.it % c.args.place.now.shape.width + c.args.place.now.to_left = b.column in
    omega (arith, x)

pub overflow_mul-result : goal.overflow_mul-result
overflow_mul-result c =
    let b : IsBack c.args.whole c.args.onto c.args.place.now c.args.p = back_from c.args.whole c.args.onto c.args.place.now c.args.p c.requires.placed c.requires.lies in
    let l = back_few c.args.whole c.args.onto c.args.place.now c.args.p b in
    record { fits = omega (arith, l) }

pub overflow_add-result : goal.overflow_add-result
overflow_add-result c =
    let b : IsBack c.args.whole c.args.onto c.args.place.now c.args.p = back_from c.args.whole c.args.onto c.args.place.now c.args.p c.requires.placed c.requires.lies in
    let l = back_few c.args.whole c.args.onto c.args.place.now c.args.p b in
    record { fits = omega (arith, l) }

pub returns : goal.returns
unfolding taken_back
returns c = λ s h. refl
