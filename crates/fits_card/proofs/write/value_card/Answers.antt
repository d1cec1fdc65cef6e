use Rattle.std.proofs.Common.{◌≡◌, length, rules}
use Rattle.fits_card.proofs.Writing.{value-written}
use Rattle.fits_card.proofs.write.value_card.Goals as goal

pub returns : goal.returns
returns c =
    let eight : length c.args.name.now ≡ 8 = search rules in
    value-written c.args.name.now c.args.value.now c.put.new.line c.put-2.new.line c.put-3.new.line eight c.put.ensures c.put-2.ensures c.put-3.ensures
