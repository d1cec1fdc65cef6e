use Rattle.std.proofs.Common.{length, ◌≢◌, get_or, arith}
use Rattle.fits_card.proofs.ValueKinds.{logical-T, logical-F, logical-other, logical-no_letter}
use Rattle.fits_card.proofs.read.logical_token.Goals as goal

pub returns-in_default : goal.returns-in_default
returns-in_default c = logical-no_letter c.args.token.now (let short : length c.args.token.now ≢ 1 = omega arith in short)

pub returns-in_default-2 : goal.returns-in_default-2
returns-in_default-2 c = logical-no_letter c.args.token.now (let long : length c.args.token.now ≢ 1 = omega arith in long)

pub returns-in-84 : goal.returns-in-84
returns-in-84 c = logical-T c.args.token.now (omega arith) c.in-84.is

pub returns-in-70 : goal.returns-in-70
returns-in-70 c = logical-F c.args.token.now (omega arith) c.in-70.is

pub returns-in_default-letter : goal.returns-in_default-letter
returns-in_default-letter c =
    let no_T : get_or c.args.token.now 0 0 ≢ 84 = omega arith in
    let no_F : get_or c.args.token.now 0 0 ≢ 70 = omega arith in
    logical-other c.args.token.now (omega arith) no_T no_F
