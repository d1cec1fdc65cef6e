use Rattle.fits_back.proofs.Headers.{no_room, no_fill, data_off}
use Rattle.fits_back.proofs.data.split_data.Goals as goal

pub returns-then-bytes-len : goal.returns-then-bytes-len
returns-then-bytes-len c = no_room c.args.bytes.now c.args.len c.if-bytes-len.true

pub returns-in_default : goal.returns-in_default
returns-in_default c = no_fill c.args.bytes.now c.split_at.result.1.now c.args.len c.split_at.ensures.back c.in_default.ensures

pub returns : goal.returns
returns c =
    data_off c.args.bytes.now c.split_at.result.0.now c.split_at.result.1.now c.in-Some.rest.now c.args.len c.split_at.ensures.front c.split_at.ensures.back
    c.split_at.ensures.front_len c.in-Some.ensures
