use Rattle.tile_file.proofs.CatalogueCells.{read_none, read_more, read_all}
use Rattle.tile_file.proofs.rows.rows_of.Goals as goal

pub loop-ahead-init : goal.loop-ahead-init
loop-ahead-init c = read_none c.args.table.now c.new-rows.result.items c.new-rows.ensures.items

pub loop-ahead-preserved : goal.loop-ahead-preserved
loop-ahead-preserved c =
    read_more c.args.table.now c.loop-ahead.rows.items c.push.new.self.items c.in-Some.ahead.row c.loop-ahead.rest.now c.in-Some.ahead.rest.now
    c.loop-ahead.invariant c.in-Some.ensures.some c.in_ok-push.ensures.items

pub returns : goal.returns
returns c =
    let is =
    read_all c.args.table.now c.loop-ahead.rows.items c.loop-ahead.rest.now c.loop-ahead.invariant c.requires c.in_default.ensures.none in
    record { cells = is.0; whole = is.1 }
