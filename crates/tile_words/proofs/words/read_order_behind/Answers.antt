use Rattle.std.proofs.Common.{◌∙◌}
use Rattle.tile_words.proofs.Orders.{behind_is}
use Rattle.tile_words.proofs.words.read_order_behind.Goals as goal

pub returns-clause-order : goal.returns-clause-order
returns-clause-order c = c.read_order_within.ensures.order ∙ behind_is c.args.most c.args.count c.args.words.now c.min-front.result c.min-front.ensures
