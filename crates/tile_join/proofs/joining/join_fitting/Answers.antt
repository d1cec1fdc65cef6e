use Rattle.tile_join.proofs.Images.{joinable_of_join, said_of_none}
use Rattle.tile_join.proofs.joining.join_fitting.Goals as goal

pub returns-in_ok-zeros-in-None-clause-joinable : goal.returns-in_ok-zeros-in-None-clause-joinable
returns-in_ok-zeros-in-None-clause-joinable c =
    joinable_of_join c.args.whole c.args.tiles.now c.join_covering.result c.requires.fit c.requires.known
    (said_of_none c.in_ok-fault.field-0 _ _ c.in-None.is c.in_ok-fault.ensures) c.join_covering.ensures.distinct
