use Rattle.source_pick.proofs.Windows.{each_source_is_a_tiles, own_sources_are_the_wholes, own_sources_are_distinct}
use Rattle.source_pick.proofs.WindowsTiling.{tiles_give_the_catalogue}
use Rattle.source_pick.proofs.laws.sources_of_tiles.Goals as goal

pub returns : goal.returns
returns c =
    record { each = each_source_is_a_tiles; own = own_sources_are_the_wholes; distinct = own_sources_are_distinct; catalogue = tiles_give_the_catalogue }
