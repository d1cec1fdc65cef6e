use Rattle.tile_file.proofs.Apart.{tiles_apart, tile_files_apart}
use Rattle.tile_file.proofs.laws.tiles_are_told_apart.Goals as goal

pub returns-clause-one : goal.returns-clause-one
returns-clause-one c = tiles_apart c.tables_are_told_apart.ensures c.maps_are_told_apart.ensures

pub returns-clause-all : goal.returns-clause-all
returns-clause-all c = tile_files_apart c.tables_are_told_apart.ensures c.maps_are_told_apart.ensures
