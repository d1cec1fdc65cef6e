use Rattle.std.proofs.Common.{◌∙◌, sym}
use Rattle.tile_file.proofs.InTurn.{more_left}
use Rattle.tile_file.proofs.Apart.{no_tiles, shorter}
use Rattle.tile_file.proofs.reading.split_tiles.Goals as goal

pub returns-in_default-clause-none : goal.returns-in_default-clause-none
returns-in_default-clause-none c =
    let none = rw c.in_default.is at c.in_ok-ahead.ensures.none in
    λ tiles all is.
    no_tiles c.tiles_are_told_apart.ensures.one c.loop-rest.tiles.items tiles c.loop-rest.rest.now c.loop-rest.invariant.fit all
    (more_left c.loop-rest.rest.now c.loop-rest-test.ensures) none (sym c.loop-rest.invariant.written ∙ is)

pub loop-rest-smaller : goal.loop-rest-smaller
loop-rest-smaller c =
    let is = rw c.in-Some.is at c.in_ok-ahead.ensures.bytes in shorter c.in-Some.ahead.tile c.loop-rest.rest.now c.in-Some.ahead.rest.now is
