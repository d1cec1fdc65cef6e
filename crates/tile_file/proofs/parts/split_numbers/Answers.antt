use Rattle.tile_file.proofs.Apart.{no_numbers}
use Rattle.tile_file.proofs.parts.split_numbers.Goals as goal

pub returns-then-not-are_small-clause-none : goal.returns-then-not-are_small-clause-none
returns-then-not-are_small-clause-none c =
    let found = rw c.in-Some.is at c.in_ok-map.ensures.some in
    no_numbers c.maps_are_told_apart.ensures c.args.shape c.args.bytes.now c.in-Some.map.rest.now c.in-Some.map.numbers.items c.deref.result.now
    c.are_small.result found.0 found.1
    c.deref.ensures.value c.are_small.ensures.small c.are_small.ensures.words c.if-not-are_small.true
