use Rattle.std.proofs.Common.{◌∙◌}
use Rattle.tile_join.specs.declared.tiles.TileCatalogue.{TileCatalogue}
use Rattle.tile_file.proofs.Apart.{in_line, behind_primary, map_ahead, behind_map, all_parts}
use Rattle.tile_file.proofs.reading.split_tile.Goals as goal

pub returns-in_default-clause-none : goal.returns-in_default-clause-none
returns-in_default-clause-none c = λ tile rest fits is. c.in_default.ensures.none _ (is ∙ in_line tile rest)

pub returns-in_default-2-clause-none : goal.returns-in_default-2-clause-none
returns-in_default-2-clause-none c =
    let none = rw c.in_default-2.is at c.in_ok-front.ensures.none in
    λ tile rest fits is.
    none tile.whole tile.window tile.core tile.open.items _ fits.boxes (behind_primary c.args.bytes.now c.in-Some.behind.now tile rest c.in-Some.ensures.some is)

pub returns-in_default-3-clause-none : goal.returns-in_default-3-clause-none
returns-in_default-3-clause-none c =
    let boxes = c.in-Some-2.front.boxes in
    let front = rw c.in-Some-2.is at c.in_ok-front.ensures.bytes in
    let fit = rw c.in-Some-2.is at c.in_ok-front.ensures.fit in
    let none = rw c.in_default-3.is at c.in_ok-middle.ensures.none in
    λ tile rest fits is.
    let ahead =
    map_ahead c.tables_are_told_apart.ensures c.maps_are_told_apart.ensures c.args.bytes.now c.in-Some.behind.now c.in-Some-2.front.rest.now boxes.whole
    boxes.window boxes.core boxes.open.items tile rest c.in-Some.ensures.some front fit fits is in
    none tile.map.items _ ahead.1 ahead.0

pub returns-in_default-4-clause-none : goal.returns-in_default-4-clause-none
returns-in_default-4-clause-none c =
    let boxes = c.in-Some-2.front.boxes in
    let front = rw c.in-Some-2.is at c.in_ok-front.ensures.bytes in
    let fit = rw c.in-Some-2.is at c.in_ok-front.ensures.fit in
    let middle = rw c.in-Some-3.is at c.in_ok-middle.ensures.bytes in
    let numbers_fit = rw c.in-Some-3.is at c.in_ok-middle.ensures.fit in
    let none = rw c.in_default-4.is at c.in_ok-back.ensures.none in
    λ tile rest fits is.
    none tile.rows.items rest fits.rows
    (behind_map c.tables_are_told_apart.ensures c.maps_are_told_apart.ensures c.args.bytes.now c.in-Some.behind.now c.in-Some-2.front.rest.now
    c.in-Some-3.middle.rest.now c.in-Some-3.middle.numbers.items boxes.whole boxes.window boxes.core boxes.open.items tile rest c.in-Some.ensures.some front
    fit middle numbers_fit fits is)

pub returns-clause-bytes : goal.returns-clause-bytes
returns-clause-bytes c =
    let boxes = c.in-Some-2.front.boxes in
    let tile : TileCatalogue =
    record {
      whole = boxes.whole;
      window = boxes.window;
      core = boxes.core;
      «open» = boxes.open;
      rows = c.in-Some-4.back.rows;
      map = c.in-Some-3.middle.numbers;
    } in
    let front = rw c.in-Some-2.is at c.in_ok-front.ensures.bytes in
    let middle = rw c.in-Some-3.is at c.in_ok-middle.ensures.bytes in
    let back = rw c.in-Some-4.is at c.in_ok-back.ensures.bytes in
    all_parts tile c.args.bytes.now c.in-Some.behind.now c.in-Some-2.front.rest.now c.in-Some-3.middle.rest.now c.in-Some-4.back.rest.now
    c.in-Some.ensures.some front middle back
