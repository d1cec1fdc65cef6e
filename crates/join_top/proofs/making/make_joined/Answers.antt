use Rattle.std.proofs.Common.{rules, ◌≡◌, List, length, subst}
use Rattle.std.specs.Prelude.{IfOk, IfErr}
use Rattle.std.specs.List.{All}
use Rattle.tree_products.specs.declared.detection.Detection.{Detection}
use Rattle.tile_join.specs.declared.tiles.TileCatalogue.{TileCatalogue}
use Rattle.tile_file.specs.TileFiles.{bytes_of_tiles, IsTileFile}
use Rattle.join_top.specs.Making.{IsWholeOf, IsJoinedDetection, IsStopOfTiles}
use Rattle.join_top.proofs.Joined.{no_tiles_in, tiles_in, output_of_tiles, image_of_tiles, writable_of_tiles, stop_of_tiles}
use Rattle.join_top.proofs.making.make_joined.Goals as goal

pub returns-in-Ok-None-clause-refused : goal.returns-in-Ok-None-clause-refused
returns-in-Ok-None-clause-refused c = λ whole tiles are.
    rw c.in-Ok-None.field-0-is at (c.in-Ok-None.ensures.none) tiles are.files are.bytes_are

pub returns-then-is_empty-clause-refused : goal.returns-then-is_empty-clause-refused
returns-then-is_empty-clause-refused c = λ whole tiles are.
    let read : c.args.bytes.items ≡ bytes_of_tiles c.in-Ok-Some.tiles.items = rw c.in-Ok-Some.field-0-is at (c.in-Ok-Some.ensures.bytes) in
    let fit : All IsTileFile c.in-Ok-Some.tiles.items = rw c.in-Ok-Some.field-0-is at (c.in-Ok-Some.ensures.fit) in
    let none : length c.in-Ok-Some.tiles.items ≡ 0 = search rules in
    no_tiles_in c.tiles_are_told_apart.ensures.all c.args.bytes.items whole c.in-Ok-Some.tiles.items tiles fit read none are

pub returns-clause-output : goal.returns-clause-output
returns-clause-output c =
    let tiles = c.in-Ok-Some.tiles.items in
    let whole = c.whole_of.result in
    let read : c.args.bytes.items ≡ bytes_of_tiles tiles = rw c.in-Ok-Some.field-0-is at (c.in-Ok-Some.ensures.bytes) in
    let fit : All IsTileFile tiles = rw c.in-Ok-Some.field-0-is at (c.in-Ok-Some.ensures.fit) in
    let first : IsWholeOf tiles whole = subst (λ (l : List TileCatalogue). IsWholeOf l whole) c.deref.ensures.value c.whole_of.ensures in
    let joined : IfOk c.join_tiles.result (λ (found : Detection). IsJoinedDetection whole tiles found.map.items found.cells.items) =
    subst (λ (l : List TileCatalogue). IfOk c.join_tiles.result (λ (found : Detection). IsJoinedDetection whole l found.map.items found.cells.items))
    c.deref-2.ensures.value c.join_tiles.ensures.joined in
    output_of_tiles c.args.bytes.items whole tiles (tiles_in c.args.bytes.items whole tiles fit read first) c.join_tiles.result c.join_tiles.ensures.shape joined

pub returns-clause-image : goal.returns-clause-image
returns-clause-image c =
    let tiles = c.in-Ok-Some.tiles.items in
    let whole = c.whole_of.result in
    let read : c.args.bytes.items ≡ bytes_of_tiles tiles = rw c.in-Ok-Some.field-0-is at (c.in-Ok-Some.ensures.bytes) in
    let fit : All IsTileFile tiles = rw c.in-Ok-Some.field-0-is at (c.in-Ok-Some.ensures.fit) in
    let first : IsWholeOf tiles whole = subst (λ (l : List TileCatalogue). IsWholeOf l whole) c.deref.ensures.value c.whole_of.ensures in
    let joined : IfOk c.join_tiles.result (λ (found : Detection). IsJoinedDetection whole tiles found.map.items found.cells.items) =
    subst (λ (l : List TileCatalogue). IfOk c.join_tiles.result (λ (found : Detection). IsJoinedDetection whole l found.map.items found.cells.items))
    c.deref-2.ensures.value c.join_tiles.ensures.joined in
    image_of_tiles c.args.bytes.items whole tiles (tiles_in c.args.bytes.items whole tiles fit read first) c.tiles_are_told_apart.ensures.all c.join_tiles.result
    c.join_tiles.ensures.shape joined

pub returns-clause-writable : goal.returns-clause-writable
returns-clause-writable c =
    let tiles = c.in-Ok-Some.tiles.items in
    let whole = c.whole_of.result in
    let read : c.args.bytes.items ≡ bytes_of_tiles tiles = rw c.in-Ok-Some.field-0-is at (c.in-Ok-Some.ensures.bytes) in
    let fit : All IsTileFile tiles = rw c.in-Ok-Some.field-0-is at (c.in-Ok-Some.ensures.fit) in
    let first : IsWholeOf tiles whole = subst (λ (l : List TileCatalogue). IsWholeOf l whole) c.deref.ensures.value c.whole_of.ensures in
    let joined : IfOk c.join_tiles.result (λ (found : Detection). IsJoinedDetection whole tiles found.map.items found.cells.items) =
    subst (λ (l : List TileCatalogue). IfOk c.join_tiles.result (λ (found : Detection). IsJoinedDetection whole l found.map.items found.cells.items))
    c.deref-2.ensures.value c.join_tiles.ensures.joined in
    writable_of_tiles c.args.bytes.items whole tiles (tiles_in c.args.bytes.items whole tiles fit read first) c.join_tiles.result c.join_tiles.ensures.shape joined

pub returns-clause-refused : goal.returns-clause-refused
returns-clause-refused c =
    let tiles = c.in-Ok-Some.tiles.items in
    let whole = c.whole_of.result in
    let read : c.args.bytes.items ≡ bytes_of_tiles tiles = rw c.in-Ok-Some.field-0-is at (c.in-Ok-Some.ensures.bytes) in
    let fit : All IsTileFile tiles = rw c.in-Ok-Some.field-0-is at (c.in-Ok-Some.ensures.fit) in
    let first : IsWholeOf tiles whole = subst (λ (l : List TileCatalogue). IsWholeOf l whole) c.deref.ensures.value c.whole_of.ensures in
    stop_of_tiles c.args.bytes.items whole tiles (tiles_in c.args.bytes.items whole tiles fit read first) c.join_tiles.result
    (subst (λ (l : List TileCatalogue). IfErr c.join_tiles.result (IsStopOfTiles whole l)) c.deref-2.ensures.value c.join_tiles.ensures.stop)
