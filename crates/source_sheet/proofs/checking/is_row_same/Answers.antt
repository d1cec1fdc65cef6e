use Rattle.std.proofs.Common.{◌∙◌, ◌<◌, sym, ap, arith}
use Rattle.comp_tree.specs.Raster.{value_at}
use Rattle.source_sheet.specs.Laid.{windows_of}
use Rattle.source_sheet.proofs.Around.{row_none, row_more, row_up_to}
use Rattle.source_sheet.proofs.Copies.{row_pixel}
use Rattle.source_sheet.proofs.checking.is_row_same.Goals as goal

pub get-requires : goal.get-requires
get-requires c =
    (row_pixel c.args.plane.now c.shape.result (windows_of c.args.place.now).from c.args.row c.loop-column.column c.pixel_at-from.result
    c.shape.ensures.same c.shape.ensures.pixels c.requires.placed.from c.requires.row (omega (arith, c.loop-column-test.true, c.requires.end))
    c.pixel_at-from.ensures.is).0

pub get-requires-in-loop-column : goal.get-requires-in-loop-column
get-requires-in-loop-column c =
    (row_pixel c.args.sheet.now c.shape-2.result (windows_of c.args.place.now).to c.args.row c.loop-column.column c.pixel_at-to.result
    c.shape-2.ensures.same c.shape-2.ensures.pixels c.requires.placed.to c.requires.row (omega (arith, c.loop-column-test.true, c.requires.end))
    c.pixel_at-to.ensures.is).0

pub loop-column-init : goal.loop-column-init
loop-column-init c = row_none c.args.plane.now c.args.sheet.now (windows_of c.args.place.now) c.args.row c.args.first _ (omega arith)

pub loop-column-preserved : goal.loop-column-preserved
loop-column-preserved c =
    let inside : c.loop-column.column < c.args.place.now.shape.width = omega (arith, c.loop-column-test.true, c.requires.end) in
    let from : _ =
    row_pixel c.args.plane.now c.shape.result (windows_of c.args.place.now).from c.args.row c.loop-column.column c.pixel_at-from.result
    c.shape.ensures.same c.shape.ensures.pixels c.requires.placed.from c.requires.row inside c.pixel_at-from.ensures.is in
    let to : _ =
    row_pixel c.args.sheet.now c.shape-2.result (windows_of c.args.place.now).to c.args.row c.loop-column.column c.pixel_at-to.result
    c.shape-2.ensures.same c.shape-2.ensures.pixels c.requires.placed.to c.requires.row inside c.pixel_at-to.ensures.is in
    row_more c.args.plane.now c.args.sheet.now (windows_of c.args.place.now) c.args.row c.args.first c.loop-column.column c.loop-column.invariant
    (ap (value_at c.args.plane.now.values) (sym from.1) ∙ sym c.get.ensures.value ∙ c.is_same.ensures c.if-not-is_same.false
    ∙ c.get-in-loop-column.ensures.value ∙ ap (value_at c.args.sheet.now.values) to.1)

pub returns : goal.returns
returns c = λ _.
    row_up_to c.args.plane.now c.args.sheet.now (windows_of c.args.place.now) c.args.row c.args.first c.loop-column.column c.args.end
    (omega (arith, c.loop-column-test.false)) c.loop-column.invariant
