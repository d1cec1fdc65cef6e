use Rattle.std.proofs.Common.{◌≡◌, ◌*◌, ◌%◌, ◌∙◌, ap, subst}
use Rattle.std.specs.Prelude.{None}
use Rattle.std.proofs.lemmas.Result.{on_ok_weaker}
use Rattle.comp_tree.specs.declared.shape.Shape.{Shape}
use Rattle.comp_tree.specs.Raster.{Raster, IsPlane}
use Rattle.mesh_background.proofs.Lessening.{lessened-all}
use Rattle.mesh_background.proofs.Bands.{band-of, band-within, numbers-known, pixel-lessened}
use Rattle.mesh_background.proofs.subtraction.subtract_by_bands.Goals as goal

pub change_bands-requires-clause-accepts : goal.change_bands-requires-clause-accepts
change_bands-requires-clause-accepts g c = λ κs within start p chunk.
    let grid = c.args.grid.now in
    let r : Raster = c.args.plane.now in
    let plane : IsPlane r = c.shape.ensures.pixels ∙ ap (λ (s : Shape). s.width * s.height) c.shape.ensures.same in
    let rows : c.band_size-size.result % r.shape.width ≡ 0 =
    subst (λ (s : Shape). c.band_size-size.result % s.width ≡ 0) c.shape.ensures.same c.band_size-size.ensures.whole_rows in (
      band-of r grid.shape c.band_size-size.result start p.now c.requires.shape plane c.requires.in_range rows chunk,
      numbers-known c.args.empty r grid.shape grid.mesh c.args.flat c.args.numbers.now c.requires.shape c.requires.in_range c.requires.given c.requires.numbers,
    )

pub change_bands-requires-clause-within : goal.change_bands-requires-clause-within
change_bands-requires-clause-within g c = λ κs within start band after chunk less.
    let grid = c.args.grid.now in
    let r : Raster = c.args.plane.now in
    band-within c.args.empty c.most_left-most.result r grid.mesh grid.shape c.args.flat c.args.numbers.now c.band_size-size.result start band.now after.now grid.some
    c.most_left-most.ensures.half c.most_left-most.ensures.given c.requires.numbers chunk less

pub returns-clause-subtracted : goal.returns-clause-subtracted
returns-clause-subtracted g c = on_ok_weaker c.change_bands.result (λ changed.
    let grid = c.args.grid.now in
    let r : Raster = c.args.plane.now in
    let plane : IsPlane r = c.shape.ensures.pixels ∙ ap (λ (s : Shape). s.width * s.height) c.shape.ensures.same in
    lessened-all c.args.empty r c.change_bands.new.self grid.mesh c.args.flat c.args.numbers.now grid.some r.shape.within_limits.some_columns plane c.requires.numbers
    c.change_bands.ensures.shape c.change_bands.ensures.one_each
    (λ p lt. let in_chunk = (changed p None lt).1 in
    pixel-lessened r.values c.change_bands.new.self.values in_chunk.argument.now in_chunk.after_call.now grid.shape r.shape grid.mesh c.args.flat
    c.args.numbers.now in_chunk.start in_chunk.offset p c.requires.shape in_chunk.start_plus_offset in_chunk.offset_in_chunk in_chunk.old_element
    in_chunk.new_element in_chunk.call)) c.change_bands.ensures.changed
