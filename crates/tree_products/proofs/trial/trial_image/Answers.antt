use Rattle.std.proofs.Common.{◌<◌, ◌*◌, ◌∙◌, ap, sym, refl, length, arith}
use Rattle.std.specs.Prelude.{None}
use Rattle.std.proofs.lemmas.List.{length-replicate}
use Rattle.comp_tree.specs.Raster.{Painting, raster_painted, value_at}
use Rattle.comp_tree.proofs.Exported.{written_none, written_next, written_itself}
use Rattle.tree_products.specs.Trials.{trial_image}
use Rattle.tree_products.proofs.Trials.{bytes_bounded, trial_length, trial_shape}
use Rattle.tree_products.proofs.Summaries.{value-read, value-within, state_more, value_more}
use Rattle.tree_products.proofs.trial.trial_image.Goals as goal

pub blank_within-requires : goal.blank_within-requires
blank_within-requires c = bytes_bounded (c.args.shape.width * c.args.shape.height)

pub loop-p-init : goal.loop-p-init
loop-p-init c =
    let image = trial_image c.args.seed c.args.shape in
    record {
      written = written_none image (raster_painted c.in_ok-canvas.canvas) (value_at image.values) (c.in_ok-canvas.ensures.shape ∙ sym (trial_shape c.args.seed c.args.shape))
          (ap length c.in_ok-canvas.ensures.undefined ∙ length-replicate (c.args.shape.width * c.args.shape.height) None ∙ sym
          (trial_length c.args.seed c.args.shape));
      same_most = c.in_ok-canvas.ensures.most;
      state_is = refl;
    }

pub set-requires : goal.set-requires
set-requires c = record {
  pixel = omega (arith, c.loop-p.invariant.written.one_each, trial_length c.args.seed c.args.shape, c.loop-p-test.true, c.pixels-p-end.ensures.product);
  in_range = value-within c.loop-p.canvas.most c.step-next.result _ c.loop-p.invariant.same_most c.step-next.type_inv
      (value-read c.step-next.result c.from.result c.step-next.type_inv c.from.ensures);
}

pub loop-p-preserved : goal.loop-p-preserved
loop-p-preserved c =
    let image = trial_image c.args.seed c.args.shape in
    let inside : c.loop-p.p < c.args.shape.width * c.args.shape.height = omega (arith, c.loop-p-test.true, c.pixels-p-end.ensures.product) in
    record {
      written =
          written_next image (raster_painted c.loop-p.canvas) (raster_painted c.set.new.self) (value_at image.values) c.loop-p.p _ _ c.loop-p.invariant.written
          (omega (arith, inside, trial_length c.args.seed c.args.shape))
          (value_more c.args.seed c.loop-p.p c.loop-p.state c.step-next.result c.args.shape _ c.loop-p.invariant.state_is c.step-next.ensures inside
          (value-read c.step-next.result c.from.result c.step-next.type_inv c.from.ensures)) (ap raster_painted c.set.ensures) refl;
      same_most = ap (λ (canvas : Painting). canvas.most) c.set.ensures ∙ c.loop-p.invariant.same_most;
      state_is = state_more c.args.seed c.loop-p.p c.loop-p.state c.step-next.result c.loop-p.invariant.state_is c.step-next.ensures;
    }

pub returns : goal.returns
returns c =
    c.into_plane.ensures
    ∙ written_itself (trial_image c.args.seed c.args.shape) (raster_painted c.loop-p.canvas) c.loop-p.p c.loop-p.invariant.written
    (omega (arith, trial_length c.args.seed c.args.shape, c.loop-p-test.false, c.pixels-p-end.ensures.product))
