use Rattle.std.proofs.Common.{ℕ, ℤ, ◌+◌, ◌*◌, ap, ◌++◌, ◌∙◌, refl, List}
use Rattle.std.specs.Prelude.{Option}
use Rattle.mesh_background.specs.Lessened.{level_of}
use Rattle.mesh_background.proofs.Bands.{IsCut, half-row, cut-lessened}
use Rattle.mesh_background.proofs.subtraction.lessen_nth_row.Goals as goal

pub lessen_row-requires-clause-in_range : goal.lessen_row-requires-clause-in_range
lessen_row-requires-clause-in_range c =
    half-row c.args.band.now c.split_at_mut-rest.result.0.now c.split_at_mut-row.result.0.now c.split_at_mut-row.result.1.now c.args.first
    c.args.grid.now.shape.width cut c.requires.in_range
  where
    cut : IsCut c.args.band.now c.args.first c.args.grid.now.shape.width c.split_at_mut-rest.result.0.now c.split_at_mut-row.result.0.now
        c.split_at_mut-row.result.1.now
    cut = record {
      is = c.split_at_mut-rest.ensures.value
          ∙ ap (λ (xs : List (Option ℤ)). c.split_at_mut-rest.result.0.now ++ xs) c.split_at_mut-row.ensures.value;
      before = c.split_at_mut-rest.ensures.front_len;
      wide = c.split_at_mut-row.ensures.front_len;
    }

pub returns : goal.returns
returns c =
    let by : ℕ → ℤ = λ x. level_of c.args.flat c.args.grid.now.mesh c.args.grid.now.shape c.args.numbers.now (c.args.y * c.args.grid.now.shape.width + x) in
    let cut : IsCut c.args.band.now c.args.first c.args.grid.now.shape.width c.split_at_mut-rest.result.0.now c.split_at_mut-row.result.0.now
    c.split_at_mut-row.result.1.now = record {
      is = c.split_at_mut-rest.ensures.value
          ∙ ap (λ (xs : List (Option ℤ)). c.split_at_mut-rest.result.0.now ++ xs) c.split_at_mut-row.ensures.value;
      before = c.split_at_mut-rest.ensures.front_len;
      wide = c.split_at_mut-row.ensures.front_len;
    } in
    cut-lessened c.args.band.now _ c.split_at_mut-rest.result.0.now c.split_at_mut-row.result.0.now c.split_at_mut-row.result.1.now c.lessen_row.new.row by
    c.args.first c.args.grid.now.shape.width cut refl c.lessen_row.ensures
