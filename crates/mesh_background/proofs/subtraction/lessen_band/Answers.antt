use Rattle.std.proofs.Common.{ℕ, ℤ, ◌+◌, ◌*◌, arith}
use Rattle.mesh_background.specs.Lessened.{level_of}
use Rattle.mesh_background.proofs.Lessening.{half_from-later}
use Rattle.mesh_background.proofs.Bands.{row-below, band-none, band-next}
use Rattle.mesh_background.proofs.subtraction.lessen_band.Goals as goal

pub lessen_nth_row-requires-clause-row : goal.lessen_nth_row-requires-clause-row
lessen_nth_row-requires-clause-row c =
    let shape = c.args.grid.now.shape in
    row-below shape.width shape.height c.args.start _ c.loop-row.row shape.within_limits.some_columns c.requires.band.whole_start c.requires.band.whole_rows
    c.requires.band.inside c.loop-row-test.true

pub lessen_nth_row-requires-clause-in_range : goal.lessen_nth_row-requires-clause-in_range
lessen_nth_row-requires-clause-in_range c =
    let g = c.args.grid.now in
    let by : ℕ → ℤ = λ k. level_of c.args.flat g.mesh g.shape c.args.numbers.now (c.args.start + k) in
    half_from-later c.args.band.now c.loop-row.band by 0 (c.loop-row.row * g.shape.width) 0 c.requires.band.in_range c.loop-row.invariant (omega arith)

pub loop-row-init : goal.loop-row-init
loop-row-init c =
    let g = c.args.grid.now in
    let by : ℕ → ℤ = λ k. level_of c.args.flat g.mesh g.shape c.args.numbers.now (c.args.start + k) in
    band-none c.args.band.now by g.shape.width

pub loop-row-preserved : goal.loop-row-preserved
loop-row-preserved c =
    let g = c.args.grid.now in
    let level : ℕ → ℤ = λ p. level_of c.args.flat g.mesh g.shape c.args.numbers.now p in
    band-next c.args.band.now c.loop-row.band c.lessen_nth_row.new.band level g.shape.width c.args.start c.loop-row.row c.requires.band.whole_start
    c.loop-row.invariant c.lessen_nth_row.ensures
