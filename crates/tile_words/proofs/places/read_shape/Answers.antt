use Rattle.std.proofs.Common.{sym, refl}
use Rattle.std.specs.Prelude.{Some, None}
use Rattle.command_line.specs.Lines.{texts}
use Rattle.tile_words.proofs.Faults.{width_at_fault, height_at_fault, shape_read}
use Rattle.tile_words.proofs.places.read_shape.Goals as goal

pub returns-in_default : goal.returns-in_default
returns-in_default c = width_at_fault (texts c.args.words.now) c.args.first (sym c.in_default.ensures)

pub returns-in_default-side_in : goal.returns-in_default-side_in
returns-in_default-side_in c =
    height_at_fault (texts c.args.words.now) c.args.first c.in-Some.width None (sym c.in-Some.ensures) (sym c.in_default-side_in.ensures) refl

pub returns-in-Some-shape_with : goal.returns-in-Some-shape_with
returns-in-Some-shape_with c =
    shape_read (texts c.args.words.now) c.args.first c.in-Some.width c.in-Some-side_in.height c.in-Some-shape_with.shape (sym c.in-Some.ensures)
    (sym c.in-Some-side_in.ensures) (sym c.in-Some-shape_with.ensures)

pub returns-in-None : goal.returns-in-None
returns-in-None c =
    height_at_fault (texts c.args.words.now) c.args.first c.in-Some.width (Some c.in-Some-side_in.height) (sym c.in-Some.ensures)
    (sym c.in-Some-side_in.ensures) (sym c.in-None.ensures)
