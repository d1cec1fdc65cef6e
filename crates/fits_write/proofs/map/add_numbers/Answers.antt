use Rattle.std.proofs.Common.{List, ℕ, subst}
use Rattle.std.specs.Prelude.{OnOk, OnErr}
use Rattle.dev_io.specs.Streams.{AppendsPrefix}
use Rattle.fits_write.specs.Waiting.{Waits}
use Rattle.fits_write.proofs.Pieces.{bytes_are}
use Rattle.fits_write.proofs.map.add_numbers.Goals as goal

pub returns-clause-ok : goal.returns-clause-ok
returns-clause-ok g c =
    subst (λ (l : List ℕ). OnOk c.add.result (Waits (g.O.Sink.written c.args.sink.now) (g.O.Sink.written c.add.new.sink) l c.add.new.self))
    (bytes_are c.args.numbers.now _ c.args.blocks.now c.write_u32_into.ensures) c.add.ensures.ok

pub returns-clause-err : goal.returns-clause-err
returns-clause-err g c =
    subst (λ (l : List ℕ). OnErr c.add.result (AppendsPrefix (g.O.Sink.written c.args.sink.now) (g.O.Sink.written c.add.new.sink) l))
    (bytes_are c.args.numbers.now _ c.args.blocks.now c.write_u32_into.ensures) c.add.ensures.err
