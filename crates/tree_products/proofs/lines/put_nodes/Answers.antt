use Rattle.std.proofs.Common.{List, ℕ, subst}
use Rattle.dev_io.specs.Streams.{PutAppends}
use Rattle.tree_products.proofs.NodeLines.{between_all}
use Rattle.tree_products.proofs.lines.put_nodes.Goals as goal

pub returns-clause-bytes : goal.returns-clause-bytes
returns-clause-bytes g c =
    subst (λ (l : List ℕ). PutAppends (g.O.Sink.written c.args.sink.now) (g.O.Sink.written c.put_lines.new.sink) c.put_lines.result l)
    (between_all c.args.rows.now c.args.areas.now) c.put_lines.ensures.bytes
