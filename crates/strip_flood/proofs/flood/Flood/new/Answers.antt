use Rattle.strip_flood.proofs.Fresh.{fresh_flood}
use Rattle.std.proofs.lemmas.Result.{IfOk-from_err}
use Rattle.strip_flood.proofs.flood.Flood.new.Goals as goal

pub returns-in_err-links : goal.returns-in_err-links
returns-in_err-links c = record { fresh = IfOk-from_err _ _ c.from_residual.ensures.0 }

pub returns-in_err-earliest : goal.returns-in_err-earliest
returns-in_err-earliest c = record { fresh = IfOk-from_err _ _ c.from_residual-in_err-earliest.ensures.0 }

pub returns-in_err-cursors : goal.returns-in_err-cursors
returns-in_err-cursors c = record { fresh = IfOk-from_err _ _ c.from_residual-in_err-cursors.ensures.0 }

pub returns-in_err-queue : goal.returns-in_err-queue
returns-in_err-queue c = record { fresh = IfOk-from_err _ _ c.from_residual-in_err-queue.ensures.0 }

pub new-requires-clause-items : goal.new-requires-clause-items
new-requires-clause-items c = c.requires.count

pub new-requires-clause-ranks : goal.new-requires-clause-ranks
new-requires-clause-ranks c = c.requires.ranks

pub returns : goal.returns
returns c = record {
  fresh = fresh_flood c.args.count c.args.ranks
      (record { queue = c.in_ok-queue.queue; cursors = c.in_ok-cursors.cursors; earliest = c.in_ok-earliest.earliest; links = c.in_ok-links.links })
      c.in_ok-queue.ensures (c.in_ok-cursors.ensures.items_if_clones_equal (λ y e. e)) c.in_ok-earliest.ensures c.in_ok-links.ensures;
}
