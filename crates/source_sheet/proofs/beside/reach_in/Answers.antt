use Rattle.std.proofs.Common.{subst, arith}
use Rattle.std.specs.Prelude.{IsTrue}
use Rattle.comp_tree.specs.declared.shape.Connect.{Connect}
use Rattle.comp_tree.specs.Grid.{distance, are_linked}
use Rattle.source_sheet.proofs.Around.{linked_near, linked_above}
use Rattle.source_sheet.proofs.beside.reach_in.Goals as goal

pub returns-then-own-row-clause-near : goal.returns-then-own-row-clause-near
returns-then-own-row-clause-near c = λ a b k. let near : _ = linked_near c.args.connect a b c.args.own c.args.row k in (near.0, near.1)

pub returns-else-own-row-clause-near : goal.returns-else-own-row-clause-near
returns-else-own-row-clause-near c = λ a b k.
    let same : _ =
    linked_above a b c.args.own c.args.row (λ e. absurd (omega (arith, c.if-own-row.false, e)))
    (subst (λ (x : Connect). IsTrue (are_linked x (distance a b) (distance c.args.own c.args.row))) c.in-Four.is k) in
    (omega (arith, same.0), omega (arith, same.1))

pub returns-in-Eight-clause-near : goal.returns-in-Eight-clause-near
returns-in-Eight-clause-near c = λ a b k. let near : _ = linked_near c.args.connect a b c.args.own c.args.row k in (near.0, near.1)
