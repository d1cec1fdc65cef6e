use Rattle.std.proofs.Common.{arith, inl, inr}
use Rattle.comp_tree.proofs.Blocks.{place-beside}
use Rattle.comp_tree.proofs.pixels.behind_in_run.Goals as goal

pub returns-then-k-run-clause-none : goal.returns-then-k-run-clause-none
returns-then-k-run-clause-none c j low high = place-beside c.args.run j (inr (omega (arith, low, c.if-k-run.true)))

pub returns-clause-none : goal.returns-clause-none
returns-clause-none c j low high =
    place-beside c.args.run j (inl (omega (arith, low, high, c.min.ensures, c.max.ensures)))
