use Rattle.std.proofs.Common.{arith, ℕ, List}
use Rattle.std.proofs.lemmas.List.{length-map}
use denote.Ref.{Bor}
use Rattle.command_line.specs.Lines.{texts}
use Rattle.orders.proofs.FewOptions.{few_read}
use Rattle.orders.proofs.Places.{nothing_read, all_read}
use Rattle.orders.proofs.words.pairs_read.Goals as goal

pub loop-pairs-init : goal.loop-pairs-init
loop-pairs-init c = record { read = nothing_read c.args.most c.args.command c.args.words.now c.requires; few = omega arith }

pub loop-pairs-preserved : goal.loop-pairs-preserved
loop-pairs-preserved c = record { read = c.in_default.ensures.told; few = few_read c.args.most c.args.command (texts c.args.words.now) _ c.in_default.ensures.told }

pub returns-clause-told : goal.returns-clause-told
returns-clause-told c = all_read c.args.most c.args.command c.args.words.now c.loop-pairs.pairs c.loop-pairs.invariant.read c.loop-pairs-test.false

pub returns-clause-there : goal.returns-clause-there
returns-clause-there c = omega (arith, c.loop-pairs.invariant.read.whole, length-map c.args.words.now (λ (w : Bor (List ℕ)). w.now))
