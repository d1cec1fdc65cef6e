use Rattle.std.proofs.Common.{sym, subst, List, ℕ}
use Rattle.std.specs.Prelude.{Option, IfErr}
use Rattle.survey_core.specs.declared.words.Command.{Command}
use Rattle.survey_core.specs.declared.words.Command.TheVariants.{Add, Drop, List as Listing, Brightest}
use Rattle.survey_core.specs.Sessions.{effect}
use Rattle.survey_core.specs.Steps.{Cause}
use Rattle.survey_core.specs.Carrying.{Step, SettledBy}
use Rattle.survey_core.proofs.Stepping.{cause_at}
use Rattle.survey_core.proofs.top.carry_out.Goals as goal

pub returns-in-Add-clause-told : goal.returns-in-Add-clause-told
returns-in-Add-clause-told g c = λ bytes e ts told.
    subst (λ (x : Command). Step (effect bytes ts x) x bytes ts (g.S.Source.left c.add.new.input) (g.K.Keeper.tables c.add.new.keeper)
    (g.O.Sink.written c.args.output.now) (g.O.Sink.written c.args.output.now) c.add.result)
    (sym c.in-Add.is) (c.add.ensures.told bytes e ts told (g.O.Sink.written c.args.output.now))

pub returns-in-Drop-clause-told : goal.returns-in-Drop-clause-told
returns-in-Drop-clause-told g c = λ bytes e ts told.
    subst (λ (x : Command). Step (effect bytes ts x) x bytes ts (g.S.Source.left c.args.input.now) (g.K.Keeper.tables c.remove.new.keeper)
    (g.O.Sink.written c.args.output.now) (g.O.Sink.written c.args.output.now) c.remove.result)
    (sym c.in-Drop.is)
    (subst (λ (l : Option (List ℕ)). Step (effect bytes ts (Drop c.in-Drop.field)) (Drop c.in-Drop.field) bytes ts l (g.K.Keeper.tables c.remove.new.keeper)
    (g.O.Sink.written c.args.output.now) (g.O.Sink.written c.args.output.now) c.remove.result)
    (sym e) (c.remove.ensures.told bytes ts told (g.O.Sink.written c.args.output.now)))

pub returns-in-List-clause-told : goal.returns-in-List-clause-told
returns-in-List-clause-told g c = λ bytes e ts told.
    subst (λ (x : Command). Step (effect bytes ts x) x bytes ts (g.S.Source.left c.args.input.now) (g.K.Keeper.tables c.list.new.keeper)
    (g.O.Sink.written c.args.output.now) (g.O.Sink.written c.list.new.output) c.list.result)
    (sym c.in-List.is)
    (subst (λ (l : Option (List ℕ)). Step (effect bytes ts Listing) Listing bytes ts l (g.K.Keeper.tables c.list.new.keeper)
    (g.O.Sink.written c.args.output.now) (g.O.Sink.written c.list.new.output) c.list.result)
    (sym e) (c.list.ensures.told bytes ts told))

pub returns-in-Brightest-clause-told : goal.returns-in-Brightest-clause-told
returns-in-Brightest-clause-told g c = λ bytes e ts told.
    subst (λ (x : Command). Step (effect bytes ts x) x bytes ts (g.S.Source.left c.args.input.now) (g.K.Keeper.tables c.brightest.new.keeper)
    (g.O.Sink.written c.args.output.now) (g.O.Sink.written c.brightest.new.output) c.brightest.result)
    (sym c.in-Brightest.is)
    (subst (λ (l : Option (List ℕ)). Step (effect bytes ts (Brightest c.in-Brightest.most)) (Brightest c.in-Brightest.most) bytes ts l
    (g.K.Keeper.tables c.brightest.new.keeper) (g.O.Sink.written c.args.output.now) (g.O.Sink.written c.brightest.new.output) c.brightest.result)
    (sym e) (c.brightest.ensures.told bytes ts told))

pub returns-in-Add-clause-cause : goal.returns-in-Add-clause-cause
returns-in-Add-clause-cause g c =
    subst
    (λ (x : Command). IfErr c.add.result (Cause x (g.S.Source.faults c.args.input.now) (g.S.Source.faults c.add.new.input)
    (g.O.Sink.faults c.args.output.now) (g.O.Sink.faults c.args.output.now) (g.K.Keeper.faults c.args.keeper.now) (g.K.Keeper.faults c.add.new.keeper)))
    (sym c.in-Add.is)
    (cause_at c.add.result (λ stop n. Cause (Add c.in-Add.field) (g.S.Source.faults c.args.input.now) (g.S.Source.faults c.add.new.input) n n
    (g.K.Keeper.faults c.args.keeper.now) (g.K.Keeper.faults c.add.new.keeper) stop) (g.O.Sink.faults c.args.output.now) c.add.ensures.cause)

pub returns-in-Add-clause-settled : goal.returns-in-Add-clause-settled
returns-in-Add-clause-settled g c =
    subst
    (λ (x : Command). SettledBy x (g.O.Sink.settled c.args.output.now) (g.O.Sink.settled c.args.output.now) c.add.result)
    (sym c.in-Add.is) (c.add.ensures.settled (g.O.Sink.settled c.args.output.now))

pub returns-in-Drop-clause-cause : goal.returns-in-Drop-clause-cause
returns-in-Drop-clause-cause g c =
    subst
    (λ (x : Command). IfErr c.remove.result (Cause x (g.S.Source.faults c.args.input.now) (g.S.Source.faults c.args.input.now)
    (g.O.Sink.faults c.args.output.now) (g.O.Sink.faults c.args.output.now) (g.K.Keeper.faults c.args.keeper.now) (g.K.Keeper.faults c.remove.new.keeper)))
    (sym c.in-Drop.is)
    (cause_at c.remove.result (λ stop n. Cause (Drop c.in-Drop.field) (g.S.Source.faults c.args.input.now) (g.S.Source.faults c.args.input.now) n n
    (g.K.Keeper.faults c.args.keeper.now) (g.K.Keeper.faults c.remove.new.keeper) stop) (g.O.Sink.faults c.args.output.now)
    (cause_at c.remove.result (λ stop m. (n : ℕ) → Cause (Drop c.in-Drop.field) m m n n
    (g.K.Keeper.faults c.args.keeper.now) (g.K.Keeper.faults c.remove.new.keeper) stop) (g.S.Source.faults c.args.input.now) c.remove.ensures.cause))

pub returns-in-Drop-clause-settled : goal.returns-in-Drop-clause-settled
returns-in-Drop-clause-settled g c =
    subst
    (λ (x : Command). SettledBy x (g.O.Sink.settled c.args.output.now) (g.O.Sink.settled c.args.output.now) c.remove.result)
    (sym c.in-Drop.is) (c.remove.ensures.settled (g.O.Sink.settled c.args.output.now))

pub returns-in-List-clause-cause : goal.returns-in-List-clause-cause
returns-in-List-clause-cause g c =
    subst
    (λ (x : Command). IfErr c.list.result (Cause x (g.S.Source.faults c.args.input.now) (g.S.Source.faults c.args.input.now)
    (g.O.Sink.faults c.args.output.now) (g.O.Sink.faults c.list.new.output) (g.K.Keeper.faults c.args.keeper.now) (g.K.Keeper.faults c.list.new.keeper)))
    (sym c.in-List.is)
    (cause_at c.list.result (λ stop m. Cause Listing m m (g.O.Sink.faults c.args.output.now) (g.O.Sink.faults c.list.new.output)
    (g.K.Keeper.faults c.args.keeper.now) (g.K.Keeper.faults c.list.new.keeper) stop) (g.S.Source.faults c.args.input.now) c.list.ensures.cause)

pub returns-in-List-clause-settled : goal.returns-in-List-clause-settled
returns-in-List-clause-settled g c =
    subst
    (λ (x : Command). SettledBy x (g.O.Sink.settled c.args.output.now) (g.O.Sink.settled c.list.new.output) c.list.result)
    (sym c.in-List.is) c.list.ensures.settled

pub returns-in-Brightest-clause-cause : goal.returns-in-Brightest-clause-cause
returns-in-Brightest-clause-cause g c =
    subst
    (λ (x : Command). IfErr c.brightest.result (Cause x (g.S.Source.faults c.args.input.now) (g.S.Source.faults c.args.input.now)
    (g.O.Sink.faults c.args.output.now) (g.O.Sink.faults c.brightest.new.output) (g.K.Keeper.faults c.args.keeper.now)
    (g.K.Keeper.faults c.brightest.new.keeper)))
    (sym c.in-Brightest.is)
    (cause_at c.brightest.result (λ stop m. Cause (Brightest c.in-Brightest.most) m m (g.O.Sink.faults c.args.output.now)
    (g.O.Sink.faults c.brightest.new.output)
    (g.K.Keeper.faults c.args.keeper.now) (g.K.Keeper.faults c.brightest.new.keeper) stop) (g.S.Source.faults c.args.input.now) c.brightest.ensures.cause)

pub returns-in-Brightest-clause-settled : goal.returns-in-Brightest-clause-settled
returns-in-Brightest-clause-settled g c =
    subst
    (λ (x : Command). SettledBy x (g.O.Sink.settled c.args.output.now) (g.O.Sink.settled c.brightest.new.output) c.brightest.result)
    (sym c.in-Brightest.is) c.brightest.ensures.settled
