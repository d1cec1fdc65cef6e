use Rattle.std.proofs.Common.{◌∷◌, ◌++◌, [], arith, rules, sym}
use Rattle.std.proofs.lemmas.List.{length-map}
use Rattle.command_line.specs.Lines.{texts}
use Rattle.survey_core.proofs.Wording.{onward_next, fault_at, all_read, some_words}
use Rattle.survey_core.proofs.words.fault_among.Goals as goal

pub loop-at-preserved : goal.loop-at-preserved
loop-at-preserved c =
    let words = texts c.args.words.now in
    record {
      within = omega (arith, c.width-at.ensures, c.in-Ok.ensures.inside);
      before = c.loop-at.invariant.before ++ c.in-Ok.command ∷ [];
      rest =
          rw c.width-at.ensures (onward_next words c.loop-at.invariant.before c.loop-at.at c.in-Ok.command
          (sym c.in-Ok.ensures.front) c.loop-at.invariant.rest);
    }

pub returns-in-Err-clause-fault : goal.returns-in-Err-clause-fault
returns-in-Err-clause-fault c =
    fault_at (texts c.args.words.now) c.loop-at.invariant.before c.loop-at.at c.in-Err.behind _ (some_words c.args.words.now c.loop-at.at c.loop-at-test.true)
    (sym c.in-Err.ensures.front)
    c.loop-at.invariant.rest (omega arith)

pub returns-clause-fault : goal.returns-clause-fault
returns-clause-fault c =
    all_read (texts c.args.words.now) c.loop-at.invariant.before c.loop-at.at (some_words c.args.words.now 0 (search rules))
    (omega (arith, c.loop-at-test.false, length-map c.args.words.now (λ w. w.now))) c.loop-at.invariant.rest
