use Rattle.std.proofs.Common.{◌≡◌, ◌-◌, drop, Err, sym, ap, subst, ◌∙◌}
use Rattle.std.specs.Prelude.{IsOk}
use Rattle.command_line.specs.Lines.{texts}
use Rattle.survey_core.specs.Commands.{file_words, some_commands}
use Rattle.survey_core.proofs.Wording.{texts_behind, fault_behind, none_behind}
use Rattle.survey_core.proofs.words.word_at_fault.Goals as goal

pub returns-in-Some : goal.returns-in-Some
returns-in-Some c =
    let words = texts c.args.words.now in
    let behind = ap texts c.command_words.ensures ∙ texts_behind c.args.words.now (file_words words) in
    let here : some_commands (drop (file_words words) words) ≡ Err (c.in-Some.usage.word - 1) = ap some_commands (sym behind) ∙ c.in-Some.ensures.fault.0 in
    rw c.file_words.ensures.count (fault_behind words c.in-Some.usage.word here c.in-Some.ensures.fault.1)

pub returns-in-None : goal.returns-in-None
returns-in-None c =
    let words = texts c.args.words.now in
    let behind = ap texts c.command_words.ensures ∙ texts_behind c.args.words.now (file_words words) in
    none_behind words (subst (λ ws. IsOk (some_commands ws)) behind c.in-None.ensures.fault)
