use Rattle.std.proofs.Common.{◌∙◌, ◌-◌, ℕ, List, [], ap, sym, arith}
use Rattle.std.proofs.lemmas.List.{get_or_past, length-map}
use denote.Ref.{Bor}
use Rattle.command_line.specs.Lines.{texts}
use Rattle.command_line.proofs.Exported.{text_at}
use Rattle.orders.specs.Words.{word_at}
use Rattle.tile_words.proofs.places.word_of.Goals as goal

pub returns-in-Some : goal.returns-in-Some
unfolding word_at
returns-in-Some c =
    let found = c.in-Some.ensures.lookup in
    ap (λ (w : Bor (List ℕ)). w.now) (found.3.1 c.in-Some.word.now) ∙ text_at c.args.words.now (c.args.place - 1) c.in-Some.word.now found.3.0

pub returns-in-None : goal.returns-in-None
unfolding word_at
returns-in-None c =
    sym (get_or_past (texts c.args.words.now) (c.args.place - 1) [] (omega (arith, c.in-None.ensures.lookup.3, length-map c.args.words.now (λ (w : Bor (List ℕ)). w.now))))
