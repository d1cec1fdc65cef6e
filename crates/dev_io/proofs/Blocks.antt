-- Bytes that were cut in two at the room that was left.
use Rattle.std.proofs.Common.{◌≡◌, ℕ, List, ◌++◌, take, drop, ap, subst, ◌∙◌, append_assoc, take-append-drop, Result, Ok, Err, OnErr}
use Rattle.std.specs.declared.option.Option.{Option}
use Rattle.dev_io.specs.Streams.{AppendsPrefix}
use Rattle.dev_io.specs.Laws.{AppendsPrefix-more}

-- a front of those up to the cut is a front of all
pub cut_before_rest : {T E : Type 0} (r : Result T E) (a b : Option (List ℕ)) (waiting bytes front rest : List ℕ) (n : ℕ) → front ≡ take n bytes
    → rest ≡ drop n bytes
    → AppendsPrefix a b (waiting ++ front) → OnErr r (AppendsPrefix a b (waiting ++ bytes))
cut_before_rest (Ok x) a b waiting bytes front rest n before after p = tt
cut_before_rest (Err e) a b waiting bytes front rest n before after p =
    let all : front ++ rest ≡ bytes = ap (λ l. l ++ rest) before ∙ ap (λ l. take n bytes ++ l) after ∙ take-append-drop n bytes in
    subst (AppendsPrefix a b) (append_assoc waiting front rest ∙ ap (λ l. waiting ++ l) all) (AppendsPrefix-more a b (waiting ++ front) rest p)
