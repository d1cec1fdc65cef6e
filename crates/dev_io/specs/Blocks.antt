-- Model: bytes on their way to a sink through a block.
use Rattle.std.specs.Prelude.{◌≡◌, ℕ, List, [], ◌++◌, Result, Ok, Err, OnOk, OnErr}
use Rattle.std.proofs.Common.{ap, subst, sym, ◌∙◌, append_assoc, append-nil}
use Rattle.std.proofs.KnownBytes.{Appends-trans}
use Rattle.std.specs.declared.option.Option.{Option}
use Rattle.std.specs.Io.KnownBytes.{Appends}
use Rattle.dev_io.specs.Streams.{AppendsPrefix, PutAppends}
use Rattle.dev_io.specs.Laws.{AppendsPrefix-after}

-- a front of these bytes was appended, and the others wait
pub record Moves (old new : Option (List ℕ)) (bytes waiting : List ℕ) : Type 0 where
  pub sent : List ℕ
  pub appended : Appends old new sent
  pub split : bytes ≡ sent ++ waiting

-- more bytes behind those that wait
pub Moves-after : (a b c : Option (List ℕ)) (xs ys v w : List ℕ) → Moves a b xs v → Moves b c (v ++ ys) w → Moves a c (xs ++ ys) w
Moves-after a b c xs ys v w p q = record {
  sent = p.sent ++ q.sent;
  appended = Appends-trans a b c p.sent q.sent p.appended q.appended;
  split = ap (λ l. l ++ ys) p.split ∙ append_assoc p.sent v ys ∙ ap (λ l. p.sent ++ l) q.split ∙ sym (append_assoc p.sent q.sent w);
}

-- more bytes, of which only a front was appended behind those that wait
pub Moves-cut : (a b c : Option (List ℕ)) (xs ys v : List ℕ) → Moves a b xs v → AppendsPrefix b c (v ++ ys) → AppendsPrefix a c (xs ++ ys)
Moves-cut a b c xs ys v p q =
    subst (AppendsPrefix a c) (sym (ap (λ l. l ++ ys) p.split ∙ append_assoc p.sent v ys)) (AppendsPrefix-after a b c p.sent (v ++ ys) p.appended q)

-- what waited last was put or cut short
pub Moves-flushed : {T E : Type 0} (a b c : Option (List ℕ)) (r : Result T E) (xs v w : List ℕ) → Moves a b xs v
    → OnOk r (Moves b c v w) → OnOk r (w ≡ []) → OnErr r (AppendsPrefix b c v) → PutAppends a c r xs
Moves-flushed a b c (Ok x) xs v w p ok empty err =
    let all : xs ≡ p.sent ++ ok.sent = p.split ∙ ap (λ l. p.sent ++ l) (ok.split ∙ ap (λ l. ok.sent ++ l) empty ∙ append-nil ok.sent) in
    subst (Appends a c) (sym all) (Appends-trans a b c p.sent ok.sent p.appended ok.appended)
Moves-flushed a b c (Err e) xs v w p ok empty err =
    subst (AppendsPrefix a c) (sym p.split) (AppendsPrefix-after a b c p.sent v p.appended err)
