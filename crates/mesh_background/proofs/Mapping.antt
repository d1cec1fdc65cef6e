-- What a map over numbers gave, where each answer may be an error.
use Rattle.std.proofs.Common.{◌≡◌, ℕ, List, [], ◌∷◌, map, refl, ap, ◌∙◌, subst, Vec, Global}
use Rattle.std.specs.Prelude.{Result, Ok, Err, IfOk, MatchResult, Contains}
use Rattle.std.specs.List.{AllZip}

-- the answers are all right, and each is what f gives of its number
abbrev pub Gives : {X E : Type 0} → (ℕ → X) → ℕ → Result X E → Type 0
Gives f n r = IfOk r (λ x. x ≡ f n)

all_right : {X : Type 0} (E : Type 0) (f : ℕ → X) (ns : List ℕ) (ys : List X) → AllZip (Gives {X = X} {E = E} f) ns (map Ok ys) → ys ≡ map f ns
all_right E f [] [] h = refl
all_right E f [] (y ∷ ys) h = absurd h
all_right E f (n ∷ ns) [] h = absurd h
all_right {X = X} E f (n ∷ ns) (y ∷ ys) h = ap (λ (x : X). x ∷ ys) h.0 ∙ ap (λ (xs : List X). f n ∷ xs) (all_right E f ns ys h.1)

pub collected : {X E : Type 0} (f : ℕ → X) (ns : List ℕ) (rs : List (Result X E)) (answer : Result (Vec X Global) E) → AllZip (Gives f) ns rs
    → MatchResult answer (λ v. (ys : List X) × (rs ≡ map Ok ys) × (v.items ≡ ys)) (λ e. Contains rs (Err e)) → IfOk answer (λ v. v.items ≡ map f ns)
collected {X = X} {E = E} f ns rs (Ok v) h k = k.2 ∙ all_right E f ns k.0 (subst (λ (xs : List (Result X E)). AllZip (Gives f) ns xs) k.1 h)
collected f ns rs (Err e) h k = tt
