-- Pieces that are written one behind the other: those before a place, the one there, and those after it.
use Rattle.std.proofs.Common.{◌≡◌, ◌∙◌, ℕ, ◌+◌, ◌%◌, ◌<◌, ◌≤◌, List, [], ◌++◌, get_or, length, map, take, take_all}
use Rattle.std.proofs.Common.{drop, ap, sym, subst, append_assoc, length-append, arith, Result, OnOk, OnErr}
use Rattle.std.specs.List.{concat}
use Rattle.std.proofs.lemmas.List.{get_or-map, length-map}
use Rattle.std.specs.declared.option.Option.{Option}
use denote.Ref.{Bor}
use Rattle.dev_io.specs.Streams.{AppendsPrefix, PutAppends}
use Rattle.dev_io.specs.Laws.{AppendsPrefix-more}
use Rattle.dev_io.specs.Blocks.{Moves, Moves-after, Moves-cut, Moves-flushed}
use Rattle.command_line.specs.Lines.{texts}
use Rattle.lemmas.proofs.Exported.{concat-more, concat-split}

pub piece_short : (xss : List (List ℕ)) (i most : ℕ) (x : List ℕ) → i < length xss → x ≡ get_or xss i [] → length (concat xss) ≤ most → length x ≤ most
piece_short xss i most x h is few =
    omega (
      arith,
      ap length is,
      ap length (concat-split xss i h),
      length-append (concat (take i xss)) (get_or xss i [] ++ concat (drop (i + 1) xss)),
      length-append (get_or xss i []) (concat (drop (i + 1) xss)),
    )

pub waiting : (a b c : Option (List ℕ)) (start : List ℕ) (xss : List (List ℕ)) (v w : List ℕ) (i : ℕ) (x : List ℕ) → i < length xss → x ≡ get_or xss i []
    → Moves a b (start ++ concat (take i xss)) v → Moves b c (v ++ x) w → Moves a c (start ++ concat (take (i + 1) xss)) w
waiting a b c start xss v w i x h is before here =
    let more : (start ++ concat (take i xss)) ++ x ≡ start ++ concat (take (i + 1) xss) =
    append_assoc start (concat (take i xss)) x ∙ ap (λ l. start ++ (concat (take i xss) ++ l)) is ∙ ap (λ l. start ++ l) (sym (concat-more xss i h)) in
    subst (λ l. Moves a c l w) more (Moves-after a b c (start ++ concat (take i xss)) x v w before here)

pub waiting_cut : (a b c : Option (List ℕ)) (start : List ℕ) (xss : List (List ℕ)) (v : List ℕ) (i : ℕ) (x : List ℕ) → i < length xss → x ≡ get_or xss i []
    → Moves a b (start ++ concat (take i xss)) v → AppendsPrefix b c (v ++ x) → AppendsPrefix a c (start ++ concat xss)
waiting_cut a b c start xss v i x h is before here =
    let rest = concat (drop (i + 1) xss) in
    let all : ((start ++ concat (take i xss)) ++ x) ++ rest ≡ start ++ concat xss =
    append_assoc (start ++ concat (take i xss)) x rest ∙ append_assoc start (concat (take i xss)) (x ++ rest)
    ∙ ap (λ l. start ++ (concat (take i xss) ++ (l ++ rest))) is ∙ ap (λ l. start ++ l) (sym (concat-split xss i h)) in
    subst (AppendsPrefix a c) all
    (AppendsPrefix-more a c ((start ++ concat (take i xss)) ++ x) rest (Moves-cut a b c (start ++ concat (take i xss)) x v before here))

-- what wasn't put is what whole blocks leave over
left_over : (v s x w : ℕ) → v % 2880 ≡ s % 2880 → w ≡ (v + x) % 2880 → w % 2880 ≡ (s + x) % 2880
left_over v s x w before here = omega arith

pub whole_more : (start : ℕ) (xss : List (List ℕ)) (v w i : ℕ) (x : List ℕ) → i < length xss → x ≡ get_or xss i []
    → v % 2880 ≡ (start + length (concat (take i xss))) % 2880 → w ≡ (v + length x) % 2880
    → w % 2880 ≡ (start + length (concat (take (i + 1) xss))) % 2880
whole_more start xss v w i x h is before here =
    let more : start + length (concat (take (i + 1) xss)) ≡ start + length (concat (take i xss)) + length x =
    omega (arith, ap length (concat-more xss i h), length-append (concat (take i xss)) (get_or xss i []), ap length is) in
    left_over v (start + length (concat (take i xss))) (length x) w before here ∙ ap (λ n. n % 2880) (sym more)

pub line_flushed : {T E : Type 0} (a b c : Option (List ℕ)) (r : Result T E) (start xs v w : List ℕ) → start ≡ [] → Moves a b (start ++ xs) v
    → OnOk r (Moves b c v w) → OnOk r (w ≡ []) → OnErr r (AppendsPrefix b c v) → PutAppends a c r xs
line_flushed a b c r start xs v w empty moved ok done err = Moves-flushed a b c r xs v w (subst (λ l. Moves a b (l ++ xs) v) empty moved) ok done err

pub text_at : (pieces : List (Bor (List ℕ))) (i : ℕ) (d : Bor (List ℕ)) → i < length pieces → (get_or pieces i d).now ≡ get_or (texts pieces) i []
text_at pieces i d h = sym (get_or-map (λ (piece : Bor (List ℕ)). piece.now) pieces i d [] h)

-- a line is that of the item at its place
pub line_is : {X : Type 0} (line : X → List ℕ) (xs : List X) (i : ℕ) (d : X) → i < length xs → line (get_or xs i d) ≡ get_or (map line xs) i []
line_is line xs i d h = sym (get_or-map line xs i d [] h)

pub text_in : (pieces : List (Bor (List ℕ))) (i : ℕ) → i < length pieces → i < length (texts pieces)
text_in pieces i h = omega (arith, length-map pieces (λ (piece : Bor (List ℕ)). piece.now))

pub line_in : {X : Type 0} (line : X → List ℕ) (xs : List X) (i : ℕ) → i < length xs → i < length (map line xs)
line_in line xs i h = omega (arith, length-map xs line)

-- all lines stand in the sink or wait
pub all_lines : {X : Type 0} (a b : Option (List ℕ)) (start : List ℕ) (line : X → List ℕ) (xs : List X) (v : List ℕ) (i : ℕ) → length xs ≤ i
    → Moves a b (start ++ concat (take i (map line xs))) v → Moves a b (start ++ concat (map line xs)) v
all_lines a b start line xs v i h moved =
    subst (λ l. Moves a b (start ++ concat l) v) (take_all i (map line xs) (omega (arith, length-map xs line))) moved

pub put_again : {T E : Type 0} (a b : Option (List ℕ)) (r : Result T E) (xs ys : List ℕ) → xs ≡ ys → PutAppends a b r xs → PutAppends a b r ys
put_again a b r xs ys same put = subst (λ (l : List ℕ). PutAppends a b r l) same put
