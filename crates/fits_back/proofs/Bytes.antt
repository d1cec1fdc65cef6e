-- Lists of bytes, and the numbers that they write.
use Rattle.std.proofs.Common.{◌≡◌, ◌∙◌, ℕ, zero, suc, ◌+◌, ◌*◌, ◌/◌, ◌^◌, ◌<◌, ◌≤◌, List, [], ◌∷◌, ◌++◌, get_or, length, map, take, drop, refl, sym, ap, ap₂}
use Rattle.std.proofs.Common.{subst, arith, append-nil}
use Rattle.std.proofs.Math.Nat.{mod-lt}
use Rattle.std.proofs.lemmas.Nat.{div-mul-add}
use Rattle.std.proofs.lemmas.List.{get_or-drop, length-take-le}
use Rattle.std.specs.List.{concat}
use Rattle.std.specs.Int.{byte_at}
use Rattle.byteorder.specs.Endian.{big_from, big_number, big_bytes}
use Rattle.byteorder.specs.Numbers.{big_from-cons, big_from-lt, big_from-take, length-bytes_high_first, big_number-reads_back}

-- each item is a byte
abbrev pub AreBytes : List ℕ → Type 0
AreBytes xs = (k : ℕ) → get_or xs k 0 < 256

pub bytes-append : (xs ys : List ℕ) → AreBytes xs → AreBytes ys → AreBytes (xs ++ ys)
bytes-append [] ys front back k = back k
bytes-append (x ∷ xs) ys front back zero = front 0
bytes-append (x ∷ xs) ys front back (suc k) = bytes-append xs ys (λ j. front (suc j)) back k

pub bytes-take : (n : ℕ) (xs : List ℕ) → AreBytes xs → AreBytes (take n xs)
bytes-take zero xs are k = omega arith
bytes-take (suc n) [] are k = omega arith
bytes-take (suc n) (x ∷ xs) are zero = are 0
bytes-take (suc n) (x ∷ xs) are (suc k) = bytes-take n xs (λ j. are (suc j)) k

pub bytes-drop : (n : ℕ) (xs : List ℕ) → AreBytes xs → AreBytes (drop n xs)
bytes-drop n xs are k = subst (λ (b : ℕ). b < 256) (sym (get_or-drop n xs k 0)) (are (n + k))

pub bytes-concat : {X : Type 0} (f : X → List ℕ) (xs : List X) → ((x : X) → AreBytes (f x)) → AreBytes (concat (map f xs))
bytes-concat f [] each k = omega arith
bytes-concat f (x ∷ xs) each k = bytes-append (f x) (concat (map f xs)) (each x) (bytes-concat f xs each) k

-- the front of bytes, and what stands behind it, are bytes
pub bytes_before : (front rest : List ℕ) → AreBytes (front ++ rest) → AreBytes front
bytes_before [] rest are k = omega arith
bytes_before (x ∷ front) rest are zero = are 0
bytes_before (x ∷ front) rest are (suc k) = bytes_before front rest (λ j. are (suc j)) k

pub bytes_behind : (front rest : List ℕ) → AreBytes (front ++ rest) → AreBytes rest
bytes_behind [] rest are k = are k
bytes_behind (x ∷ front) rest are k = bytes_behind front rest (λ j. are (suc j)) k

-- the bytes of a number are bytes
byte_below : (n x : ℕ) → byte_at n x < 256
byte_below zero x = mod-lt x (omega arith)
byte_below (suc n) x = mod-lt (x / 256 ^ suc n) (omega arith)

pub bytes_of_number : (n x : ℕ) → AreBytes (big_bytes n x)
bytes_of_number zero x k = omega arith
bytes_of_number (suc n) x zero = byte_below n x
bytes_of_number (suc n) x (suc k) = bytes_of_number n x k

-- ---- as many bytes that write the same number are the same

first_same : (c x y r s : ℕ) → r < c → s < c → x * c + r ≡ y * c + s → x ≡ y
first_same c x y r s small less e = sym (div-mul-add x c r small) ∙ ap (λ (k : ℕ). k / c) e ∙ div-mul-add y c s less

pub number_tells : (n : ℕ) (a b : List ℕ) → length a ≡ n → length b ≡ n → AreBytes a → AreBytes b → big_number n a ≡ big_number n b → a ≡ b
number_tells zero [] [] la lb are been e = refl
number_tells zero [] (y ∷ b) la lb are been e = absurd (omega arith)
number_tells zero (x ∷ a) b la lb are been e = absurd (omega arith)
number_tells (suc n) [] b la lb are been e = absurd (omega arith)
number_tells (suc n) (x ∷ a) [] la lb are been e = absurd (omega arith)
number_tells (suc n) (x ∷ a) (y ∷ b) la lb are been e =
    let r = big_from 0 n a in
    let s = big_from 0 n b in
    let small : r < 256 ^ n = big_from-lt 0 n a (λ k. are (suc k)) in
    let less : s < 256 ^ n = big_from-lt 0 n b (λ k. been (suc k)) in
    let both : x * 256 ^ n + r ≡ y * 256 ^ n + s = ap (λ (k : ℕ). x * 256 ^ n + k) (sym (big_from-cons 0 n x a)) ∙ e ∙ ap (λ (k : ℕ). y * 256 ^ n + k) (big_from-cons 0 n y b) in
    let first : x ≡ y = first_same (256 ^ n) x y r s small less both in
    let same : x * 256 ^ n ≡ y * 256 ^ n = ap (λ (k : ℕ). k * 256 ^ n) first in
    let others : r ≡ s = omega (arith, both, same) in
    ap₂ ◌∷◌ first (number_tells n a b (omega arith) (omega arith) (λ k. are (suc k)) (λ k. been (suc k)) others)

-- the bytes of the number that stands at the front of bytes
pub number_written : (n : ℕ) (xs : List ℕ) → n ≤ length xs → AreBytes xs → big_bytes n (big_number n xs) ≡ take n xs
number_written n xs enough are =
    let x = big_number n xs in
    let fits : x < 256 ^ n = big_from-lt 0 n xs are in
    let back : big_number n (big_bytes n x) ≡ x =
    ap (big_number n) (sym (append-nil (big_bytes n x))) ∙ big_number-reads_back n x [] fits in
    let front : big_number n (take n xs) ≡ x = big_from-take 0 n n xs (omega arith) in
    number_tells n (big_bytes n x) (take n xs) (length-bytes_high_first n x) (length-take-le n xs enough) (bytes_of_number n x) (bytes-take n xs are) (back ∙ sym front)

-- ---- lists that begin with as many items

pub parts_same : {X : Type 0} (a b : List X) (c d : List X) → length a ≡ length b → a ++ c ≡ b ++ d → (a ≡ b) × (c ≡ d)
parts_same [] [] c d l e = (refl, e)
parts_same [] (y ∷ b) c d l e = absurd (omega arith)
parts_same (x ∷ a) [] c d l e = absurd (omega arith)
parts_same (x ∷ a) (y ∷ b) c d l e =
    let first : x ≡ y = cc in
    let later : a ++ c ≡ b ++ d = cc in
    let rest = parts_same a b c d (omega arith) later in
    (ap₂ ◌∷◌ first rest.0, rest.1)
