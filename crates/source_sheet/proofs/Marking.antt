-- Marks that are kept as bits in words of 64.
use Rattle.std.proofs.Common.{◌≡◌, ◌∙◌, ◌≢◌, ℕ, ◌*◌, ◌/◌, ◌%◌, ◌^◌, ◌<◌, ◌≤◌, true, false, List, length, sym, ap, inl, inr, arith}
use Rattle.std.proofs.Common.{bit_or, w64, get_or, set, replicate, length-set, get_or-set_same, get_or-set_other}
use Rattle.std.specs.Prelude.{◌==◌}
use Rattle.std.specs.Int.{bit_at}
use Rattle.std.proofs.lemmas.Bool.{cases_eq}
use Rattle.std.proofs.lemmas.List.{ext_get_or, get_or-replicate, length-replicate}
use Rattle.std.proofs.lemmas.List.FromFn.{get_or-map-range_with_len, length-map-range_with_len}
use Rattle.std.proofs.lemmas.Nat.Bits.{bit_at-zero, bit_at_set_same, bit_at_set_other}
use Rattle.level_queue.specs.Bits.{bit, bits_of}

pub marks_count : (words : List ℕ) (n : ℕ) → length (bits_of words n) ≡ n
marks_count words n = length-map-range_with_len (λ i. bit words i == 1) 0 n

pub mark_at : (words : List ℕ) (n p : ℕ) → p < n → get_or (bits_of words n) p false ≡ (bit words p == 1)
mark_at words n p below = get_or-map-range_with_len (λ i. bit words i == 1) 0 n p p false below (omega arith)

-- words of zeros have no mark
pub no_marks : (k n : ℕ) → n ≤ 64 * k → bits_of (replicate k 0) n ≡ replicate n false
unfolding bit
no_marks k n enough = ext_get_or false (bits_of (replicate k 0) n) (replicate n false) (count ∙ sym (length-replicate n false)) each
  where
    count : length (bits_of (replicate k 0) n) ≡ n
    count = marks_count (replicate k 0) n

    blank : (p : ℕ) → p < n → bit (replicate k 0) p ≡ 0
    blank p below = ap (λ w. bit_at w (p % 64)) (get_or-replicate k (p / 64) 0 0 (omega arith)) ∙ bit_at-zero (p % 64)

    each : (p : ℕ) → p < length (bits_of (replicate k 0) n) → get_or (bits_of (replicate k 0) n) p false ≡ get_or (replicate n false) p false
    each p inside =
        let below : p < n = omega (arith, count) in
        mark_at (replicate k 0) n p below ∙ ap (λ b. b == 1) (blank p below) ∙ sym (get_or-replicate n p false false below)

-- to set a bit is to set its mark
pub marked : (words : List ℕ) (n p : ℕ) → p < n → n ≤ 64 * length words
    → bits_of (set words (p / 64) (bit_or (get_or words (p / 64) 0) (1 * 2 ^ (p % 64) % 2 ^ 64))) n ≡ set (bits_of words n) p true
unfolding bit
marked words n p below enough = ext_get_or false (bits_of new n) (set (bits_of words n) p true) same_count each
  where
    w : ℕ
    w = bit_or (get_or words (p / 64) 0) (1 * 2 ^ (p % 64) % 2 ^ 64)

    new : List ℕ
    new = set words (p / 64) w

    inside : p / 64 < length words
    inside = omega (arith, below, enough)

    index : p % 64 < 64
    index = omega arith

    same_count : length (bits_of new n) ≡ length (set (bits_of words n) p true)
    same_count = marks_count new n ∙ sym (length-set (bits_of words n) p true ∙ marks_count words n)

    here : bit new p ≡ 1
    here = ap (λ x. bit_at x (p % 64)) (get_or-set_same words (p / 64) w 0 inside) ∙ bit_at_set_same w64 (get_or words (p / 64) 0) (p % 64) index

    others : (q : ℕ) → q ≢ p → bit new q ≡ bit words q
    others q apart =
        elim (cases_eq (q / 64) (p / 64)) [
          | inl same ↦ rw (same, get_or-set_same words (p / 64) w 0 inside)
              (bit_at_set_other w64 (get_or words (p / 64) 0) (p % 64) index (q % 64) (λ e. apart (omega (arith, same, e))))
          | inr differs ↦ ap (λ x. bit_at x (q % 64)) (get_or-set_other words (p / 64) (q / 64) w 0 differs)
        ]

    each : (q : ℕ) → q < length (bits_of new n) → get_or (bits_of new n) q false ≡ get_or (set (bits_of words n) p true) q false
    each q within =
        let q_below : q < n = omega (arith, marks_count new n) in
        let p_inside : p < length (bits_of words n) = omega (arith, marks_count words n) in
        mark_at new n q q_below
        ∙ elim (cases_eq q p) [
          | inl same ↦ rw same (ap (λ b. b == 1) here ∙ sym (get_or-set_same (bits_of words n) p true false p_inside))
          | inr apart ↦ ap (λ b. b == 1) (others q apart) ∙ sym (get_or-set_other (bits_of words n) p q true false apart ∙ mark_at words n q q_below)
        ]
