-- A piece more is passed over.
use Rattle.std.proofs.Common.{◌≡◌, ℕ, ◌+◌, ◌-◌, ◌<◌, ◌≤◌, Bool, true, false, List, length, drop, Option, subst, arith, length-drop}
use Rattle.dev_io.specs.Streams.{Takes, TakesAtMost, Fills, Skipped}
use Rattle.dev_io.specs.Laws.{Takes-after, TakesAtMost-after}

pub skip_cut : (bytes : List ℕ) (at count left piece n : ℕ) (a b : Option (List ℕ)) (buf : List ℕ) → Takes bytes a (at + (count - left))
    → Fills (drop (at + (count - left)) bytes) b n buf → length buf ≡ piece → piece ≤ left → left ≤ count → n < piece
    → (length bytes < at + count) × Takes bytes b (length bytes)
skip_cut bytes at count left piece n a b buf takes fills long part within short =
    let all : at + (count - left) + n ≡ length bytes = omega (arith, fills.count, length-drop (at + (count - left)) bytes, takes.within) in
    (omega arith, subst (Takes bytes b) all (Takes-after bytes a b (at + (count - left)) n takes fills.takes))

pub skip_more : (bytes : List ℕ) (at count left piece n : ℕ) (a b : Option (List ℕ)) (buf : List ℕ) → Takes bytes a (at + (count - left))
    → Fills (drop (at + (count - left)) bytes) b n buf → length buf ≡ piece → piece ≤ left → left ≤ count → piece ≤ n
    → Takes bytes b (at + (count - (left - piece)))
skip_more bytes at count left piece n a b buf takes fills long part within full =
    let place : at + (count - left) + n ≡ at + (count - (left - piece)) = omega (arith, fills.count) in
    subst (Takes bytes b) place (Takes-after bytes a b (at + (count - left)) n takes fills.takes)

pub skip_lost : (bytes : List ℕ) (at count left piece : ℕ) (a b : Option (List ℕ)) (buf : List ℕ) → Takes bytes a (at + (count - left))
    → TakesAtMost (drop (at + (count - left)) bytes) b (length buf) → length buf ≡ piece → piece ≤ left → left ≤ count → TakesAtMost bytes b (at + count)
skip_lost bytes at count left piece a b buf takes lost long part within =
    let all : TakesAtMost bytes b (at + (count - left) + length buf) = TakesAtMost-after bytes a b (at + (count - left)) (length buf) takes lost in
    record { count = all.count; few = omega (arith, all.few); takes = all.takes }

pub skipped_all : (bytes : List ℕ) (at count : ℕ) (left : Option (List ℕ)) (all : Bool) → all ≡ true → Skipped bytes at count left all
    → Takes bytes left (at + count)
skipped_all bytes at count left true is skipped = skipped
skipped_all bytes at count left false is skipped = absurd (cc)

pub skipped_cut : (bytes : List ℕ) (at count : ℕ) (left : Option (List ℕ)) (all : Bool) → all ≡ false → Skipped bytes at count left all
    → (length bytes < at + count) × Takes bytes left (length bytes)
skipped_cut bytes at count left true is skipped = absurd (cc)
skipped_cut bytes at count left false is skipped = skipped
