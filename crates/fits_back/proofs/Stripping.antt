-- Fronts that are taken off bytes one after the other.
use Rattle.std.proofs.Common.{◌≡◌, ◌∙◌, ℕ, ◌+◌, ◌-◌, ◌%◌, ◌<◌, ◌≤◌, List, [], ◌++◌, get_or, length, replicate, take, drop, refl, sym, ap, ap₂, arith}
use Rattle.std.proofs.Common.{append_assoc, take-append-drop, nat_eq, true, false, Option, Some, None, MatchOption, Bor, subst}
use Rattle.std.proofs.Math.Seq.{take-append_seam}
use Rattle.std.proofs.lemmas.List.{append_cancel_left, take-replicate, at_drop_more, drop_all}
use Rattle.std.specs.Cmp.Lexicographic.{pointwise, same_text, other_text}
use Rattle.std.specs.List.{concat}
use Rattle.fits_write.specs.Blocks.{room_after}
use Rattle.fits_back.specs.Fronts.{BeginsNot}

-- what `strip_prefix` says of bytes
pub stripped : (bytes front : List ℕ) (r : Option (Bor (List ℕ)))
    → MatchOption r (pointwise nat_eq (take (length front) bytes) front ≡ false)
    (λ x. (pointwise nat_eq (take (length front) bytes) front ≡ true) × (x.now ≡ drop (length front) bytes) × (length x.now + length front ≡ length bytes))
    → MatchOption r (BeginsNot front bytes) (λ rest. bytes ≡ front ++ rest.now)
stripped bytes front None other = λ rest is. other_text (take (length front) bytes) front (sym other) (ap (take (length front)) is ∙ take-append_seam front rest)
stripped bytes front (Some x) same =
    sym (take-append-drop (length front) bytes) ∙ ap₂ ◌++◌ (same_text (take (length front) bytes) front (sym same.0)) (sym same.1)

-- taking a front off these bytes comes to taking what is left of it off the rest
pub record IsLeft (front left bytes rest : List ℕ) : Type 0 where
  pub forth : (behind : List ℕ) → rest ≡ left ++ behind → bytes ≡ front ++ behind
  pub back : (behind : List ℕ) → bytes ≡ front ++ behind → rest ≡ left ++ behind

pub all_left : (front bytes : List ℕ) → IsLeft front front bytes bytes
all_left front bytes = record { forth = λ behind e. e; back = λ behind e. e }

pub piece_off : (front piece left bytes rest next : List ℕ) → IsLeft front (piece ++ left) bytes rest → rest ≡ piece ++ next → IsLeft front left bytes next
piece_off front piece left bytes rest next h e = record {
  forth = λ behind f. h.forth behind (e ∙ ap (λ l. piece ++ l) f ∙ sym (append_assoc piece left behind));
  back = λ behind f. append_cancel_left piece next (left ++ behind) (sym e ∙ h.back behind f ∙ append_assoc piece left behind);
}

pub piece_missing : (front piece left bytes rest : List ℕ) → IsLeft front (piece ++ left) bytes rest → BeginsNot piece rest → BeginsNot front bytes
piece_missing front piece left bytes rest h missing = λ behind f. missing (left ++ behind) (h.back behind f ∙ append_assoc piece left behind)

pub none_left : (front bytes rest : List ℕ) → IsLeft front [] bytes rest → bytes ≡ front ++ rest
none_left front bytes rest h = h.forth rest refl

-- ---- a list of pieces, one behind the other

pieces_left : (pieces : List (List ℕ)) (i : ℕ) → i < length pieces → concat (drop i pieces) ≡ get_or pieces i [] ++ concat (drop (i + 1) pieces)
pieces_left pieces i h = at_drop_more concat pieces i [] h

pub next_off : (pieces : List (List ℕ)) (i : ℕ) (bytes rest next : List ℕ) → i < length pieces → IsLeft (concat pieces) (concat (drop i pieces)) bytes rest
    → rest ≡ get_or pieces i [] ++ next → IsLeft (concat pieces) (concat (drop (i + 1) pieces)) bytes next
next_off pieces i bytes rest next h left e =
    piece_off (concat pieces) (get_or pieces i []) (concat (drop (i + 1) pieces)) bytes rest next
    (subst (λ l. IsLeft (concat pieces) l bytes rest) (pieces_left pieces i h) left) e

pub next_missing : (pieces : List (List ℕ)) (i : ℕ) (bytes rest : List ℕ) → i < length pieces → IsLeft (concat pieces) (concat (drop i pieces)) bytes rest
    → BeginsNot (get_or pieces i []) rest → BeginsNot (concat pieces) bytes
next_missing pieces i bytes rest h left missing =
    piece_missing (concat pieces) (get_or pieces i []) (concat (drop (i + 1) pieces)) bytes rest
    (subst (λ l. IsLeft (concat pieces) l bytes rest) (pieces_left pieces i h) left) missing

pub pieces_off : (pieces : List (List ℕ)) (i : ℕ) (bytes rest : List ℕ) → length pieces ≤ i → IsLeft (concat pieces) (concat (drop i pieces)) bytes rest
    → bytes ≡ concat pieces ++ rest
pieces_off pieces i bytes rest h left =
    none_left (concat pieces) bytes rest (subst (λ l. IsLeft (concat pieces) (concat l) bytes rest) (drop_all i pieces h) left)

-- ---- what fills a block. Its size is a variable here, so that no list of so many bytes is written out.

copies : (size len byte : ℕ) → size ≡ 2880 → take ((size - len % size) % size) (replicate size byte) ≡ replicate (room_after len) byte
unfolding room_after
copies size len byte e =
    let few : (size - len % size) % size ≤ size = omega (arith, e) in
    take-replicate ((size - len % size) % size) size byte few ∙ ap (λ k. replicate ((k - len % k) % k) byte) e

pub fill_stripped : (size len byte : ℕ) (bytes : List ℕ) (r : Option (Bor (List ℕ))) → size ≡ 2880
    → MatchOption r (BeginsNot (take ((size - len % size) % size) (replicate size byte)) bytes)
    (λ rest. bytes ≡ take ((size - len % size) % size) (replicate size byte) ++ rest.now)
    → MatchOption r (BeginsNot (replicate (room_after len) byte) bytes) (λ rest. bytes ≡ replicate (room_after len) byte ++ rest.now)
fill_stripped size len byte bytes r e h = subst (λ l. MatchOption r (BeginsNot l bytes) (λ rest. bytes ≡ l ++ rest.now)) (copies size len byte e) h
