-- The data of an image are its pixels.
use Rattle.std.proofs.Common.{◌≡◌, ℕ, zero, suc, ◌+◌, ◌*◌, ◌≤◌, Bool, true, false, ◌&&◌, cond, min, nat_lt, List, [], ◌∷◌, length, Ok, Err, refl, sym, ◌∙◌}
use Rattle.std.proofs.Common.{subst, ap, arith, eqb, ℤ}
use Rattle.std.proofs.lemmas.Bool.{and_parts}
use Rattle.std.proofs.lemmas.Bool.Decides.{nat_tests}
use Rattle.std.specs.Prelude.{codes}
use Rattle.std.specs.List.{list_all}
use Rattle.fits_hdu.specs.declared.answer.Hdu.{Hdu}
use Rattle.fits_hdu.specs.declared.answer.Kind.TheVariants.{Image, Other}
use Rattle.fits_hdu.specs.declared.fault.HduFault.TheVariants.{NotFits, TruncatedHeader, BadKeyword, HeaderTooLong, Groups, DataTooLong, NoSuchHdu}
use Rattle.fits_hdu.specs.declared.fault.HduFault.TheVariants.{TruncatedSkip}
use Rattle.fits_hdu.specs.Sizes.{product, number_bytes, data_size}
use Rattle.fits_hdu.specs.Headers.{Found, found, refused, header_at, found_by, head_after, header_of, whole_header, header_read_to, hdu_begins, last_read}
use Rattle.fits_hdu.specs.Headers.{is_missing, is_bad, card_at, most_cards, described, judged, is_groups, most_data, kind_of, is_other, counting, count_or}
use Rattle.fits_hdu.specs.Finding.{padded, following, following_found, find_of}

-- An HDU that was found is as its header says.

record IsDescribed (hdu : Hdu) : Type 0 where
  primary : Bool
  image : Bool
  bitpix : ℤ
  axes : List ℕ
  others : List (List ℕ)
  is : hdu ≡ described primary image bitpix axes others

abbrev Says : Found → Type 0
Says (found hdu head) = IsDescribed hdu
Says (refused fault taken) = Unit {0}

judged_says : (head : ℕ) (primary image : Bool) (bitpix : ℤ) (axes : List ℕ) (others : List (List ℕ))
    → Says (found_by head (judged primary image bitpix axes others))
unfolding judged
judged_says head primary image bitpix axes others =
    by (is_groups primary axes others) (nat_lt most_data (described primary image bitpix axes others).data_bytes)
  where
    by : (a b : Bool) → Says (found_by head (cond a (Err Groups) (cond b (Err DataTooLong) (Ok (described primary image bitpix axes others)))))
    by true b = tt
    by false true = tt
    by false false = record { primary = primary; image = image; bitpix = bitpix; axes = axes; others = others; is = refl }

whole_says : (bytes : List ℕ) (hdu start j : ℕ) → Says (whole_header bytes hdu start j)
unfolding whole_header header_of
whole_says bytes hdu start j = by (nat_lt (length bytes) (head_after start j))
  where
    by : (b : Bool) → Says (cond b (refused TruncatedHeader (length bytes)) (found_by (head_after start j) (header_of (eqb hdu 0) (card_at bytes start) j)))
    by true = tt
    by false = judged_says (head_after start j) _ _ _ _ _

read_to_says : (bytes : List ℕ) (hdu start j : ℕ) → Says (header_read_to bytes hdu start j)
unfolding header_read_to
read_to_says bytes hdu start j = by (nat_lt most_cards j) (is_missing bytes start j) (is_bad (eqb hdu 0) (card_at bytes start) j)
  where
    by : (a b c : Bool)
        → Says (cond a (refused HeaderTooLong (start + 80 * most_cards))
        (cond b (refused TruncatedHeader (length bytes)) (cond c (refused (BadKeyword hdu j) (start + 80 * j)) (whole_header bytes hdu start j))))
    by true b c = tt
    by false true c = tt
    by false false true = tt
    by false false false = whole_says bytes hdu start j

header_says : (bytes : List ℕ) (hdu start : ℕ) → Says (header_at bytes hdu start)
unfolding header_at
header_says bytes hdu start = by (hdu_begins hdu bytes start)
  where
    by : (b : Bool)
        → Says (cond b (header_read_to bytes hdu start (last_read bytes hdu start))
        (refused (cond (eqb hdu 0) NotFits NoSuchHdu) (min (start + 80) (length bytes))))
    by true = read_to_says bytes hdu start (last_read bytes hdu start)
    by false = tt

following_says : (bytes : List ℕ) (hdu size head : ℕ) → Says (following bytes hdu size head)
unfolding following
following_says bytes hdu size head = by (nat_lt (length bytes) (head + size)) (nat_lt (length bytes) (head + padded size))
  where
    by : (a b : Bool)
        → Says (cond a (refused TruncatedSkip (length bytes)) (cond b (refused NoSuchHdu (length bytes)) (header_at bytes hdu (head + padded size))))
    by true b = tt
    by false true = tt
    by false false = header_says bytes hdu (head + padded size)

next_says : (bytes : List ℕ) (n : ℕ) (before : Found) → Says (following_found bytes n before)
next_says bytes n (refused fault taken) = tt
next_says bytes n (found hdu head) = following_says bytes n hdu.data_bytes head

found_says : (bytes : List ℕ) (n : ℕ) → Says (find_of bytes n)
unfolding find_of
found_says bytes zero = header_says bytes 0 0
found_says bytes (suc n) = next_says bytes (suc n) (find_of bytes n)

-- Axes that are all 1.

is_one : (n : ℕ) → eqb n 1 ≡ true → n ≡ 1
is_one n h = grind (arith, nat_tests)

product_ones : (axes : List ℕ) → list_all (λ n. eqb n 1) axes ≡ true → product axes ≡ 1
product_ones [] h = refl
product_ones (n ∷ rest) h =
    let one = is_one n (and_parts _ _ h).0 in
    let others = product_ones rest (and_parts _ _ h).1 in
    rw (one, others) refl

-- An extension that is an image has no parameters, and one group.
abbrev IsSingle : ℕ → ℕ → Type 0
IsSingle pcount gcount = (pcount ≡ 0) × (gcount ≡ 1)

single : (image : Bool) (pcount gcount : ℕ) → is_other (kind_of false image pcount gcount) ≡ false → IsSingle pcount gcount
single image pcount gcount = by (image && (eqb pcount 0 && eqb gcount 1)) refl
  where
    none : eqb pcount 0 ≡ true → pcount ≡ 0
    none h = grind (arith, nat_tests)

    by : (b : Bool) → (image && (eqb pcount 0 && eqb gcount 1)) ≡ b → is_other (cond b Image Other) ≡ false → IsSingle pcount gcount
    by true e h = let both = and_parts _ _ (and_parts _ _ e).1 in (none both.0, is_one gcount both.1)
    by false e h = absurd (cc)

flat_product : (w h : ℕ) (rest : List ℕ) → list_all (λ n. eqb n 1) rest ≡ true → product (w ∷ (h ∷ rest)) ≡ w * h
flat_product w h rest flat =
    let row : h * product rest ≡ h = ap (λ t. h * t) (product_ones rest flat) ∙ (let one : h * 1 ≡ h = omega arith in one) in
    ap (λ t. w * t) row

sized : (bitpix : ℤ) (gcount pcount pixels all : ℕ) → gcount ≡ 1 → pcount ≡ 0 → pixels ≡ all
    → number_bytes bitpix * (gcount * (pcount + pixels)) ≡ number_bytes bitpix * all
sized bitpix gcount pcount pixels all g p same =
    let alone : 1 * (0 + all) ≡ all = omega arith in
    rw (g, p, same) (ap (λ t. number_bytes bitpix * t) alone)

described_data : (primary image : Bool) (bitpix : ℤ) (axes : List ℕ) (others : List (List ℕ))
    → is_other (described primary image bitpix axes others).kind ≡ false → 2 ≤ (described primary image bitpix axes others).naxis
    → (described primary image bitpix axes others).flat ≡ true
    → (described primary image bitpix axes others).data_bytes
    ≡ number_bytes (described primary image bitpix axes
    others).bitpix * ((described primary image bitpix axes others).width * (described primary image bitpix axes others).height)
unfolding described data_size
described_data primary image bitpix [] others kind two flat = absurd (omega arith)
described_data primary image bitpix (w ∷ []) others kind two flat = absurd (omega arith)
described_data true image bitpix (w ∷ (h ∷ rest)) others kind two flat = ap (λ t. number_bytes bitpix * t) (flat_product w h rest flat)
described_data false image bitpix (w ∷ (h ∷ rest)) others kind two flat =
    let one = single image (count_or 0 (counting (codes "PCOUNT  ") others)) (count_or 1 (counting (codes "GCOUNT  ") others)) kind in
    sized bitpix _ _ _ _ one.1 one.0 (flat_product w h rest flat)

abbrev IsWhole : Hdu → Type 0
IsWhole hdu = is_other hdu.kind ≡ false → 2 ≤ hdu.naxis → hdu.flat ≡ true → hdu.data_bytes ≡ number_bytes hdu.bitpix * (hdu.width * hdu.height)

-- the data of an image of two axes, with further ones of 1, are as many numbers as it has pixels
pub image_data : (bytes : List ℕ) (n : ℕ) (hdu : Hdu) (head : ℕ) → find_of bytes n ≡ found hdu head → is_other hdu.kind ≡ false → 2 ≤ hdu.naxis
    → hdu.flat ≡ true
    → hdu.data_bytes ≡ number_bytes hdu.bitpix * (hdu.width * hdu.height)
image_data bytes n hdu head is = by (subst Says is (found_says bytes n))
  where
    by : IsDescribed hdu → IsWhole hdu
    by d = subst IsWhole (sym d.is) (described_data d.primary d.image d.bitpix d.axes d.others)
