-- What is kept of a header says what its HDU is.
use Rattle.std.proofs.Common.{◌≡◌, ℕ, ◌+◌, ◌*◌, ◌<◌, ◌≤◌, Bool, true, false, ◌&&◌, nat_lt, List, [], ◌∷◌, length, Ok, Err, refl, sym, ap, arith, eqb, ℤ, pos}
use Rattle.std.specs.Prelude.{unwrap_or}
use Rattle.std.proofs.lemmas.Bool.Decides.{nat_tests}
use Rattle.fits_card.specs.declared.number.Whole.{Whole}
use Rattle.fits_card.specs.declared.number.Whole.TheVariants.{Is}
use Rattle.fits_hdu.specs.declared.answer.Kind.{Kind}
use Rattle.fits_hdu.specs.declared.fault.HduFault.TheVariants.{Groups, DataTooLong}
use Rattle.fits_hdu.specs.declared.fault.HduStop.TheVariants.{Fault}
use Rattle.fits_hdu.specs.declared.axes.Axes.{Axes}
use Rattle.fits_hdu.specs.declared.others.Others.{Others}
use Rattle.fits_hdu.specs.Sizes.{data_size, product, number_bytes}
use Rattle.fits_hdu.specs.Headers.{described, judged, is_groups, kind_of, most_data}
use Rattle.fits_hdu.specs.Kept.{held, kept_axes, kept_others}
use Rattle.fits_hdu.specs.Reading.{stops_at_fault}
use Rattle.fits_hdu.proofs.Saturating.{held-primary, held-extension}
use Rattle.fits_hdu.proofs.Keeping.{pcount_kept, gcount_kept}

-- The size of the data.

pub size_none : (primary : Bool) (bitpix : ℤ) (axes : List ℕ) (naxis p q : ℕ) → length axes ≡ naxis → naxis ≡ 0 → 0 ≡ held (data_size primary bitpix axes p q)
unfolding data_size
size_none primary bitpix [] naxis p q count none = refl
size_none primary bitpix (n ∷ rest) naxis p q count none = absurd (omega arith)

product_is : (axes : List ℕ) (kept : Axes) → kept ≡ kept_axes axes → kept.product ≡ held (product axes)
unfolding kept_axes
product_is axes kept is = ap (λ (k : Axes). k.product) is

pub size_primary : (bitpix : ℤ) (axes : List ℕ) (kept : Axes) (naxis p q bytes size : ℕ) (primary : Bool) → length axes ≡ naxis → (naxis ≡ 0 → ⊥)
    → kept ≡ kept_axes axes → primary ≡ true → bytes ≡ number_bytes bitpix → size ≡ held (kept.product * bytes)
    → size ≡ held (data_size primary bitpix axes p q)
unfolding data_size
size_primary bitpix [] kept naxis p q bytes size primary count some is first b s = absurd (some (sym count))
size_primary bitpix (n ∷ rest) kept naxis p q bytes size primary count some is first b s =
    rw (first, s, product_is (n ∷ rest) kept is, b) (held-primary (number_bytes bitpix) (product (n ∷ rest)))

pub size_extension : (bitpix : ℤ) (axes : List ℕ) (kept : Axes) (naxis p q bytes sum groups size : ℕ) (primary : Bool) → length axes ≡ naxis → (naxis ≡ 0 → ⊥)
    → kept ≡ kept_axes axes → primary ≡ false → bytes ≡ number_bytes bitpix
    → sum ≡ held (kept.product + p) → groups ≡ held (sum * q) → size ≡ held (groups * bytes) → size ≡ held (data_size primary bitpix axes p q)
unfolding data_size
size_extension bitpix [] kept naxis p q bytes sum groups size primary count some is later b u v w = absurd (some (sym count))
size_extension bitpix (n ∷ rest) kept naxis p q bytes sum groups size primary count some is later b u v w =
    rw (later, w, v, u, product_is (n ∷ rest) kept is, b) (held-extension (number_bytes bitpix) q p (product (n ∷ rest)))

pub not_first : (hdu : ℕ) → (hdu ≡ 0 → ⊥) → eqb hdu 0 ≡ false
not_first hdu other = grind (arith, nat_tests)

-- The judgement.

pub groups_is : (primary : Bool) (axes : List ℕ) (after : List (List ℕ)) (kept : Axes) (others : Others) (naxis : ℕ) → length axes ≡ naxis
    → kept ≡ kept_axes axes → others ≡ kept_others after
    → is_groups primary axes after ≡ (primary && (nat_lt 0 naxis && (eqb kept.width 0 && unwrap_or others.groups false)))
unfolding is_groups kept_axes kept_others
groups_is primary axes after kept others naxis count is from = rw (← count, is, from) refl

pub judged_groups : (primary image : Bool) (bitpix : ℤ) (axes : List ℕ) (after : List (List ℕ)) → is_groups primary axes after ≡ true
    → Err (Fault Groups) ≡ stops_at_fault (judged primary image bitpix axes after)
unfolding judged
judged_groups primary image bitpix axes after is = rw is refl

size_is : (primary image : Bool) (bitpix : ℤ) (axes : List ℕ) (after : List (List ℕ)) (others : Others) → others ≡ kept_others after
    → (described primary image bitpix axes after).data_bytes ≡ data_size primary bitpix axes (unwrap_or others.pcount 0) (unwrap_or others.gcount 1)
unfolding described
size_is primary image bitpix axes after others from = rw (pcount_kept after others from, gcount_kept after others from) refl

pub judged_long : (primary image : Bool) (bitpix : ℤ) (axes : List ℕ) (after : List (List ℕ)) (others : Others) (size : ℕ) → others ≡ kept_others after
    → is_groups primary axes after ≡ false
    → size ≡ held (data_size primary bitpix axes (unwrap_or others.pcount 0) (unwrap_or others.gcount 1)) → 1099511627776 < size
    → Err (Fault DataTooLong) ≡ stops_at_fault (judged primary image bitpix axes after)
unfolding judged
judged_long primary image bitpix axes after others size from single is long =
    let all = size_is primary image bitpix axes after others from in
    let over : nat_lt most_data (described primary image bitpix axes after).data_bytes ≡ true =
    tested (described primary image bitpix axes after).data_bytes (omega (arith, all)) in
    rw (single, over) refl
  where
    tested : (n : ℕ) → 1099511627776 < n → nat_lt most_data n ≡ true
    tested n h = grind (arith, nat_tests)

described_is : (primary image : Bool) (bitpix : ℤ) (axes : List ℕ) (after : List (List ℕ)) (kept : Axes) (others : Others) (naxis size : ℕ) (kind : Kind)
    (bscale bzero : Whole) → length axes ≡ naxis → kept ≡ kept_axes axes → others ≡ kept_others after
    → size ≡ data_size primary bitpix axes (unwrap_or others.pcount 0) (unwrap_or others.gcount 1)
    → kind ≡ kind_of primary image (unwrap_or others.pcount 0) (unwrap_or others.gcount 1)
    → bscale ≡ unwrap_or others.bscale (Is (pos 1)) → bzero ≡ unwrap_or others.bzero (Is (pos 0))
    → record {
      kind = kind;
      bitpix = bitpix;
      naxis = naxis;
      width = kept.width;
      height = kept.height;
      flat = kept.flat;
      data_bytes = size;
      bscale = bscale;
      bzero = bzero;
      blank = others.blank;
    } ≡ described primary image bitpix axes after
unfolding described kept_axes kept_others
described_is primary image bitpix axes after kept others naxis size kind bscale bzero count is from s k b z = rw (s, k, b, z, ← count, is, from) refl

pub judged_found : (primary image : Bool) (bitpix : ℤ) (axes : List ℕ) (after : List (List ℕ)) (kept : Axes) (others : Others) (naxis size : ℕ) (kind : Kind)
    (bscale bzero : Whole) → length axes ≡ naxis → kept ≡ kept_axes axes → others ≡ kept_others after
    → is_groups primary axes after ≡ false
    → size ≡ held (data_size primary bitpix axes (unwrap_or others.pcount 0) (unwrap_or others.gcount 1)) → size ≤ 1099511627776
    → kind ≡ kind_of primary image (unwrap_or others.pcount 0) (unwrap_or others.gcount 1)
    → bscale ≡ unwrap_or others.bscale (Is (pos 1)) → bzero ≡ unwrap_or others.bzero (Is (pos 0))
    → Ok (record {
      kind = kind;
      bitpix = bitpix;
      naxis = naxis;
      width = kept.width;
      height = kept.height;
      flat = kept.flat;
      data_bytes = size;
      bscale = bscale;
      bzero = bzero;
      blank = others.blank;
    }) ≡ stops_at_fault (judged primary image bitpix axes after)
unfolding judged
judged_found primary image bitpix axes after kept others naxis size kind bscale bzero count is from single s short k b z =
    let all = size_is primary image bitpix axes after others from in
    let exact : size ≡ data_size primary bitpix axes (unwrap_or others.pcount 0) (unwrap_or others.gcount 1) = omega arith in
    let within : nat_lt most_data (described primary image bitpix axes after).data_bytes ≡ false =
    tested (described primary image bitpix axes after).data_bytes (omega (arith, all)) in
    rw (single, within) (ap Ok (described_is primary image bitpix axes after kept others naxis size kind bscale bzero count is from exact k b z))
  where
    tested : (n : ℕ) → n ≤ 1099511627776 → nat_lt most_data n ≡ false
    tested n h = grind (arith, nat_tests)
