-- Short pixels that are changed band by band.
use Rattle.std.proofs.Common.{◌≡◌, ℕ, ◌+◌, ◌-◌, ◌*◌, ◌/◌, ◌%◌, ◌<◌, ◌≤◌, min, take, drop, get_or, refl, sym, ◌∙◌, ap, subst, arith, ◌⊎◌, inl, inr, List, length}
use Rattle.std.specs.Prelude.{ℤ, Option, None, slice_index_or}
use Rattle.std.specs.Fork.{IsChunk, IsInChunk, AllInChunks, AcceptsAt, AcceptsChunksMut}
use Rattle.std.proofs.lemmas.Bool.{cases_lt}
use Rattle.std.proofs.lemmas.List.{ext_get_or, get_or-take, get_or-drop, get_or_default, length-take, length-drop}
use Rattle.std.proofs.lemmas.Grind.{div_ceil_times}
use Rattle.std.proofs.lemmas.Nat.{mod-mul-add, div-add-mod'}
use Rattle.std.proofs.Math.Nat.{mul-le-mul_right, add-mul, one-mul}
use denote.Ref.{MutBor}
use denote.Param.Members.{Shared}
use Rattle.comp_tree.specs.Raster.{value_at, HasValuesWithin}
use Rattle.comp_tree.specs.Bands.{LeavesWithin}
use Rattle.comp_tree.specs.ShortBands.{LeavesBandWithin, IsBandChanged, AreChangedUpTo}
use Rattle.comp_tree.proofs.Bands.{band_taken}

-- ---- how many bands there are

-- a band before the end has a pixel
pub band_inside : (all size n bands : ℕ) → 0 < size → bands ≡ all / size + min 1 (all % size) → n < bands → n * size < all
band_inside all size n bands some is lt =
    let enough = div_ceil_times all size some in
    let few : (all / size + min 1 (all % size)) * size < all + size = enough.1 in
    let up : (n + 1) * size ≤ (all / size + min 1 (all % size)) * size = mul-le-mul_right size (omega (arith, lt, is)) in
    let next : (n + 1) * size ≡ n * size + 1 * size = add-mul n 1 size in
    let single : 1 * size ≡ size = one-mul size in
    omega (arith, few, up, next, single)

-- and the bands have all
pub bands_all : (all size n bands : ℕ) → 0 < size → bands ≡ all / size + min 1 (all % size) → bands ≤ n → all ≤ n * size
bands_all all size n bands some is le =
    let enough = div_ceil_times all size some in
    let most : all ≤ (all / size + min 1 (all % size)) * size = enough.0 in
    let up : (all / size + min 1 (all % size)) * size ≤ n * size = mul-le-mul_right size (omega (arith, le, is)) in
    omega (arith, most, up)

-- the front of a list that is long enough
pub front_long : {X : Type 0} (xs : List X) (count : ℕ) → count ≤ length xs → length (take count xs) ≡ count
front_long xs count le = let a = length-take count xs in omega (arith, a, le)

-- ---- a band of a list

-- how many values there are from a place on, up to so many
long : (values : List (Option ℤ)) (start count : ℕ) → start + count ≤ length values → length (take count (drop start values)) ≡ count
long values start count inside = let a = length-take count (drop start values) in let b = length-drop start values in omega (arith, a, b, inside)

-- band n of a list in bands of this size
chunk_at : (values : List (Option ℤ)) (size n count : ℕ) → 0 < size → n * size < length values → count ≡ min size (length values - n * size)
    → IsChunk values size (n * size) (take count (drop (n * size) values))
chunk_at values size n count some inside is = record {
  value = ext_get_or None (take count (drop (n * size) values)) (take size (drop (n * size) values)) (size_here ∙ sym whole) (λ k lt.
      let below : k < count = omega (arith, lt, size_here) in
      get_or-take count (drop (n * size) values) k None below
      ∙ sym (get_or-take size (drop (n * size) values) k None (omega (arith, below, is))));
  start_is_multiple = subst (λ k. k % size ≡ 0) {x = n * size + 0} (omega arith) (mod-mul-add n size 0 some);
  len = size_here ∙ is;
  nonempty = omega (arith, size_here, is, some, inside);
  at_most_size = omega (arith, size_here, is);
  in_bounds = omega (arith, size_here, is, inside);
  full_size = λ none_left. size_here ∙ full none_left;
  elements = λ k d lt.
      get_or-take count (drop (n * size) values) k d (omega (arith, lt, size_here)) ∙ get_or-drop (n * size) values k d;
}
  where
    size_here : length (take count (drop (n * size) values)) ≡ count
    size_here = long values (n * size) count (omega (arith, is, inside))

    whole : length (take size (drop (n * size) values)) ≡ count
    whole = let a = length-take size (drop (n * size) values) in let b = length-drop (n * size) values in omega (arith, a, b, is)

    full : length values % size ≡ 0 → count ≡ size
    full none_left = go (cases_lt n (length values / size))
      where
        parts : length values / size * size + length values % size ≡ length values
        parts = div-add-mod' (length values) size

        go : (n < length values / size) ⊎ (length values / size ≤ n) → count ≡ size
        go (inl lt) =
            let up : (n + 1) * size ≤ length values / size * size = mul-le-mul_right size (omega (arith, lt)) in
            let next : (n + 1) * size ≡ n * size + 1 * size = add-mul n 1 size in
            let single : 1 * size ≡ size = one-mul size in
            omega (arith, up, next, single, parts, none_left, is)
        go (inr le) =
            let up : length values / size * size ≤ n * size = mul-le-mul_right size le in
            absurd (omega (arith, up, parts, none_left, inside))

-- a band is that of another list which has the same values from its start on
same_band : (old now : List (Option ℤ)) (start count : ℕ) → length now ≡ length old → start + count ≤ length old
    → ((p : ℕ) → start ≤ p → value_at now p ≡ value_at old p) → take count (drop start now) ≡ take count (drop start old)
same_band old now start count size inside same =
    let here : start + count ≤ length now = omega (arith, size, inside) in
    band_taken old (take count (drop start now)) start count (long now start count here) inside (λ k lt.
    get_or-take count (drop start now) k None lt ∙ get_or-drop start now k None ∙ same (start + k) (omega arith))

module _ {F : Type 0} (g : Shared F (ℕ × (MutBor (List (Option ℤ)) × Unit {0})) (Unit {0} × (MutBor (List (Option ℤ)) × Unit {0}))) (f : F)
    (size : ℕ) (old now : List (Option ℤ)) (n count : ℕ) (some : 0 < size) (inside : n * size < length old)
    (is : count ≡ min size (length old - n * size)) (before : AreChangedUpTo g f size (n * size) old now) where
  band_is : take count (drop (n * size) now) ≡ take count (drop (n * size) old)
  band_is = same_band old now (n * size) count before.one_each (omega (arith, is, inside)) before.rest

  -- a band may be handed over
  pub band_accepted : AcceptsChunksMut g f size old → AcceptsAt g f (n * size) (take count (drop (n * size) now))
  band_accepted accepts p e = accepts (n * size) p (subst (IsChunk old size (n * size)) (sym (e ∙ band_is)) (chunk_at old size n count some inside is))

  -- what is left of it is within the bound
  pub band_within : (most : ℕ) → LeavesWithin most g f size old → LeavesBandWithin g f (n * size) count most now
  band_within most leaves left call =
      subst (HasValuesWithin most) call.left
      (leaves (n * size) call.argument call.after_call
      (subst (IsChunk old size (n * size)) (sym (call.argument_is ∙ band_is)) (chunk_at old size n count some inside is)) call.call)

  -- with it one band more is changed
  pub band_more : (new : List (Option ℤ)) → IsBandChanged g f (n * size) count now new → AreChangedUpTo g f size ((n + 1) * size) old new
  band_more new band = record {
    one_each = band.one_each ∙ before.one_each;
    changed = λ p d end below. at p d end below (cases_lt p (n * size));
    rest = λ p le.
        band.beside p (inr (omega (arith, le, next, single, is))) ∙ before.rest p (omega (arith, le, next));
  }
    where
      next : (n + 1) * size ≡ n * size + 1 * size
      next = add-mul n 1 size

      single : 1 * size ≡ size
      single = one-mul size

      in_length : (p : ℕ) → p < length old → p < length new
      in_length p below = omega (arith, below, band.one_each, before.one_each)

      at : (p : ℕ) (d : Option ℤ) → p < (n + 1) * size → p < length old → (p < n * size) ⊎ (n * size ≤ p) → IsInChunk g f size old new p d
      at p d end below (inl lt) =
          let call = before.changed p d lt below in
          let kept : slice_index_or new p d ≡ slice_index_or now p d =
          get_or_default new p d None (in_length p below) ∙ band.beside p (inl lt)
          ∙ get_or_default now p None d (omega (arith, below, before.one_each)) in
          record {
            start = call.start;
            offset = call.offset;
            start_plus_offset = call.start_plus_offset;
            argument = call.argument;
            argument_is = call.argument_is;
            offset_in_chunk = call.offset_in_chunk;
            old_element = call.old_element;
            after_call = call.after_call;
            call = call.call;
            new_element = call.new_element ∙ sym kept;
          }
      at p d end below (inr le) =
          let place : n * size + (p - n * size) ≡ p = omega (arith, le) in
          let offset : p - n * size < count = omega (arith, le, end, next, single, below, is) in
          let chunk : IsChunk old size (n * size) band.changes.argument.now =
          subst (IsChunk old size (n * size)) (sym (band.changes.argument_is ∙ band_is)) (chunk_at old size n count some inside is) in
          record {
            start = n * size;
            offset = p - n * size;
            start_plus_offset = place;
            argument = band.changes.argument;
            argument_is = chunk;
            offset_in_chunk = omega (arith, offset, chunk.len, is);
            old_element = chunk.elements (p - n * size) d (omega (arith, offset, chunk.len, is)) ∙ ap (λ q. slice_index_or old q d) place;
            after_call = band.changes.after_call;
            call = band.changes.call;
            new_element = ap (λ values. get_or values (p - n * size) d) band.changes.left
                ∙ get_or_default band.left (p - n * size) d None (omega (arith, offset, band.whole))
                ∙ sym (band.inside (p - n * size) offset)
                ∙ ap (value_at new) place
                ∙ get_or_default new p None d (in_length p below);
          }

pub none_changed : {F : Type 0} (g : Shared F (ℕ × (MutBor (List (Option ℤ)) × Unit {0})) (Unit {0} × (MutBor (List (Option ℤ)) × Unit {0}))) (f : F)
    (size : ℕ) (values : List (Option ℤ)) → AreChangedUpTo g f size (0 * size) values values
none_changed g f size values = record {
  one_each = refl;
  changed = λ p d lt below. absurd (let none : 0 * size ≡ 0 = omega arith in omega (arith, lt, none));
  rest = λ p le. refl;
}

pub all_changed : {F : Type 0} (g : Shared F (ℕ × (MutBor (List (Option ℤ)) × Unit {0})) (Unit {0} × (MutBor (List (Option ℤ)) × Unit {0}))) (f : F)
    (size end : ℕ) (old new : List (Option ℤ)) → AreChangedUpTo g f size end old new → length old ≤ end → AllInChunks g f size old new
all_changed g f size end old new up all p d below = (refl, up.changed p d (omega (arith, below, all)) below)
