-- The pixels are read one after the other.
use Rattle.std.proofs.Common.{◌≡◌, ℕ, ◌+◌, ◌-◌, ◌*◌, ◌<◌, ◌≤◌, ◌⊎◌, List, length, take, drop, take_all, Option, None, ℤ, pos, ◌∙◌, ap, sym, subst, arith}
use Rattle.std.proofs.Common.{slice_set, inl, inr, ⊎_elim, zero, suc, get_or, refl, mul-le-mul_right, suc-mul, length-drop, IsTrue, true, ◌==◌, ◌||◌}
use Rattle.std.specs.Int.{w16, w32, w64, cast_signed}
use Rattle.std.proofs.lemmas.Bool.{or_cases}
use Rattle.std.proofs.lemmas.Bool.Decides.{nat_tests}
use Rattle.std.proofs.lemmas.List.{get_or-take, get_or-drop, drop-take, drop-drop, take_rest}
use Rattle.dev_io.specs.Streams.{Takes, Fills}
use Rattle.dev_io.specs.Laws.{Takes-after, TakesAtMost-after}
use Rattle.std.proofs.lemmas.Bool.{cases_lt}
use Rattle.std.proofs.lemmas.List.{get_or-set_same, get_or-set_other}
use Rattle.comp_tree.specs.Raster.{value_at}
use Rattle.pixel_plane.specs.WithinLimits.{HasValuesInLimits}
use Rattle.pixel_plane.specs.declared.encoding.Encoding.{Encoding}
use Rattle.pixel_plane.specs.Decoding.{decoded, SuitsEncoding, IsRunDecoded, IsDecoded, IsFar, FarInside, FarRead, ReadSoFar, BytesStopped, RestStopped, PixelsStopped}
use Rattle.pixel_plane.specs.declared.fault.PlaneFault.TheVariants.{TruncatedData, PixelRange}
use Rattle.pixel_plane.specs.declared.fault.PlaneStop.{PlaneStop}
use Rattle.pixel_plane.specs.declared.fault.PlaneStop.TheVariants.{Fault, ReadFault, OutOfMemory}
use Rattle.pixel_plane.specs.Stored.{stored_number, value_stored_as, pixel_at, is_out_of_range, holds_narrow}
use Rattle.pixel_plane.specs.Sizes.{is_number_size, IsFarNumber}
use Rattle.pixel_plane.proofs.HalfRange.{none_far}
use Rattle.byteorder.specs.Endian.{big_from}

value_at-set : (values : List (Option ℤ)) (p : ℕ) (v : Option ℤ) → p < length values → value_at (slice_set values p v) p ≡ v
value_at-set values p v h = get_or-set_same values p v None h

value_at-set_other : (values : List (Option ℤ)) (p q : ℕ) (v : Option ℤ) → q < p → value_at (slice_set values p v) q ≡ value_at values q
value_at-set_other values p q v h = get_or-set_other values p q v None (λ e. absurd (omega (arith, e)))

pub decoded_next : (encoding : Encoding) (bytes : List ℕ) (first p : ℕ) (old new : List (Option ℤ)) (v : Option ℤ) → first ≤ p → p < length new
    → v ≡ decoded encoding bytes (p - first) → IsDecoded encoding bytes first p old new → IsDecoded encoding bytes first (p + 1) old (slice_set new p v)
decoded_next encoding bytes first p old new v from inside is before = record {
  before = λ q h. value_at-set_other new p q v (omega arith) ∙ before.before q h;
  here = λ q low high. ⊎_elim
      (λ (h : q < p). value_at-set_other new p q v h ∙ before.here q low h)
      (λ (h : p ≤ q). let e : p ≡ q = omega arith in
      subst (λ x. value_at (slice_set new p v) x ≡ decoded encoding bytes (x - first)) e (value_at-set new p v inside ∙ is))
      (cases_lt q p);
}

-- ---- a run of pixels

pub run_none : (encoding : Encoding) (bytes : List ℕ) (run : List (Option ℤ)) → IsRunDecoded encoding bytes run 0
run_none encoding bytes run = record { values = λ k h. absurd (omega (arith, h)); suit = λ k h. absurd (omega (arith, h)) }

pub run_next : (encoding : Encoding) (bytes : List ℕ) (run : List (Option ℤ)) (k : ℕ) (v : Option ℤ) → k < length run
    → v ≡ decoded encoding bytes k → SuitsEncoding encoding v → IsRunDecoded encoding bytes run k → IsRunDecoded encoding bytes (slice_set run k v) (k + 1)
run_next encoding bytes run k v inside is suits before = record {
  values = λ q h. ⊎_elim
      (λ (less : q < k). value_at-set_other run k q v less ∙ before.values q less)
      (λ (more : k ≤ q). let e : k ≡ q = omega arith in
      subst (λ x. value_at (slice_set run k v) x ≡ decoded encoding bytes x) e (value_at-set run k v inside ∙ is))
      (cases_lt q k);
  suit = λ q h. ⊎_elim
      (λ (less : q < k). subst (SuitsEncoding encoding) (sym (value_at-set_other run k q v less)) (before.suit q less))
      (λ (more : k ≤ q). let e : k ≡ q = omega arith in
      subst (λ x. SuitsEncoding encoding (value_at (slice_set run k v) x)) e (subst (SuitsEncoding encoding) (sym (value_at-set run k v inside)) suits))
      (cases_lt q k);
}

pub run_counted : (encoding : Encoding) (bytes : List ℕ) (run : List (Option ℤ)) (n m : ℕ) → n ≡ m → IsRunDecoded encoding bytes run n
    → IsRunDecoded encoding bytes run m
run_counted encoding bytes run n m same it = subst (IsRunDecoded encoding bytes run) same it

-- the bytes of a run begin at its first number
decoded_on : (encoding : Encoding) (bytes : List ℕ) (m k : ℕ)
    → decoded encoding (take (length bytes - m * encoding.size) (drop (m * encoding.size) bytes)) k ≡ decoded encoding bytes (m + k)
unfolding pixel_at
decoded_on encoding bytes m k =
    let size : ℕ = encoding.size in
    let place : m * size + k * size ≡ (m + k) * size = grind arith in
    ap (λ xs. value_stored_as encoding.zero encoding.blank (stored_number encoding.size (drop (k * size) xs))) (take_rest bytes (m * size))
    ∙ ap (λ xs. value_stored_as encoding.zero encoding.blank (stored_number encoding.size xs))
    (drop-drop (k * size) (m * size) bytes ∙ ap (λ n. drop n bytes) place)

pub run_follows : (encoding : Encoding) (bytes : List ℕ) (first p count : ℕ) (run old middle new : List (Option ℤ)) → first ≤ p
    → IsRunDecoded encoding (take (length bytes - (p - first) * encoding.size) (drop ((p - first) * encoding.size) bytes)) run count
    → ((k : ℕ) → k < count → value_at new (p + k) ≡ value_at run k) → ((q : ℕ) → q < p → value_at new q ≡ value_at middle q)
    → IsDecoded encoding bytes first p old middle → IsDecoded encoding bytes first (p + count) old new
run_follows encoding bytes first p count run old middle new from it inside stayed before = record {
  before = λ q h. stayed q (omega arith) ∙ before.before q h;
  here = λ q low high. ⊎_elim
      (λ (h : q < p). stayed q h ∙ before.here q low h)
      (λ (h : p ≤ q).
      let few : q - p < count = omega arith in
      let there : p + (q - p) ≡ q = omega arith in
      let place : (p - first) + (q - p) ≡ q - first = omega arith in
      ap (value_at new) (sym there) ∙ inside (q - p) few ∙ it.values (q - p) few ∙ decoded_on encoding bytes (p - first) (q - p)
      ∙ ap (decoded encoding bytes) place)
      (cases_lt q p);
}

-- the next number stands inside the bytes
pub number_within : (first p end size count : ℕ) → first ≤ p → p < end → (end - first) * size ≤ count → (p - first) * size + size ≤ count
number_within first p end size count low high room =
    let more : suc (p - first) * size ≤ (end - first) * size = mul-le-mul_right size (omega arith) in
    let one = suc-mul (p - first) size in
    let a : ℕ = (p - first) * size in
    let b : ℕ = (end - first) * size in
    omega arith

equals : (a b : ℕ) → (a == b) ≡ true → a ≡ b
equals a b h = grind (arith, nat_tests)

one_of_sizes : (size : ℕ) → IsTrue (is_number_size size) → size ≡ 1 ⊎ (size ≡ 2 ⊎ (size ≡ 4 ⊎ size ≡ 8))
one_of_sizes size h =
    ⊎_elim
    (λ (three : (size == 1 || size == 2 || size == 4) ≡ true). ⊎_elim
    (λ (two : (size == 1 || size == 2) ≡ true). ⊎_elim (λ e. inl (equals size 1 e)) (λ e. inr (inl (equals size 2 e))) (or_cases (size == 1) (size == 2) two))
    (λ (e : (size == 4) ≡ true). inr (inr (inl (equals size 4 e)))) (or_cases (size == 1 || size == 2) (size == 4) three))
    (λ (e : (size == 8) ≡ true). inr (inr (inr (equals size 8 e))))
    (or_cases (size == 1 || size == 2 || size == 4) (size == 8) h)

pub size_at_most : (size : ℕ) → IsTrue (is_number_size size) → size ≤ 8
size_at_most size h = elim (one_of_sizes size h) [
  | inl one ↦ omega (arith, one)
  | inr (inl two) ↦ omega (arith, two)
  | inr (inr (inl four)) ↦ omega (arith, four)
  | inr (inr (inr eight)) ↦ omega (arith, eight)
]

big_from-take : (i n m : ℕ) (bytes : List ℕ) → i + n ≤ m → big_from i n (take m bytes) ≡ big_from i n bytes
big_from-take i zero m bytes fits = refl
big_from-take i (suc n) m bytes fits =
    let first : get_or (take m bytes) i 0 ≡ get_or bytes i 0 = get_or-take m bytes i 0 (omega arith) in
    let others : big_from (suc i) n (take m bytes) ≡ big_from (suc i) n bytes = big_from-take (suc i) n m bytes (omega arith) in
    rw (first, others) refl

-- a number is in its first bytes
number_in_front : (size m : ℕ) (bytes : List ℕ) → size ≡ 1 ⊎ (size ≡ 2 ⊎ (size ≡ 4 ⊎ size ≡ 8)) → size ≤ m
    → stored_number size (take m bytes) ≡ stored_number size bytes
number_in_front size m bytes (inl e) fits = rw e (ap pos (get_or-take m bytes 0 0 (omega (arith, e, fits))))
number_in_front size m bytes (inr (inl e)) fits = rw e (ap (cast_signed w16) (big_from-take 0 2 m bytes (omega (arith, e, fits))))
number_in_front size m bytes (inr (inr (inl e))) fits = rw e (ap (cast_signed w32) (big_from-take 0 4 m bytes (omega (arith, e, fits))))
number_in_front size m bytes (inr (inr (inr e))) fits = rw e (ap (cast_signed w64) (big_from-take 0 8 m bytes (omega (arith, e, fits))))

-- number p of the bytes is number p - first of those from the first one's place on
number_there : (encoding : Encoding) (bytes : List ℕ) (first p end : ℕ) → first ≤ p → p < end
    → stored_number encoding.size (drop ((p - first) * encoding.size) (take ((end - first) * encoding.size) (drop (first * encoding.size) bytes)))
    ≡ stored_number encoding.size (drop (p * encoding.size) bytes)
number_there encoding bytes first p end low high =
    let size : ℕ = encoding.size in
    let room : (p - first) * size + size ≤ (end - first) * size = number_within first p end size ((end - first) * size) low high (omega arith) in
    let rest : ℕ = (end - first) * size - (p - first) * size in
    let whole : (end - first) * size ≡ (p - first) * size + rest = omega (arith, room) in
    let fits : size ≤ rest = omega (arith, room) in
    let place : first * size + (p - first) * size ≡ p * size = grind arith in
    let cut : drop ((p - first) * size) (take ((end - first) * size) (drop (first * size) bytes)) ≡ take rest (drop (p * size) bytes) =
    ap (λ n. drop ((p - first) * size) (take n (drop (first * size) bytes))) whole
    ∙ drop-take ((p - first) * size) rest (drop (first * size) bytes)
    ∙ ap (take rest) (drop-drop ((p - first) * size) (first * size) bytes ∙ ap (λ n. drop n bytes) place) in
    ap (stored_number encoding.size) cut ∙ number_in_front size rest (drop (p * size) bytes) (one_of_sizes size encoding.sizes) fits

-- so is the pixel
decoded_there : (encoding : Encoding) (bytes : List ℕ) (first p end : ℕ) → first ≤ p → p < end
    → decoded encoding (take ((end - first) * encoding.size) (drop (first * encoding.size) bytes)) (p - first) ≡ decoded encoding bytes p
unfolding pixel_at
decoded_there encoding bytes first p end low high = ap (value_stored_as encoding.zero encoding.blank) (number_there encoding bytes first p end low high)

-- the bytes from a place on to the end
pub value_from : (encoding : Encoding) (bytes : List ℕ) (k : ℕ)
    → value_stored_as encoding.zero encoding.blank (stored_number encoding.size (take (length bytes - k * encoding.size) (drop (k * encoding.size) bytes)))
    ≡ decoded encoding bytes k
unfolding pixel_at
value_from encoding bytes k =
    ap (λ xs. value_stored_as encoding.zero encoding.blank (stored_number encoding.size xs)) (take_rest bytes (k * encoding.size))

-- where all numbers have this size
pub number_at : (encoding : Encoding) (bytes : List ℕ) (k size : ℕ) (number : ℤ) → encoding.size ≡ size
    → number ≡ stored_number size (take (length bytes - k * size) (drop (k * size) bytes))
    → value_stored_as encoding.zero encoding.blank number ≡ decoded encoding bytes k
number_at encoding bytes k size number is same =
    ap (value_stored_as encoding.zero encoding.blank)
    (same ∙ ap (λ n. stored_number n (take (length bytes - k * n) (drop (k * n) bytes))) (sym is))
    ∙ value_from encoding bytes k

pub byte_at : (encoding : Encoding) (bytes : List ℕ) (k : ℕ) (number : ℤ) → encoding.size ≡ 1 → k < length bytes
    → number ≡ pos (get_or bytes k 0) → value_stored_as encoding.zero encoding.blank number ≡ decoded encoding bytes k
unfolding pixel_at
byte_at encoding bytes k number is inside same =
    let place : k * 1 ≡ k = omega arith in
    let there : get_or (drop (k * 1) bytes) 0 0 ≡ get_or bytes k 0 = ap (λ n. get_or (drop n bytes) 0 0) place ∙ get_or-drop k bytes 0 0 ∙ ap (λ n. get_or bytes n 0) (omega arith) in
    rw is (ap (value_stored_as encoding.zero encoding.blank) (same ∙ ap pos (sym there)))

pub far_from : (encoding : Encoding) (bytes : List ℕ) (k : ℕ) (stored : ℤ) → (holds_narrow encoding.limits ≡ true → encoding.size ≡ 8)
    → IsFarNumber encoding.limits encoding.zero encoding.blank stored (stored_number encoding.size (take (length bytes - k * encoding.size) (drop (k * encoding.size) bytes)))
    → IsFar encoding bytes k stored
unfolding pixel_at
far_from encoding bytes k stored wide far =
    let rest : take (length bytes - k * encoding.size) (drop (k * encoding.size) bytes) ≡ drop (k * encoding.size) bytes =
    take_rest bytes (k * encoding.size) in
    record {
      wide = wide;
      number = far.same ∙ ap (stored_number encoding.size) rest;
      far = sym (ap (λ xs. is_out_of_range encoding.limits (value_stored_as encoding.zero encoding.blank (stored_number encoding.size xs))) rest) ∙ far.far;
    }

block_within : (first end count size : ℕ) → first ≤ end → end ≤ count → first * size + (end - first) * size ≤ count * size
block_within first end count size order within =
    let together : first * size + (end - first) * size ≡ end * size = grind arith in
    omega (arith, together, mul-le-mul_right size within)

-- a block that was filled
filled : (encoding : Encoding) (bytes : List ℕ) (left' : Option (List ℕ)) (first end : ℕ) (buf : List ℕ) → length buf ≡ (end - first) * encoding.size
    → Fills (drop (first * encoding.size) bytes) left' (length buf) buf → buf ≡ take ((end - first) * encoding.size) (drop (first * encoding.size) bytes)
filled encoding bytes left' first end buf size fills =
    sym (take_all (length buf) buf (omega arith)) ∙ fills.front ∙ ap (λ k. take k (drop (first * encoding.size) bytes)) size

-- its bytes are taken
pub taken_to : (encoding : Encoding) (bytes : List ℕ) (left left' : Option (List ℕ)) (first end : ℕ) (buf : List ℕ) → first ≤ end
    → length buf ≡ (end - first) * encoding.size
    → Takes bytes left (first * encoding.size) → Fills (drop (first * encoding.size) bytes) left' (length buf) buf → Takes bytes left' (end * encoding.size)
taken_to encoding bytes left left' first end buf order size before fills =
    subst (Takes bytes left') total (Takes-after bytes left left' (first * encoding.size) (length buf) before fills.takes)
  where
    total : first * encoding.size + length buf ≡ end * encoding.size
    total = grind (arith, size)

-- the numbers of a block follow those that were read
read_up_to : (encoding : Encoding) (bytes : List ℕ) (first end p : ℕ) (buf : List ℕ) (old new : List (Option ℤ)) → p ≤ end
    → buf ≡ take ((end - first) * encoding.size) (drop (first * encoding.size) bytes)
    → ((q : ℕ) → q < first → value_at old q ≡ decoded encoding bytes q) → IsDecoded encoding buf first p old new
    → (q : ℕ) → q < p → value_at new q ≡ decoded encoding bytes q
read_up_to encoding bytes first end p buf old new within same before next = λ q h. ⊎_elim
    (λ (low : q < first). next.before q low ∙ before q low)
    (λ (low : first ≤ q). next.here q low h ∙ ap (λ xs. decoded encoding xs (q - first)) same ∙ decoded_there encoding bytes first q end low (omega arith))
    (cases_lt q first)

pub read_more : (encoding : Encoding) (bytes : List ℕ) (left left' : Option (List ℕ)) (first end : ℕ) (buf : List ℕ) (old new : List (Option ℤ)) → first ≤ end
    → length buf ≡ (end - first) * encoding.size → ReadSoFar encoding bytes left old first
    → Fills (drop (first * encoding.size) bytes) left' (length buf) buf → IsDecoded encoding buf first end old new → ReadSoFar encoding bytes left' new end
read_more encoding bytes left left' first end buf old new order size before fills next = record {
  takes = taken_to encoding bytes left left' first end buf order size before.takes fills;
  are_decoded = read_up_to encoding bytes first end end buf old new (omega arith) (filled encoding bytes left' first end buf size fills) before.are_decoded
      next;
}

-- ---- a reading that stops

-- at further bytes
pub stopped_after : (bytes : List ℕ) (left left' : Option (List ℕ)) (m n total : ℕ) (stop : PlaneStop) → m + n ≤ total → Takes bytes left m
    → BytesStopped n (drop m bytes) left' stop → BytesStopped total bytes left' stop
stopped_after bytes left left' m n total (Fault TruncatedData) room before (short, takes) =
    let all : m + length (drop m bytes) ≡ length bytes = omega (arith, length-drop m bytes, before.within) in
    (omega (arith, all, short, room), subst (Takes bytes left') all (Takes-after bytes left left' m (length (drop m bytes)) before takes))
stopped_after bytes left left' m n total ReadFault room before lost =
    let after = TakesAtMost-after bytes left left' m n before lost in
    record { count = after.count; few = omega (arith, after.few, room); takes = after.takes }
stopped_after bytes left left' m n total OutOfMemory room before stopped = absurd stopped
stopped_after bytes left left' m n total (Fault (PixelRange pixel stored)) room before stopped = absurd stopped

-- so do the pixels
pub pixels_stopped : (encoding : Encoding) (count : ℕ) (bytes : List ℕ) (left : Option (List ℕ)) (stop : PlaneStop)
    → BytesStopped (count * encoding.size) bytes left stop
    → PixelsStopped encoding count bytes left stop
pixels_stopped encoding count bytes left (Fault TruncatedData) stopped = stopped
pixels_stopped encoding count bytes left ReadFault stopped = stopped
pixels_stopped encoding count bytes left OutOfMemory stopped = absurd stopped
pixels_stopped encoding count bytes left (Fault (PixelRange pixel stored)) stopped = absurd stopped

-- at a block
pub block_stopped : (encoding : Encoding) (bytes : List ℕ) (left left' : Option (List ℕ)) (first end count n : ℕ) (stop : PlaneStop) → first ≤ end → end ≤ count
    → n ≡ (end - first) * encoding.size → Takes bytes left (first * encoding.size) → BytesStopped n (drop (first * encoding.size) bytes) left' stop
    → PixelsStopped encoding count bytes left' stop
block_stopped encoding bytes left left' first end count n stop order within size before stopped =
    let room : first * encoding.size + n ≤ count * encoding.size = omega (arith, block_within first end count encoding.size order within, size) in
    pixels_stopped encoding count bytes left' stop (stopped_after bytes left left' (first * encoding.size) n (count * encoding.size) stop room before stopped)

-- the pixel that is out of range in a block is the least one
far_read : (encoding : Encoding) (bytes : List ℕ) (left : Option (List ℕ)) (first end count : ℕ) (buf : List ℕ) (old new : List (Option ℤ)) (pixel : ℕ)
    (stored : ℤ) → end ≤ count
    → buf ≡ take ((end - first) * encoding.size) (drop (first * encoding.size) bytes)
    → ((q : ℕ) → q < first → value_at old q ≡ decoded encoding bytes q) → FarInside encoding buf first end old new pixel stored → HasValuesInLimits encoding.limits new
    → Takes bytes left (count * encoding.size) → FarRead encoding count bytes left pixel stored
far_read encoding bytes left first end count buf old new pixel stored within same before far near takes = record {
  inside = omega (arith, far.inside, within);
  is_far = record {
    wide = far.is_far.wide;
    number = far.is_far.number ∙ ap (λ xs. stored_number encoding.size (drop ((pixel - first) * encoding.size) xs)) same
        ∙ number_there encoding bytes first pixel end far.from far.inside;
    far = sym (ap (is_out_of_range encoding.limits) (ap (λ xs. decoded encoding xs (pixel - first)) same ∙ decoded_there encoding bytes first pixel end far.from far.inside))
        ∙ far.is_far.far;
  };
  before = λ q h. sym (ap (is_out_of_range encoding.limits) (read_up_to encoding bytes first end pixel buf old new (omega (arith, far.inside)) same before far.decoded_before q
      h)) ∙ none_far encoding.limits new q near;
  takes = takes;
}

-- at a pixel out of range
pub far_stopped : (encoding : Encoding) (bytes : List ℕ) (left left' left'' : Option (List ℕ)) (first end count : ℕ) (buf : List ℕ) (old new : List (Option ℤ))
    (pixel : ℕ) (stored : ℤ)
    (stop : PlaneStop) → first ≤ end → end ≤ count → length buf ≡ (end - first) * encoding.size → ReadSoFar encoding bytes left old first
    → Fills (drop (first * encoding.size) bytes) left' (length buf) buf → FarInside encoding buf first end old new pixel stored → HasValuesInLimits encoding.limits new
    → RestStopped ((count - end) * encoding.size) pixel stored (drop (end * encoding.size) bytes) left'' stop → PixelsStopped encoding count bytes left'' stop
far_stopped encoding bytes left left' left'' first end count buf old new pixel stored stop order within size before fills far near stopped = go stop stopped
  where
    taken : Takes bytes left' (end * encoding.size)
    taken = taken_to encoding bytes left left' first end buf order size before.takes fills

    total : end * encoding.size + (count - end) * encoding.size ≡ count * encoding.size
    total = grind arith

    rest : (stop : PlaneStop) → BytesStopped ((count - end) * encoding.size) (drop (end * encoding.size) bytes) left'' stop
        → PixelsStopped encoding count bytes left'' stop
    rest stop stopped = pixels_stopped encoding count bytes left'' stop
        (stopped_after bytes left' left'' (end * encoding.size) ((count - end) * encoding.size) (count * encoding.size) stop (omega (arith, total)) taken
        stopped)

    go : (stop : PlaneStop) → RestStopped ((count - end) * encoding.size) pixel stored (drop (end * encoding.size) bytes) left'' stop
        → PixelsStopped encoding count bytes left'' stop
    go (Fault TruncatedData) stopped = rest (Fault TruncatedData) stopped
    go ReadFault stopped = rest ReadFault stopped
    go OutOfMemory stopped = absurd stopped
    go (Fault (PixelRange p number)) (same_pixel, same_number, takes) =
        let all : Takes bytes left'' (count * encoding.size) = subst (Takes bytes left'') total (Takes-after bytes left' left'' _ _ taken takes) in
        subst (λ k. FarRead encoding count bytes left'' k number) (sym same_pixel) (subst (FarRead encoding count bytes left'' pixel) (sym same_number)
        (far_read encoding bytes left'' first end count buf old new pixel stored within (filled encoding bytes left' first end buf size fills)
        before.are_decoded far near all))
