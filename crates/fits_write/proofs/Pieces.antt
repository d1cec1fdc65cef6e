-- Pieces that are written one behind the other, and the filling of the last block.
use Rattle.std.proofs.Common.{◌≡◌, ◌∙◌, ℕ, ◌+◌, ◌-◌, ◌%◌, ◌<◌, ◌≤◌, List, [], ◌∷◌, ◌++◌, get_or, length, map, replicate, take, take_all, drop, ap, refl, sym}
use Rattle.std.proofs.Common.{subst, append-nil, append_assoc, take-append-drop, length-append, arith, Result}
use Rattle.std.specs.List.{concat, flat_map}
use Rattle.std.proofs.Math.Nat.{mod-add-mod, mod-eq_of_lt}
use Rattle.std.proofs.lemmas.List.{map-append, length-map, get_or-map, take-replicate, length-replicate}
use Rattle.std.proofs.Math.Seq.{take-add}
use Rattle.std.proofs.lemmas.List.Folds.{concat-append}
use Rattle.std.proofs.lemmas.List.Concat.{flat_map-cons}
use Rattle.std.specs.declared.option.Option.{Option}
use Rattle.std.specs.Io.KnownBytes.{Appends}
use Rattle.dev_io.specs.Streams.{AppendsPrefix, PutAppends}
use Rattle.dev_io.specs.Laws.{AppendsPrefix-more, PutAppends-after}
use Rattle.dev_io.specs.Blocks.{Moves, Moves-after, Moves-cut}
use Rattle.lemmas.proofs.Exported.{concat-more, concat-split}
use Rattle.fits_write.specs.Blocks.{filled, room_after}
use Rattle.fits_write.specs.Waiting.{Waits}
use Rattle.byteorder.specs.Endian.{big_bytes}
use Rattle.fits_write.specs.Hdus.{header, map_bytes}

-- more bytes behind those that wait
pub Waits-after : (a b c : Option (List ℕ)) (xs ys v w : List ℕ) → Waits a b xs v → Waits b c (v ++ ys) w → Waits a c (xs ++ ys) w
Waits-after a b c xs ys v w p q = record {
  moves = Moves-after a b c xs ys v w p.moves q.moves;
  whole =
      q.whole ∙ ap (λ n. n % 2880) (length-append v ys) ∙ sym (mod-add-mod (length v) 2880 (length ys)) ∙ ap (λ n. (n + length ys) % 2880) p.whole
      ∙ mod-add-mod (length xs) 2880 (length ys) ∙ ap (λ n. n % 2880) (sym (length-append xs ys));
}

-- more bytes, of which only a front was appended behind those that wait
pub Waits-cut : (a b c : Option (List ℕ)) (xs ys zs v : List ℕ) → Waits a b xs v → AppendsPrefix b c (v ++ ys) → AppendsPrefix a c ((xs ++ ys) ++ zs)
Waits-cut a b c xs ys zs v p q = AppendsPrefix-more a c (xs ++ ys) zs (Moves-cut a b c xs ys v p.moves q)

-- the piece at place i behind those before it
pub waits_more : (a b c : Option (List ℕ)) (start : List ℕ) (xss : List (List ℕ)) (v w : List ℕ) (i : ℕ) (x : List ℕ) → i < length xss → x ≡ get_or xss i []
    → Waits a b (start ++ concat (take i xss)) v → Waits b c (v ++ x) w → Waits a c (start ++ concat (take (i + 1) xss)) w
waits_more a b c start xss v w i x h is before here =
    let more : (start ++ concat (take i xss)) ++ x ≡ start ++ concat (take (i + 1) xss) =
    append_assoc start (concat (take i xss)) x ∙ ap (λ l. start ++ (concat (take i xss) ++ l)) is ∙ ap (λ l. start ++ l) (sym (concat-more xss i h)) in
    subst (λ l. Waits a c l w) more (Waits-after a b c (start ++ concat (take i xss)) x v w before here)

-- a front of the piece at place i behind those before it is a front of all
pub waits_cut : (a b c : Option (List ℕ)) (start : List ℕ) (xss : List (List ℕ)) (v : List ℕ) (i : ℕ) (x : List ℕ) → i < length xss → x ≡ get_or xss i []
    → Waits a b (start ++ concat (take i xss)) v → AppendsPrefix b c (v ++ x) → AppendsPrefix a c (start ++ concat xss)
waits_cut a b c start xss v i x h is before here =
    let rest = concat (drop (i + 1) xss) in
    let all : ((start ++ concat (take i xss)) ++ x) ++ rest ≡ start ++ concat xss =
    append_assoc (start ++ concat (take i xss)) x rest ∙ append_assoc start (concat (take i xss)) (x ++ rest)
    ∙ ap (λ l. start ++ (concat (take i xss) ++ (l ++ rest))) is ∙ ap (λ l. start ++ l) (sym (concat-split xss i h)) in
    subst (AppendsPrefix a c) all (Waits-cut a b c (start ++ concat (take i xss)) x rest v before here)

-- all pieces wait
pub waits_all : (a b : Option (List ℕ)) (start : List ℕ) (xss : List (List ℕ)) (v : List ℕ) (i : ℕ) → length xss ≤ i
    → Waits a b (start ++ concat (take i xss)) v → Waits a b (start ++ concat xss) v
waits_all a b start xss v i h p = subst (λ l. Waits a b (start ++ concat l) v) (take_all i xss h) p

room_in_block : (n m : ℕ) → m % 2880 ≡ n % 2880 → room_after m ≡ room_after n
unfolding room_after
room_in_block n m e = ap (λ k. (2880 - k) % 2880) e

-- what waited last was filled to a block, or cut short
pub waits_filled : {T E : Type 0} (a b c : Option (List ℕ)) (r : Result T E) (xs v : List ℕ) (byte : ℕ) → Waits a b xs v
    → PutAppends b c r (v ++ replicate (room_after (length v)) byte) → PutAppends a c r (filled byte xs)
unfolding filled
waits_filled a b c r xs v byte p put =
    let rest = replicate (room_after (length v)) byte in
    let all : p.moves.sent ++ (v ++ rest) ≡ xs ++ replicate (room_after (length xs)) byte =
    sym (append_assoc p.moves.sent v rest) ∙ ap (λ l. l ++ rest) (sym p.moves.split)
    ∙ ap (λ n. xs ++ replicate n byte) (room_in_block (length xs) (length v) p.whole) in
    subst (λ (l : List ℕ). PutAppends a c r l) all (PutAppends-after a b c r p.moves.sent (v ++ rest) p.moves.appended put)

-- a front of these bytes is a front of them in whole blocks
pub cut_filled : (a b : Option (List ℕ)) (xs : List ℕ) (byte : ℕ) → AppendsPrefix a b xs → AppendsPrefix a b (filled byte xs)
unfolding filled
cut_filled a b xs byte p = AppendsPrefix-more a b xs (replicate (room_after (length xs)) byte) p

-- ---- the filling of one block. The block's size is a variable here, so that no list of so many bytes is written out.

room_is : (size len : ℕ) → size ≡ 2880 → len < size → (size - len) % size ≡ room_after len
unfolding room_after
room_is size len e less =
    ap (λ k. (k - len) % k) e ∙ ap (λ k. (2880 - k) % 2880) (sym (mod-eq_of_lt (subst (λ k. len < k) e less)))

-- so many copies of a byte
copies : (size len byte : ℕ) → size ≡ 2880 → len < size → take ((size - len) % size) (replicate size byte) ≡ replicate (room_after len) byte
copies size len byte e less =
    let few : (size - len) % size ≤ size = omega (arith, e) in
    take-replicate ((size - len) % size) size byte few ∙ ap (λ k. replicate k byte) (room_is size len e less)

-- what waits and the copies behind it
pub with_copies : (size len byte : ℕ) (old waiting : List ℕ) → size ≡ 2880 → len < size → len ≡ length waiting → waiting ≡ old
    → waiting ++ take ((size - len) % size) (replicate size byte) ≡ old ++ replicate (room_after (length old)) byte
with_copies size len byte old waiting e less counted same =
    ap (λ l. waiting ++ l) (copies size len byte e less) ∙ ap (λ k. waiting ++ replicate (room_after k) byte) counted
    ∙ ap (λ l. l ++ replicate (room_after (length l)) byte) same

-- nothing waits behind a block that was filled
none_wait : (len room n : ℕ) → len < 2880 → room ≡ (2880 - len) % 2880 → n ≡ (len + room) % 2880 → n ≡ 0
none_wait len room n less is e = omega arith

pub none_wait_behind : (size len byte n : ℕ) (waiting : List ℕ) → size ≡ 2880 → len < size → len ≡ length waiting
    → n ≡ (length waiting + length (take ((size - len) % size) (replicate size byte))) % 2880 → n ≡ 0
none_wait_behind size len byte n waiting e less counted is =
    let few : (size - len) % size ≤ size = omega (arith, e) in
    let put : length (take ((size - len) % size) (replicate size byte)) ≡ (size - len) % size =
    ap length (take-replicate ((size - len) % size) size byte few) ∙ length-replicate ((size - len) % size) byte in
    none_wait len ((size - len) % size) n (subst (λ k. len < k) e less) (ap (λ k. (k - len) % k) e)
    (is ∙ ap (λ k. (length waiting + k) % 2880) put ∙ ap (λ k. (k + (size - len) % size) % 2880) (sym counted))

no_items : (v : List ℕ) → length v ≡ 0 → v ≡ []
no_items [] e = refl
no_items (x ∷ v) e = absurd (omega arith)

-- all bytes were appended where none wait
pub all_put : (a b : Option (List ℕ)) (xs v : List ℕ) → Moves a b xs v → length v ≡ 0 → Appends a b xs
all_put a b xs v p none = subst (Appends a b) (sym (p.split ∙ ap (λ l. p.sent ++ l) (no_items v none) ∙ append-nil p.sent)) p.appended

-- ---- lists of pieces that are made from a list of values

pub piece_in : {X : Type 0} (f : X → List ℕ) (xs : List X) (i : ℕ) → i < length xs → i < length (map f xs)
piece_in f xs i h = omega (arith, length-map xs f)

pub piece_is : {X : Type 0} (f : X → List ℕ) (xs : List X) (i : ℕ) (x d : X) (bytes : List ℕ) → i < length xs → bytes ≡ f x → x ≡ get_or xs i d
    → bytes ≡ get_or (map f xs) i []
piece_is f xs i x d bytes h is here = is ∙ ap f here ∙ sym (get_or-map f xs i d [] h)

pub pieces_over : {X : Type 0} (f : X → List ℕ) (xs : List X) (i : ℕ) → length xs ≤ i → length (map f xs) ≤ i
pieces_over f xs i h = omega (arith, length-map xs f)

-- ---- a block in which nothing waited at first

pub from_nothing : (a b : Option (List ℕ)) (start xs v : List ℕ) → start ≡ [] → Waits a b (start ++ xs) v → Waits a b xs v
from_nothing a b start xs v empty p = subst (λ l. Waits a b (l ++ xs) v) empty p

-- ---- a header, and then data

pub header_put : (a b : Option (List ℕ)) (cards expected : List (List ℕ)) → cards ≡ expected → Appends a b (header cards) → Appends a b (header expected)
header_put a b cards expected same p = subst (λ l. Appends a b (header l)) same p

pub header_front : (a b : Option (List ℕ)) (cards expected : List (List ℕ)) → cards ≡ expected → AppendsPrefix a b (header cards)
    → AppendsPrefix a b (header expected)
header_front a b cards expected same p = subst (λ l. AppendsPrefix a b (header l)) same p

pub header_cut : (a b : Option (List ℕ)) (cards expected : List (List ℕ)) (data_blocks : List ℕ) → cards ≡ expected → AppendsPrefix a b (header cards)
    → AppendsPrefix a b (header expected ++ data_blocks)
header_cut a b cards expected data_blocks same p = AppendsPrefix-more a b (header expected) data_blocks (subst (λ l. AppendsPrefix a b (header l)) same p)

pub header_and_data : {T E : Type 0} (a b c : Option (List ℕ)) (r : Result T E) (cards expected : List (List ℕ)) (data_blocks : List ℕ) → cards ≡ expected
    → Appends a b (header cards) → PutAppends b c r data_blocks → PutAppends a c r (header expected ++ data_blocks)
header_and_data a b c r cards expected data_blocks same p q =
    PutAppends-after a b c r (header expected) data_blocks (subst (λ l. Appends a b (header l)) same p) q

-- ---- numbers that are made bytes some at a time

map_bytes-append : (xs ys : List ℕ) → map_bytes (xs ++ ys) ≡ map_bytes xs ++ map_bytes ys
unfolding map_bytes
map_bytes-append xs ys = ap concat (map-append (big_bytes 4) xs ys) ∙ concat-append (map (big_bytes 4) xs) (map (big_bytes 4) ys)

map_bytes-next : (xs : List ℕ) (n m : ℕ) → map_bytes (take n xs) ++ map_bytes (take m (drop n xs)) ≡ map_bytes (take (n + m) xs)
map_bytes-next xs n m = sym (map_bytes-append (take n xs) (take m (drop n xs))) ∙ ap map_bytes (sym (take-add n m xs))

-- the bytes of a part behind those of the numbers before it
pub part_waits : (a b c : Option (List ℕ)) (xs v w : List ℕ) (n m k : ℕ) → k ≡ n + m → Waits a b (map_bytes (take n xs)) v
    → Waits b c (v ++ map_bytes (take (k - n) (drop n xs))) w
    → Waits a c (map_bytes (take k xs)) w
part_waits a b c xs v w n m k e before here =
    let same : map_bytes (take n xs) ++ map_bytes (take (k - n) (drop n xs)) ≡ map_bytes (take k xs) =
    map_bytes-next xs n (k - n) ∙ ap (λ (i : ℕ). map_bytes (take i xs)) (let back : n + (k - n) ≡ k = omega arith in back) in
    subst (λ l. Waits a c l w) same (Waits-after a b c (map_bytes (take n xs)) (map_bytes (take (k - n) (drop n xs))) v w before here)

-- a front of the bytes of a part behind those before it is a front of all
pub part_cut : (a b c : Option (List ℕ)) (xs v : List ℕ) (n m k : ℕ) → k ≡ n + m → Waits a b (map_bytes (take n xs)) v
    → AppendsPrefix b c (v ++ map_bytes (take (k - n) (drop n xs))) → AppendsPrefix a c (map_bytes xs)
part_cut a b c xs v n m k e before here =
    let same : (map_bytes (take n xs) ++ map_bytes (take (k - n) (drop n xs))) ++ map_bytes (drop k xs) ≡ map_bytes xs =
    ap (λ l. l ++ map_bytes (drop k xs)) (map_bytes-next xs n (k - n) ∙ ap (λ (i : ℕ). map_bytes (take i xs))
    (let back : n + (k - n) ≡ k = omega arith in back))
    ∙ sym (map_bytes-append (take k xs) (drop k xs)) ∙ ap map_bytes (take-append-drop k xs) in
    subst (AppendsPrefix a c) same (Waits-cut a b c (map_bytes (take n xs)) (map_bytes (take (k - n) (drop n xs))) (map_bytes (drop k xs)) v before here)

pub all_wait : (a b : Option (List ℕ)) (xs v : List ℕ) (n : ℕ) → length xs ≤ n → Waits a b (map_bytes (take n xs)) v → Waits a b (map_bytes xs) v
all_wait a b xs v n le h = subst (λ l. Waits a b (map_bytes l) v) (take_all n xs le) h

-- the bytes of numbers as they are written
flat_map_is : (f : ℕ → List ℕ) (xs : List ℕ) → flat_map f xs ≡ concat (map f xs)
flat_map_is f [] = refl
flat_map_is f (x ∷ xs) = flat_map-cons f x xs ∙ ap (λ l. f x ++ l) (flat_map_is f xs)

pub bytes_are : (numbers : List ℕ) (bytes waiting : List ℕ) → bytes ≡ flat_map (big_bytes 4) numbers → waiting ++ bytes ≡ waiting ++ map_bytes numbers
unfolding map_bytes
bytes_are numbers bytes waiting e = ap (λ l. waiting ++ l) (e ∙ flat_map_is (big_bytes 4) numbers)
