-- The numbers of a map.
use Rattle.std.proofs.Common.{◌≡◌, ◌∙◌, ℕ, suc, ◌*◌, ◌^◌, ◌<◌, List, [], ◌∷◌, ◌++◌, get_or, length, map, replicate, refl, sym, ap, ap₂, arith, All}
use Rattle.std.proofs.Common.{append_assoc, append-nil, length-append, subst, take_all}
use Rattle.std.proofs.lemmas.List.{map-append, append_cancel_left, take_at}
use Rattle.std.proofs.lemmas.List.Folds.{concat-append}
use Rattle.std.specs.List.{concat}
use Rattle.byteorder.specs.Endian.{big_number, big_bytes}
use Rattle.byteorder.specs.Numbers.{big_number-reads_back, length-bytes_high_first}
use Rattle.comp_tree.specs.declared.shape.Shape.{Shape}
use Rattle.fits_write.specs.Blocks.{filled, room_after}
use Rattle.fits_write.specs.Hdus.{header, map_cards, map_bytes, map_hdu}
use Rattle.fits_back.specs.Fronts.{BeginsNot, BeginsWithNoData}
use Rattle.fits_back.proofs.Bytes.{AreBytes, bytes_behind, bytes-take, number_written, parts_same}

-- the next number behind those that are read
pub number_read : (numbers bytes rest number behind : List ℕ) (x : ℕ) → AreBytes bytes → map_bytes numbers ++ rest ≡ bytes → rest ≡ number ++ behind
    → length number ≡ 4 → x ≡ big_number 4 number → map_bytes (numbers ++ x ∷ []) ++ behind ≡ bytes
unfolding map_bytes
number_read numbers bytes rest number behind x are so_far split four is =
    let front = concat (map (big_bytes 4) numbers) in
    let all : front ++ (number ++ behind) ≡ bytes = ap (λ l. front ++ l) (sym split) ∙ so_far in
    let part : (front ++ number) ++ behind ≡ bytes = append_assoc front number behind ∙ all in
    let bytes_here : AreBytes (number ++ behind) = bytes_behind front (number ++ behind) (subst AreBytes (sym all) are) in
    let own : AreBytes number = subst AreBytes (take_at number behind 4 four) (bytes-take 4 (number ++ behind) bytes_here) in
    let here : big_bytes 4 x ≡ number = ap (big_bytes 4) is ∙ number_written 4 number (omega arith) own ∙ take_all 4 number (omega arith) in
    let more : concat (map (big_bytes 4) (numbers ++ x ∷ [])) ≡ front ++ big_bytes 4 x = ap concat (map-append (big_bytes 4) numbers (x ∷ []))
    ∙ concat-append (map (big_bytes 4) numbers) (big_bytes 4 x ∷ []) ∙ ap (λ l. front ++ l) (append-nil (big_bytes 4 x)) in
    ap (λ l. l ++ behind) (more ∙ ap (λ l. front ++ l) here) ∙ part

pub no_numbers : (bytes : List ℕ) → map_bytes [] ++ bytes ≡ bytes
unfolding map_bytes
no_numbers bytes = refl

pub all_read : (numbers bytes rest : List ℕ) → length rest ≡ 0 → map_bytes numbers ++ rest ≡ bytes → map_bytes numbers ≡ bytes
all_read numbers bytes [] none so_far = sym (append-nil (map_bytes numbers)) ∙ so_far
all_read numbers bytes (b ∷ rest) none so_far = absurd (omega arith)

-- ---- how many bytes numbers have, and that these tell them

map_takes : (numbers : List ℕ) (n : ℕ) → length numbers ≡ n → length (map_bytes numbers) ≡ 4 * n
unfolding map_bytes
map_takes [] n many = omega arith
map_takes (x ∷ numbers) n many =
    let others : length (concat (map (big_bytes 4) numbers)) ≡ 4 * length numbers = map_takes numbers (length numbers) refl in
    omega (arith, length-append (big_bytes 4 x) (concat (map (big_bytes 4) numbers)), length-bytes_high_first 4 x, others)

number_told : (x y : ℕ) → x < 2 ^ 32 → y < 2 ^ 32 → big_bytes 4 x ≡ big_bytes 4 y → x ≡ y
number_told x y small less e =
    sym (big_number-reads_back 4 x [] small) ∙ ap (λ l. big_number 4 (l ++ [])) e ∙ big_number-reads_back 4 y [] less

pub numbers_told : (xs ys : List ℕ) → length xs ≡ length ys → ((k : ℕ) → k < length xs → get_or xs k 0 < 2 ^ 32) → ((k : ℕ) → k < length ys → get_or ys k 0 < 2 ^ 32)
    → map_bytes xs ≡ map_bytes ys → xs ≡ ys
unfolding map_bytes
numbers_told [] [] l small less e = refl
numbers_told [] (y ∷ ys) l small less e = absurd (omega arith)
numbers_told (x ∷ xs) [] l small less e = absurd (omega arith)
numbers_told (x ∷ xs) (y ∷ ys) l small less e =
    let parts = parts_same (big_bytes 4 x) (big_bytes 4 y) (concat (map (big_bytes 4) xs)) (concat (map (big_bytes 4) ys))
    (length-bytes_high_first 4 x ∙ sym (length-bytes_high_first 4 y)) e in
    ap₂ ◌∷◌ (number_told x y (small 0 (omega arith)) (less 0 (omega arith)) parts.0)
    (numbers_told xs ys (omega arith) (λ k h. small (suc k) (omega arith)) (λ k h. less (suc k) (omega arith)) parts.1)

-- ---- data of one length tell what stands behind them

pub data_told : (xs ys a b : List ℕ) → length xs ≡ length ys → filled 0 xs ++ a ≡ filled 0 ys ++ b → (xs ≡ ys) × (a ≡ b)
unfolding filled
data_told xs ys a b l e =
    let fill : List ℕ = replicate (room_after (length xs)) 0 in
    let other : List ℕ = replicate (room_after (length ys)) 0 in
    let parts = parts_same xs ys (fill ++ a) (other ++ b) l (sym (append_assoc xs fill a) ∙ e ∙ append_assoc ys other b) in
    (parts.0, append_cancel_left fill a b (parts.1 ∙ ap (λ (n : ℕ). replicate (room_after n) 0 ++ b) (sym l)))

pub maps_told : (shape : Shape) (xs ys a b : List ℕ) → length xs ≡ shape.width * shape.height → length ys ≡ shape.width * shape.height
    → All (λ n. n < 2 ^ 32) xs → All (λ n. n < 2 ^ 32) ys → map_hdu shape xs ++ a ≡ map_hdu shape ys ++ b → (xs ≡ ys) × (a ≡ b)
unfolding map_hdu
maps_told shape xs ys a b many as_many small less e =
    let front = header (map_cards shape) in
    let behind : filled 0 (map_bytes xs) ++ a ≡ filled 0 (map_bytes ys) ++ b =
    append_cancel_left front (filled 0 (map_bytes xs) ++ a) (filled 0 (map_bytes ys) ++ b)
    (sym (append_assoc front (filled 0 (map_bytes xs)) a) ∙ e ∙ append_assoc front (filled 0 (map_bytes ys)) b) in
    let l : length (map_bytes xs) ≡ length (map_bytes ys) = map_takes xs (shape.width * shape.height) many ∙ sym (map_takes ys (shape.width * shape.height) as_many) in
    let parts = data_told (map_bytes xs) (map_bytes ys) a b l behind in
    (numbers_told xs ys (many ∙ sym as_many) (λ k h. small k 0 h) (λ k h. less k 0 h) parts.0, parts.1)

-- ---- a map at the front of bytes

pub map_here : (shape : Shape) (bytes behind data_bytes rest numbers : List ℕ) → bytes ≡ header (map_cards shape) ++ behind
    → behind ≡ filled 0 data_bytes ++ rest → map_bytes numbers ≡ data_bytes → bytes ≡ map_hdu shape numbers ++ rest
unfolding map_hdu
map_here shape bytes behind data_bytes rest numbers e f are =
    e ∙ ap (λ l. header (map_cards shape) ++ l) (f ∙ ap (λ l. filled 0 l ++ rest) (sym are))
    ∙ sym (append_assoc (header (map_cards shape)) (filled 0 (map_bytes numbers)) rest)

-- none is there: the bytes don't begin with its header, or don't go on with its data
pub no_map_header : (shape : Shape) (bytes : List ℕ) → BeginsNot (header (map_cards shape)) bytes
    → (numbers rest : List ℕ) → length numbers ≡ shape.width * shape.height → All (λ n. n < 2 ^ 32) numbers → bytes ≡ map_hdu shape numbers ++ rest → ⊥
unfolding map_hdu
no_map_header shape bytes missing = λ numbers rest many small is.
    missing (filled 0 (map_bytes numbers) ++ rest) (is ∙ append_assoc (header (map_cards shape)) (filled 0 (map_bytes numbers)) rest)

pub no_map_data : (shape : Shape) (bytes behind : List ℕ) (pixels : ℕ) → pixels ≡ shape.width * shape.height → bytes ≡ header (map_cards shape) ++ behind
    → BeginsWithNoData (4 * pixels) behind
    → (numbers rest : List ℕ) → length numbers ≡ shape.width * shape.height → All (λ n. n < 2 ^ 32) numbers → bytes ≡ map_hdu shape numbers ++ rest → ⊥
unfolding map_hdu
no_map_data shape bytes behind pixels all e missing = λ numbers rest many small is.
    let front = header (map_cards shape) in
    missing (map_bytes numbers) rest (map_takes numbers pixels (many ∙ sym all))
    (append_cancel_left front behind (filled 0 (map_bytes numbers) ++ rest) (sym e ∙ is ∙ append_assoc front (filled 0 (map_bytes numbers)) rest))
