-- The first word at fault among those that tell where a tile lies.
use Rattle.std.proofs.Common.{◌≡◌, ◌∙◌, ℕ, ◌+◌, Bool, true, false, not, cond, List, [], ◌∷◌, ◌++◌, length, refl, ap, arith, codes}
use Rattle.std.specs.Prelude.{ℤ, Option, Some, None, is_some, option_and_then}
use Rattle.std.specs.List.{position_from}
use Rattle.std.specs.Str.{bytes_eq}
use Rattle.comp_tree.specs.declared.shape.Shape.{Shape}
use Rattle.pixel_plane.specs.ImageLimits.{plane_shape}
use Rattle.orders.specs.Options.{u16_in, positive_u16_in}
use Rattle.orders.specs.Words.{word_at}
use Rattle.tile_join.specs.declared.tiles.Frame.{Frame}
use Rattle.tile_make.specs.TileOf.{frame_at}
use Rattle.tile_words.specs.TileWords.{first_word_at_fault, shape_told, shape_faults, frame_told, frame_faults, place_faults, empty_cells_in, gives_number, number_told, number_fault}
use Rattle.tile_words.specs.TileReading.{IsShapeRead, IsFrameRead, ArePlacesRead, IsNumberRead}

-- ---- lists of tests

-- a fault among the first words is the first of all
fault_within : (k j : ℕ) (xs ys : List Bool) → first_word_at_fault k xs ≡ Some j → first_word_at_fault k (xs ++ ys) ≡ Some j
unfolding first_word_at_fault
fault_within k j [] ys is = absurd (cc)
fault_within k j (true ∷ xs) ys is = is
fault_within k j (false ∷ xs) ys is = fault_within (k + 1) j xs ys is

-- where none of the first words is at fault, the first is one of the others
fault_among_others : (k : ℕ) (xs ys : List Bool) → first_word_at_fault k xs ≡ None → first_word_at_fault k (xs ++ ys) ≡ first_word_at_fault (k + length xs) ys
unfolding first_word_at_fault
fault_among_others k [] ys good = let same : k ≡ k + 0 = omega arith in ap (λ n. position_from (λ fault. fault) n ys) same
fault_among_others k (true ∷ xs) ys good = absurd (cc)
fault_among_others k (false ∷ xs) ys good =
    let same : (k + 1) + length xs ≡ k + length (false ∷ xs) = omega arith in
    fault_among_others (k + 1) xs ys good ∙ ap (λ n. position_from (λ fault. fault) n ys) same

-- ---- a shape

pub width_at_fault : (words : List (List ℕ)) (k : ℕ) → positive_u16_in (word_at words k) ≡ None → first_word_at_fault k (shape_faults words k) ≡ Some k
unfolding first_word_at_fault shape_faults
width_at_fault words k none = rw none refl

-- where the width can be read, the height tells which shape it is
shape_by : (words : List (List ℕ)) (k width : ℕ) (height : Option ℕ) (o : Option Shape) → positive_u16_in (word_at words k) ≡ Some width
    → positive_u16_in (word_at words (k + 1)) ≡ height → option_and_then (plane_shape width) height ≡ o → shape_told words k ≡ o
unfolding shape_told
shape_by words k width height o first second is = rw (first, second) is

faults_by : (words : List (List ℕ)) (k width : ℕ) (o : Option Shape) → positive_u16_in (word_at words k) ≡ Some width → shape_told words k ≡ o
    → first_word_at_fault k (shape_faults words k) ≡ cond (not (is_some o)) (Some (k + 1)) None
unfolding first_word_at_fault shape_faults
faults_by words k width o first told = rw (first, told) refl

pub height_at_fault : (words : List (List ℕ)) (k width : ℕ) (height : Option ℕ) → positive_u16_in (word_at words k) ≡ Some width
    → positive_u16_in (word_at words (k + 1)) ≡ height → option_and_then (plane_shape width) height ≡ None → first_word_at_fault k (shape_faults words k) ≡ Some (k + 1)
height_at_fault words k width height first second is = faults_by words k width None first (shape_by words k width height None first second is)

pub shape_read : (words : List (List ℕ)) (k width height : ℕ) (shape : Shape) → positive_u16_in (word_at words k) ≡ Some width
    → positive_u16_in (word_at words (k + 1)) ≡ Some height → plane_shape width height ≡ Some shape → IsShapeRead words k shape
shape_read words k width height shape first second is =
    let told = shape_by words k width (Some height) (Some shape) first second is in
    record { good = faults_by words k width (Some shape) first told; told = told }

-- ---- a frame

pub name_at_fault : (name : List ℕ) (words : List (List ℕ)) (k : ℕ) → bytes_eq (word_at words k) name ≡ false
    → first_word_at_fault k (frame_faults name words k) ≡ Some k
unfolding first_word_at_fault frame_faults
name_at_fault name words k other = rw other refl

pub column_at_fault : (name : List ℕ) (words : List (List ℕ)) (k : ℕ) → bytes_eq (word_at words k) name ≡ true
    → u16_in (word_at words (k + 1)) ≡ None → first_word_at_fault k (frame_faults name words k) ≡ Some (k + 1)
unfolding first_word_at_fault frame_faults
column_at_fault name words k named none = rw (named, none) refl

pub row_at_fault : (name : List ℕ) (words : List (List ℕ)) (k left : ℕ) → bytes_eq (word_at words k) name ≡ true
    → u16_in (word_at words (k + 1)) ≡ Some left → u16_in (word_at words (k + 2)) ≡ None → first_word_at_fault k (frame_faults name words k) ≡ Some (k + 2)
unfolding first_word_at_fault frame_faults
row_at_fault name words k left named first none = let same : k + 1 + 1 ≡ k + 2 = omega arith in rw (named, first, none) (ap Some same)

-- where the name, the column and the row are right, the first fault is that of the shape
shape_of_frame : (name : List ℕ) (words : List (List ℕ)) (k left top : ℕ) → bytes_eq (word_at words k) name ≡ true
    → u16_in (word_at words (k + 1)) ≡ Some left → u16_in (word_at words (k + 2)) ≡ Some top
    → first_word_at_fault k (frame_faults name words k) ≡ first_word_at_fault (k + 3) (shape_faults words (k + 3))
unfolding first_word_at_fault frame_faults
shape_of_frame name words k left top named first second =
    let same : k + 1 + 1 + 1 ≡ k + 3 = omega arith in
    rw (named, first, second) (ap (λ n. position_from (λ fault. fault) n (shape_faults words (k + 3))) same)

pub frame_shape_at_fault : (name : List ℕ) (words : List (List ℕ)) (k left top j : ℕ) → bytes_eq (word_at words k) name ≡ true
    → u16_in (word_at words (k + 1)) ≡ Some left → u16_in (word_at words (k + 2)) ≡ Some top
    → first_word_at_fault (k + 3) (shape_faults words (k + 3)) ≡ Some j → first_word_at_fault k (frame_faults name words k) ≡ Some j
frame_shape_at_fault name words k left top j named first second is = shape_of_frame name words k left top named first second ∙ is

frame_by : (words : List (List ℕ)) (k left top : ℕ) (shape : Shape) → u16_in (word_at words (k + 1)) ≡ Some left → u16_in (word_at words (k + 2)) ≡ Some top
    → shape_told words (k + 3) ≡ Some shape → frame_told words k ≡ Some (frame_at left top shape)
unfolding frame_told
frame_by words k left top shape first second told = rw (first, second, told) refl

pub frame_read : (name : List ℕ) (words : List (List ℕ)) (k left top : ℕ) (shape : Shape) → bytes_eq (word_at words k) name ≡ true
    → u16_in (word_at words (k + 1)) ≡ Some left → u16_in (word_at words (k + 2)) ≡ Some top
    → IsShapeRead words (k + 3) shape → IsFrameRead name words k (frame_at left top shape)
frame_read name words k left top shape named first second read = record {
  good = shape_of_frame name words k left top named first second ∙ read.good;
  told = frame_by words k left top shape first second read.told;
}

-- ---- the places

pub tile_at_fault : (words : List (List ℕ)) → bytes_eq (word_at words 1) (codes "tile") ≡ false → first_word_at_fault 1 (place_faults words) ≡ Some 1
unfolding first_word_at_fault place_faults
tile_at_fault words other = rw other refl

pub whole_name_at_fault : (words : List (List ℕ)) → bytes_eq (word_at words 1) (codes "tile") ≡ true → bytes_eq (word_at words 2) (codes "--whole") ≡ false
    → first_word_at_fault 1 (place_faults words) ≡ Some 2
unfolding first_word_at_fault place_faults
whole_name_at_fault words tile other = rw (tile, other) refl

-- the first two words are right
pub record IsNamed (words : List (List ℕ)) : Type 0 where
  pub tile : bytes_eq (word_at words 1) (codes "tile") ≡ true
  pub whole : bytes_eq (word_at words 2) (codes "--whole") ≡ true

abbrev frames_faults : List (List ℕ) → List Bool
frames_faults words = frame_faults (codes "--window") words 5 ++ frame_faults (codes "--core") words 10

behind_names : (words : List (List ℕ)) → IsNamed words → first_word_at_fault 1 (place_faults words) ≡ first_word_at_fault 3 (shape_faults words 3 ++ frames_faults words)
unfolding first_word_at_fault place_faults
behind_names words named = rw (named.tile, named.whole) refl

two : (words : List (List ℕ)) (k : ℕ) → length (shape_faults words k) ≡ 2
unfolding shape_faults
two words k = refl

five : (name : List ℕ) (words : List (List ℕ)) (k : ℕ) → length (frame_faults name words k) ≡ 5
unfolding frame_faults shape_faults
five name words k = refl

behind_whole : (words : List (List ℕ)) (whole : Shape) → IsNamed words → IsShapeRead words 3 whole
    → first_word_at_fault 1 (place_faults words) ≡ first_word_at_fault 5 (frames_faults words)
behind_whole words whole named read =
    behind_names words named ∙ fault_among_others 3 (shape_faults words 3) (frames_faults words) read.good
    ∙ ap (λ n. first_word_at_fault (3 + n) (frames_faults words)) (two words 3)

behind_window : (words : List (List ℕ)) (whole : Shape) (window : Frame) → IsNamed words → IsShapeRead words 3 whole
    → IsFrameRead (codes "--window") words 5 window → first_word_at_fault 1 (place_faults words) ≡ first_word_at_fault 10 (frame_faults (codes "--core") words 10)
behind_window words whole window named read framed =
    behind_whole words whole named read ∙ fault_among_others 5 (frame_faults (codes "--window") words 5) (frame_faults (codes "--core") words 10) framed.good
    ∙ ap (λ n. first_word_at_fault (5 + n) (frame_faults (codes "--core") words 10)) (five (codes "--window") words 5)

pub whole_at_fault : (words : List (List ℕ)) (j : ℕ) → IsNamed words → first_word_at_fault 3 (shape_faults words 3) ≡ Some j → first_word_at_fault 1 (place_faults words) ≡ Some j
whole_at_fault words j named is = behind_names words named ∙ fault_within 3 j (shape_faults words 3) (frames_faults words) is

pub window_at_fault : (words : List (List ℕ)) (whole : Shape) (j : ℕ) → IsNamed words → IsShapeRead words 3 whole
    → first_word_at_fault 5 (frame_faults (codes "--window") words 5) ≡ Some j → first_word_at_fault 1 (place_faults words) ≡ Some j
window_at_fault words whole j named read is =
    behind_whole words whole named read ∙ fault_within 5 j (frame_faults (codes "--window") words 5) (frame_faults (codes "--core") words 10) is

pub core_at_fault : (words : List (List ℕ)) (whole : Shape) (window : Frame) (j : ℕ) → IsNamed words → IsShapeRead words 3 whole
    → IsFrameRead (codes "--window") words 5 window → first_word_at_fault 10 (frame_faults (codes "--core") words 10) ≡ Some j
    → first_word_at_fault 1 (place_faults words) ≡ Some j
core_at_fault words whole window j named read framed is = behind_window words whole window named read framed ∙ is

pub places_read : (words : List (List ℕ)) (whole : Shape) (window core : Frame) → IsNamed words → IsShapeRead words 3 whole
    → IsFrameRead (codes "--window") words 5 window → IsFrameRead (codes "--core") words 10 core
    → ArePlacesRead words (record { whole = whole; window = window; core = core })
places_read words whole window core named read framed cored = record {
  good = behind_window words whole window named read framed ∙ cored.good;
  whole = read.told;
  window = framed.told;
  core = cored.told;
}

-- ---- the number of empty cells

pub no_number : (words : List (List ℕ)) → bytes_eq (word_at words 15) (codes "--empty-cells") ≡ false → IsNumberRead words None
unfolding number_fault number_told gives_number
no_number words other = record { good = rw other refl; told = rw other refl }

pub number_read : (words : List (List ℕ)) (number : ℤ) → bytes_eq (word_at words 15) (codes "--empty-cells") ≡ true
    → empty_cells_in (word_at words 16) ≡ Some number → IsNumberRead words (Some number)
unfolding number_fault number_told gives_number
number_read words number named is = record { good = rw (named, is) refl; told = rw (named, is) refl }

pub number_at_fault : (words : List (List ℕ)) → bytes_eq (word_at words 15) (codes "--empty-cells") ≡ true
    → empty_cells_in (word_at words 16) ≡ None → number_fault words ≡ Some 16
unfolding number_fault gives_number
number_at_fault words named none = rw (named, none) refl
