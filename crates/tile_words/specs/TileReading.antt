-- Bookkeeping: what is read of the words that tell where a tile lies.
use Rattle.std.specs.Prelude.{◌≡◌, ℕ, ℤ, List, Option, Some, None}
use Rattle.comp_tree.specs.declared.shape.Shape.{Shape}
use Rattle.tile_join.specs.declared.tiles.Frame.{Frame}
use Rattle.tile_words.specs.declared.places.Places.{Places}
use Rattle.tile_words.specs.TileWords.{first_word_at_fault, shape_told, shape_faults, frame_told, frame_faults, place_faults, number_told, number_fault}

-- the two words from word k on tell this shape, and neither is at fault
pub record IsShapeRead (words : List (List ℕ)) (k : ℕ) (shape : Shape) : Type 0 where
  pub good : first_word_at_fault k (shape_faults words k) ≡ None
  pub told : shape_told words k ≡ Some shape

-- the five words from word k on tell this frame behind its name, and none is at fault
pub record IsFrameRead (name : List ℕ) (words : List (List ℕ)) (k : ℕ) (frame : Frame) : Type 0 where
  pub good : first_word_at_fault k (frame_faults name words k) ≡ None
  pub told : frame_told words k ≡ Some frame

-- the first fourteen words tell this, and none is at fault
pub record ArePlacesRead (words : List (List ℕ)) (places : Places) : Type 0 where
  pub good : first_word_at_fault 1 (place_faults words) ≡ None
  pub whole : shape_told words 3 ≡ Some places.whole
  pub window : frame_told words 5 ≡ Some places.window
  pub core : frame_told words 10 ≡ Some places.core

-- the number that is given is this one, or none is, and its word isn't at fault
pub record IsNumberRead (words : List (List ℕ)) (empty : Option ℤ) : Type 0 where
  pub good : number_fault words ≡ None
  pub told : number_told words ≡ empty
