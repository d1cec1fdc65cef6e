-- Model: what the words of the command that makes a tile mean, and those of the command that joins tiles. Words are counted from 1.
use Rattle.std.specs.Prelude.{ℕ, ◌+◌, ◌^◌, Bool, ◌&&◌, not, ℤ, pos, neg_ℤ, nat_le, List, [], ◌∷◌, ◌++◌, length, drop, codes}
use Rattle.std.specs.Prelude.{Option, Some, None, is_some, option_and_then, Result, Ok, Err, if◌then◌else◌}
use Rattle.std.specs.List.{position_from}
use Rattle.std.specs.Option.{option_map, option_or}
use Rattle.std.specs.Str.{bytes_eq}
use Rattle.command_line.specs.Numbers.{number_between}
use Rattle.comp_tree.specs.declared.shape.Shape.{Shape}
use Rattle.pixel_plane.specs.ImageLimits.{plane_shape}
use Rattle.source_pick.specs.declared.choice.Choice.{Choice}
use Rattle.orders.specs.declared.words.Order.{Order}
use Rattle.orders.specs.declared.words.Job.{Job}
use Rattle.orders.specs.declared.words.Job.TheVariants as job
use Rattle.orders.specs.declared.words.Usage.{Usage}
use Rattle.orders.specs.Options.{u16_in, positive_u16_in}
use Rattle.orders.specs.Words.{word_at, at_fault, order_within, order_unless}
use Rattle.tile_join.specs.declared.tiles.Frame.{Frame}
use Rattle.tile_make.specs.Placed.{is_tile_place}
use Rattle.tile_make.specs.TileOf.{frame_at}
use Rattle.tile_words.specs.declared.words.TileOrder.{TileOrder}

-- ---- the words in front of the order

-- the shape whose width is word k, and its height the next one, if there is one
unfoldable pub shape_told : List (List ℕ) → ℕ → Option Shape
shape_told words k = option_and_then (λ width. option_and_then (plane_shape width) (positive_u16_in (word_at words (k + 1)))) (positive_u16_in (word_at words k))

-- the frame that the four words behind word k tell: the column and the row of its first pixel, its width and its height
unfoldable pub frame_told : List (List ℕ) → ℕ → Option Frame
frame_told words k =
    option_and_then (λ left. option_and_then (λ top. option_map (frame_at left top) (shape_told words (k + 3))) (u16_in (word_at words (k + 2))))
    (u16_in (word_at words (k + 1)))

-- of each of the two words that tell a shape, from word k on, whether it is at fault; the second one is, where they tell none
unfoldable pub shape_faults : List (List ℕ) → ℕ → List Bool
shape_faults words k = not (is_some (positive_u16_in (word_at words k))) ∷ not (is_some (shape_told words k)) ∷ []

-- of each of the five words that tell a frame behind its name, which is to be word k
unfoldable pub frame_faults : List ℕ → List (List ℕ) → ℕ → List Bool
frame_faults name words k =
    not (bytes_eq (word_at words k) name) ∷ not (is_some (u16_in (word_at words (k + 1)))) ∷ not (is_some (u16_in (word_at words (k + 2))))
    ∷ shape_faults words (k + 3)

-- of each of the fourteen words in front of the order; one that is missing is at fault
unfoldable pub place_faults : List (List ℕ) → List Bool
place_faults words =
    not (bytes_eq (word_at words 1) (codes "tile")) ∷ not (bytes_eq (word_at words 2) (codes "--whole"))
    ∷ (shape_faults words 3 ++ (frame_faults (codes "--window") words 5 ++ frame_faults (codes "--core") words 10))

-- the first word at fault, of words from word k on
unfoldable pub first_word_at_fault : ℕ → List Bool → Option ℕ
first_word_at_fault k faults = position_from (λ fault. fault) k faults

-- ---- the number of the mesh's cells without a value, which may stand behind them

-- a whole number within which the values of images of any size lie
unfoldable pub empty_cells_in : List ℕ → Option ℤ
empty_cells_in text = number_between (neg_ℤ (pos (2 ^ 29))) (pos (2 ^ 29)) text

-- word 15 says that word 16 is it
unfoldable pub gives_number : List (List ℕ) → Bool
gives_number words = bytes_eq (word_at words 15) (codes "--empty-cells")

unfoldable pub number_told : List (List ℕ) → Option ℤ
number_told words = if gives_number words then empty_cells_in (word_at words 16) else None

-- word 16 is at fault, where it is to be a number
unfoldable pub number_fault : List (List ℕ) → Option ℕ
number_fault words = if gives_number words && not (is_some (empty_cells_in (word_at words 16))) then Some 16 else None

-- how many words stand in front of the order
abbrev pub words_in_front : Option ℤ → ℕ
words_in_front None = 14
words_in_front (Some number) = 16

-- ---- the order of a tile

-- the order that the words behind so many give
unfoldable pub order_behind : (most front : ℕ) → List (List ℕ) → Result Order Usage
order_behind most front words = order_within most (drop front words)

abbrev pub fault_behind : (front : ℕ) → Result Order Usage → Option ℕ
fault_behind front (Ok order) = None
fault_behind front (Err usage) = Some (usage.word + front)

-- the first word at fault, where images have no more pixels than the most
abbrev pub tile_fault : (most : ℕ) → List (List ℕ) → Option ℕ
tile_fault most words =
    let front = words_in_front (number_told words) in
    option_or (first_word_at_fault 1 (place_faults words)) (option_or (number_fault words) (fault_behind front (order_behind most front words)))

-- what a job that detects asks of a source
abbrev pub choice_of_job : Job → Option Choice
choice_of_job job.Tree = None
choice_of_job (job.Filter rule criterion) = None
choice_of_job (job.Detect choice) = Some choice
choice_of_job (job.Trial seed shape) = None
choice_of_job (job.Measure choice values) = None

-- the tile of this core in this window
abbrev pub tile_in : Shape → Frame → Frame → Option ℤ → Order → Choice → TileOrder
tile_in whole window core empty order choice = record {
  place = record { whole = whole; left = window.left; top = window.top; core = core };
  window = window.shape;
  empty = empty;
  order = order;
  choice = choice;
}

abbrev pub tile_by : Option Shape → Option Frame → Option Frame → Option ℤ → Result Order Usage → Option TileOrder
tile_by (Some whole) (Some window) (Some core) empty (Ok order) = option_map (tile_in whole window core empty order) (choice_of_job order.job)
tile_by whole window core empty order = None

-- the tile that the words tell, where none of them is at fault; none where the order isn't to detect
abbrev pub tile_told : (most : ℕ) → List (List ℕ) → Option TileOrder
tile_told most words =
    tile_by (shape_told words 3) (frame_told words 5) (frame_told words 10) (number_told words)
    (order_behind most (words_in_front (number_told words)) words)

-- a tile, where its place is one: the core in the window, the window in the image, and its corner on the mesh; else its window is at fault
abbrev pub tile_if_placed : Result TileOrder Usage → Result TileOrder Usage
tile_if_placed (Ok tile) = if is_tile_place tile.place tile.window tile.order.mesh then Ok tile else at_fault 5
tile_if_placed (Err usage) = Err usage

-- the order of a tile, or the first word at fault; where the order isn't to detect, that is its command
unfoldable pub tile_order_of : (most : ℕ) → List (List ℕ) → Result TileOrder Usage
tile_order_of most words =
    tile_if_placed (order_unless (tile_fault most words) (words_in_front (number_told words) + 1) (tile_told most words))

-- ---- joining

-- the one word is `join`
unfoldable pub join_order_of : List (List ℕ) → Result (Unit {0}) Usage
join_order_of words =
    if not (bytes_eq (word_at words 1) (codes "join")) then at_fault 1 else (if nat_le (length words) 1 then Ok tt else at_fault 2)
