-- The order of a tile, from what is read of its words.
use Rattle.std.proofs.Common.{◌≡◌, ◌∙◌, ℕ, ◌+◌, ◌-◌, ◌≤◌, min, Bool, true, false, cond, nat_le, List, length, take, drop, refl, sym, ap, inl, inr, arith, codes}
use Rattle.std.proofs.lemmas.Bool.{cases_lt}
use Rattle.std.proofs.lemmas.List.{take_all, drop_all, drop-map, length-drop, length-map}
use Rattle.std.specs.Prelude.{ℤ, Option, Some, None, Ok, Err}
use Rattle.std.specs.Str.{bytes_eq}
use denote.Ref.{Bor}
use Rattle.command_line.specs.Lines.{texts}
use Rattle.orders.specs.declared.words.Order.{Order}
use Rattle.orders.specs.declared.words.Job.{Job}
use Rattle.orders.specs.declared.words.Job.TheVariants as job
use Rattle.orders.specs.declared.words.Usage.{Usage}
use Rattle.orders.specs.Words.{word_at, at_fault, order_within}
use Rattle.source_pick.specs.declared.choice.Choice.{Choice}
use Rattle.tile_make.specs.Placed.{is_tile_place}
use Rattle.tile_words.specs.declared.places.Places.{Places}
use Rattle.tile_words.specs.declared.words.TileOrder.{TileOrder}
use Rattle.tile_words.specs.TileWords.{first_word_at_fault, place_faults, order_behind, choice_of_job, tile_in, tile_if_placed, tile_order_of, join_order_of}
use Rattle.tile_words.specs.TileWords.{number_fault, words_in_front}
use Rattle.tile_words.specs.TileReading.{ArePlacesRead, IsNumberRead}

-- ---- the words behind the places

-- the list without its first members, where there are as many
drop_front : {X : Type 0} (xs : List X) (front k : ℕ) → front ≡ min (length xs) k → drop front xs ≡ drop k xs
drop_front xs front k is = elim (cases_lt (length xs) k) [
  | inl less ↦
      let past : length xs ≤ front = omega (arith, is, less) in
      drop_all front xs past ∙ sym (drop_all k xs (omega (arith, less)))
  | inr more ↦ let same : front ≡ k = omega (arith, is, more) in ap (λ n. drop n xs) same
]

pub behind_is : (most count : ℕ) (words : List (Bor (List ℕ))) (front : ℕ) → front ≡ min (length words) count
    → order_within most (texts (take (length words - front) (drop front words))) ≡ order_behind most count (texts words)
unfolding order_behind
behind_is most count words front is =
    let all : length (drop front words) ≤ length words - front = omega (arith, length-drop front words) in
    ap (order_within most) (ap texts (take_all (length words - front) (drop front words) all ∙ drop_front words front count is) ∙ sym (drop-map (λ (w : Bor (List ℕ)). w.now) count words))

-- ---- the order of a tile

pub no_choice : (the_job : Job) → ((choice : Choice) → the_job ≡ job.Detect choice → ⊥) → choice_of_job the_job ≡ None
no_choice job.Tree other = refl
no_choice (job.Filter rule criterion) other = refl
no_choice (job.Detect choice) other = absurd (other choice refl)
no_choice (job.Trial seed shape) other = refl
no_choice (job.Measure choice values) other = refl

placing : (tile : TileOrder) (order : Order) → tile.order ≡ order → (b : Bool) → is_tile_place tile.place tile.window order.mesh ≡ b
    → tile_if_placed (Ok tile) ≡ cond b (Ok tile) (at_fault 5)
placing tile order same b is =
    let test : is_tile_place tile.place tile.window tile.order.mesh ≡ b = ap (λ (o : Order). is_tile_place tile.place tile.window o.mesh) same ∙ is in
    rw test refl

pub place_at_fault : (most : ℕ) (words : List (List ℕ)) (usage : Usage) → first_word_at_fault 1 (place_faults words) ≡ Some usage.word
    → tile_order_of most words ≡ Err usage
unfolding tile_order_of
place_at_fault most words usage is = rw is refl

pub number_word_at_fault : (most : ℕ) (words : List (List ℕ)) (places : Places) (usage : Usage) → ArePlacesRead words places
    → number_fault words ≡ Some usage.word → tile_order_of most words ≡ Err usage
unfolding tile_order_of
number_word_at_fault most words places usage read is = rw (read.good, is) refl

-- the places and the number are read
pub record IsFrontRead (words : List (List ℕ)) (places : Places) (empty : Option ℤ) : Type 0 where
  pub places_are : ArePlacesRead words places
  pub number : IsNumberRead words empty

pub order_at_fault : (most : ℕ) (words : List (List ℕ)) (places : Places) (empty : Option ℤ) (usage : Usage) → IsFrontRead words places empty
    → order_behind most (words_in_front empty) words ≡ Err usage → tile_order_of most words ≡ at_fault (usage.word + words_in_front empty)
unfolding tile_order_of
order_at_fault most words places empty usage read is = rw (read.places_are.good, read.number.good, read.number.told, is) refl

-- an order that doesn't detect
pub job_at_fault : (most : ℕ) (words : List (List ℕ)) (places : Places) (empty : Option ℤ) (order : Order) → IsFrontRead words places empty
    → order_behind most (words_in_front empty) words ≡ Ok order → choice_of_job order.job ≡ None → tile_order_of most words ≡ at_fault (words_in_front empty + 1)
unfolding tile_order_of
job_at_fault most words places empty order read is none =
    rw (read.places_are.good, read.places_are.whole, read.places_are.window, read.places_are.core, read.number.good, read.number.told, is, none) refl

tile_read : (most : ℕ) (words : List (List ℕ)) (places : Places) (empty : Option ℤ) (order : Order) (choice : Choice) → IsFrontRead words places empty
    → order_behind most (words_in_front empty) words ≡ Ok order → choice_of_job order.job ≡ Some choice → (tile : TileOrder)
    → tile ≡ tile_in places.whole places.window places.core empty order choice → tile_order_of most words ≡ tile_if_placed (Ok tile)
unfolding tile_order_of
tile_read most words places empty order choice read is detects tile tile_is =
    rw (read.places_are.good, read.places_are.whole, read.places_are.window, read.places_are.core, read.number.good, read.number.told, is, detects) (ap (λ (t : TileOrder). tile_if_placed (Ok t)) (sym tile_is))

pub tile_placed : (most : ℕ) (words : List (List ℕ)) (places : Places) (empty : Option ℤ) (order : Order) (choice : Choice) → IsFrontRead words places empty
    → order_behind most (words_in_front empty) words ≡ Ok order → choice_of_job order.job ≡ Some choice → (tile : TileOrder)
    → tile ≡ tile_in places.whole places.window places.core empty order choice → is_tile_place tile.place tile.window order.mesh ≡ true
    → tile_order_of most words ≡ Ok tile
tile_placed most words places empty order choice read is detects tile tile_is placed =
    tile_read most words places empty order choice read is detects tile tile_is ∙ placing tile order (ap (λ (t : TileOrder). t.order) tile_is) true placed

pub tile_misplaced : (most : ℕ) (words : List (List ℕ)) (places : Places) (empty : Option ℤ) (order : Order) (choice : Choice) → IsFrontRead words places empty
    → order_behind most (words_in_front empty) words ≡ Ok order → choice_of_job order.job ≡ Some choice → (tile : TileOrder)
    → tile ≡ tile_in places.whole places.window places.core empty order choice → is_tile_place tile.place tile.window order.mesh ≡ false
    → tile_order_of most words ≡ at_fault 5
tile_misplaced most words places empty order choice read is detects tile tile_is placed =
    tile_read most words places empty order choice read is detects tile tile_is ∙ placing tile order (ap (λ (t : TileOrder). t.order) tile_is) false placed

-- ---- joining

pub join_at_fault : (words : List (Bor (List ℕ))) → bytes_eq (word_at (texts words) 1) (codes "join") ≡ false → join_order_of (texts words) ≡ at_fault 1
unfolding join_order_of
join_at_fault words other = rw other refl

pub more_at_fault : (words : List (Bor (List ℕ))) → bytes_eq (word_at (texts words) 1) (codes "join") ≡ true → nat_le (length words) 1 ≡ false
    → join_order_of (texts words) ≡ at_fault 2
unfolding join_order_of
more_at_fault words join more = let same = length-map words (λ (w : Bor (List ℕ)). w.now) in rw (join, same, more) refl

pub join_read : (words : List (Bor (List ℕ))) → bytes_eq (word_at (texts words) 1) (codes "join") ≡ true → nat_le (length words) 1 ≡ true
    → join_order_of (texts words) ≡ Ok tt
unfolding join_order_of
join_read words join alone = let same = length-map words (λ (w : Bor (List ℕ)). w.now) in rw (join, same, alone) refl
