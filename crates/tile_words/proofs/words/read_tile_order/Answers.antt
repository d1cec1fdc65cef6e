use Rattle.std.proofs.Common.{◌∙◌, ℕ, ◌+◌, sym, ap}
use Rattle.std.specs.Prelude.{Result}
use Rattle.command_line.specs.Lines.{texts}
use Rattle.orders.specs.declared.words.Usage.{Usage}
use Rattle.orders.specs.Words.{at_fault}
use Rattle.tile_words.specs.declared.words.TileOrder.{TileOrder}
use Rattle.tile_words.specs.TileWords.{choice_of_job, order_behind}
use Rattle.tile_words.proofs.Orders.{place_at_fault, number_word_at_fault, order_at_fault, job_at_fault, no_choice, tile_placed, tile_misplaced}
use Rattle.tile_words.proofs.words.read_tile_order.Goals as goal

pub returns-in-Err-clause-order : goal.returns-in-Err-clause-order
returns-in-Err-clause-order c = sym (place_at_fault c.args.most (texts c.args.words.now) c.in-Err.usage c.in-Err.ensures)

pub returns-in-Err-read_number-clause-order : goal.returns-in-Err-read_number-clause-order
returns-in-Err-read_number-clause-order c =
    sym (number_word_at_fault c.args.most (texts c.args.words.now) c.in-Ok.places c.in-Err-read_number.usage c.in-Ok.ensures
    c.in-Err-read_number.ensures.read)

pub returns-in-Err-read_order_behind-clause-order : goal.returns-in-Err-read_order_behind-clause-order
returns-in-Err-read_order_behind-clause-order c =
    ap (λ (n : ℕ). let r : Result TileOrder Usage = at_fault (c.in-Err-read_order_behind.usage.word + n) in r) c.words_in_front-front.ensures.count
    ∙ sym (order_at_fault c.args.most (texts c.args.words.now) c.in-Ok.places c.in-Ok-read_number.empty c.in-Err-read_order_behind.usage
    (record { places_are = c.in-Ok.ensures; number = c.in-Ok-read_number.ensures.read })
    (sym (c.in-Err-read_order_behind.ensures.order
    ∙ ap (λ (n : ℕ). order_behind c.args.most n (texts c.args.words.now)) c.words_in_front-front.ensures.count)))

pub returns-in_default : goal.returns-in_default
returns-in_default c = record {
  order = ap (λ (n : ℕ). let r : Result TileOrder Usage = at_fault (n + 1) in r) c.words_in_front-front.ensures.count
      ∙ sym (job_at_fault c.args.most (texts c.args.words.now) c.in-Ok.places c.in-Ok-read_number.empty c.in-Ok-read_order_behind.order
      (record { places_are = c.in-Ok.ensures; number = c.in-Ok-read_number.ensures.read })
      (sym (c.in-Ok-read_order_behind.ensures.order
      ∙ ap (λ (n : ℕ). order_behind c.args.most n (texts c.args.words.now)) c.words_in_front-front.ensures.count))
      (no_choice c.in-Ok-read_order_behind.order.job c.in_default.not-Detect));
  limits = tt;
  job = tt;
  number = tt;
  contrast = tt;
  placed = tt;
}

pub returns-then-is_placed-clause-order : goal.returns-then-is_placed-clause-order
returns-then-is_placed-clause-order c =
    sym (tile_placed c.args.most (texts c.args.words.now) c.in-Ok.places c.in-Ok-read_number.empty c.in-Ok-read_order_behind.order c.in-Detect.choice
    (record { places_are = c.in-Ok.ensures; number = c.in-Ok-read_number.ensures.read })
    (sym (c.in-Ok-read_order_behind.ensures.order
    ∙ ap (λ (n : ℕ). order_behind c.args.most n (texts c.args.words.now)) c.words_in_front-front.ensures.count))
    (ap choice_of_job c.in-Detect.is) c.tile_of-tile.result c.tile_of-tile.ensures
    (sym c.if-is_placed.ensures))

pub returns-else-is_placed-clause-order : goal.returns-else-is_placed-clause-order
returns-else-is_placed-clause-order c =
    sym (tile_misplaced c.args.most (texts c.args.words.now) c.in-Ok.places c.in-Ok-read_number.empty c.in-Ok-read_order_behind.order c.in-Detect.choice
    (record { places_are = c.in-Ok.ensures; number = c.in-Ok-read_number.ensures.read })
    (sym (c.in-Ok-read_order_behind.ensures.order
    ∙ ap (λ (n : ℕ). order_behind c.args.most n (texts c.args.words.now)) c.words_in_front-front.ensures.count))
    (ap choice_of_job c.in-Detect.is) c.tile_of-tile.result c.tile_of-tile.ensures
    (sym c.if-is_placed.ensures))
