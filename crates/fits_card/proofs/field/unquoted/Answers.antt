use Rattle.std.proofs.Common.{◌≡◌, ◌∙◌, ap, sym, length, Option, Some, List, ℕ, arith, drop, []}
use Rattle.std.specs.Option.{option_map}
use Rattle.std.proofs.lemmas.List.{take_rest}
use Rattle.fits_card.specs.Pieces.{ClosedString, closed}
use Rattle.fits_card.proofs.Cutting.{with_front, with_none_in_front, plain-kept, doubled-kept, room-kept, closing-quote, last-quote, ends-with}
use Rattle.fits_card.proofs.field.unquoted.Goals as goal

pub loop-rest-init : goal.loop-rest-init
loop-rest-init c =
    let none : length c.new-text.result.items ≡ 0 = ap (length {A = ℕ}) c.new-text.ensures in
    record {
      string = with_none_in_front (closed c.args.bytes.now) ∙ ap (λ xs. option_map (with_front xs) (closed c.args.bytes.now)) (sym c.new-text.ensures);
      room = omega arith;
    }

pub loop-rest-preserved-then-rest-ne39 : goal.loop-rest-preserved-then-rest-ne39
loop-rest-preserved-then-rest-ne39 c = record {
  string =
      plain-kept c.args.bytes.now c.loop-rest.text.items c.push.new.self.items c.loop-rest.rest.now _ c.loop-rest.invariant.string c.loop-rest-test.true
      c.if-rest-ne39.true c.push.ensures.items (take_rest c.loop-rest.rest.now 1);
  room =
      room-kept c.loop-rest.text.items c.push.new.self.items c.loop-rest.rest.now _ _ 1 c.loop-rest.invariant.room c.loop-rest-test.true
      (omega arith) c.push.ensures.items (take_rest c.loop-rest.rest.now 1);
}

pub loop-rest-preserved : goal.loop-rest-preserved
loop-rest-preserved c = record {
  string =
      doubled-kept c.args.bytes.now c.loop-rest.text.items c.push-then-rest-eq39.new.self.items c.loop-rest.rest.now _ c.loop-rest.invariant.string
      c.loop-rest-test.true c.if-rest-ne39.false c.if-rest-eq39.true c.push-then-rest-eq39.ensures.items (take_rest c.loop-rest.rest.now 2);
  room =
      room-kept c.loop-rest.text.items c.push-then-rest-eq39.new.self.items c.loop-rest.rest.now _ _ 2 c.loop-rest.invariant.room c.loop-rest-test.true
      (omega arith) c.push-then-rest-eq39.ensures.items (take_rest c.loop-rest.rest.now 2);
}

pub returns-else-rest-eq39 : goal.returns-else-rest-eq39
returns-else-rest-eq39 c =
    let step = closing-quote c.loop-rest.rest.now c.loop-rest-test.true c.if-rest-ne39.false c.if-rest-eq39.false in
    ap (λ (xs : List ℕ). goal-result c.loop-rest.text.items xs) (take_rest c.loop-rest.rest.now 1)
    ∙ ends-with c.args.bytes.now c.loop-rest.text.items c.loop-rest.rest.now (drop 1 c.loop-rest.rest.now) c.loop-rest.invariant.string step
  where
    goal-result : List ℕ → List ℕ → Option ClosedString
    goal-result text rest = Some (record { text = text; rest = rest })

pub returns-then-last-eq39 : goal.returns-then-last-eq39
returns-then-last-eq39 c =
    ends-with c.args.bytes.now c.loop-rest.text.items c.loop-rest.rest.now [] c.loop-rest.invariant.string
    (last-quote c.loop-rest.rest.now (omega arith) c.if-last-eq39.true)
