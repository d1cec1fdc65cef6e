use Rattle.std.proofs.Common.{◌≡◌, ◌∙◌, ◌+◌, ◌-◌, ◌*◌, ◌≤◌, length, refl, sym, ap, subst, arith}
use Rattle.std.proofs.lemmas.List.{length-set}
use Rattle.std.specs.Prelude.{slice_index}
use Rattle.node_sums.specs.Merging.{AreOwnTo, places_of}
use Rattle.node_sums.proofs.Passes
use Rattle.node_sums.proofs.Listing
use Rattle.node_sums.proofs.listed.add_row.Goals as goal

pub loop-p-init : goal.loop-p-init
loop-p-init c = record { own = c.requires.before; same_length = refl; low = omega arith; high = omega arith }

pub together-requires : goal.together-requires
together-requires c =
    let row : c.args.row * c.args.width + c.args.width ≤ length c.args.plane.now.values =
    subst (λ n. c.args.row * n + n ≤ length c.args.plane.now.values) (sym c.requires.width)
    (Passes.row_in_plane c.args.plane.now c.args.row c.requires.plane c.requires.row) in
    Passes.turn_size c.args.plane.now (places_of c.args.numbers.now c.args.node_of.now) c.loop-p.sums _ _ _ _ c.of_pixel-pixel.result c.requires.plane
    (Listing.listed_turn c.args.plane.now c.args.numbers.now c.args.node_of.now c.loop-p.sums (c.args.row * c.args.width) c.args.row
    (c.loop-p.p - c.args.row * c.args.width) c.loop-p.p _ c.in-Some.value c.get.result _ c.of_pixel-pixel.result c.loop-p.invariant.own
    (ap (λ n. c.args.row * n) c.requires.width)
    (omega (arith, c.loop-p.invariant.low)) (omega (arith, c.loop-p.invariant.low, c.loop-p-test.true, c.requires.width))
    (omega (arith, c.loop-p-test.true, row)) c.get.ensures.value c.in-Some.is c.in-Some.ensures.bounded c.of_pixel-pixel.ensures
    (omega (arith, c.loop-p-test.true, row, c.requires.one_each)) refl c.if-number-eq0.false
    (omega (arith, c.loop-p.invariant.same_length, c.requires.numbers (slice_index c.args.node_of.now c.loop-p.p))))

pub loop-p-preserved : goal.loop-p-preserved
loop-p-preserved c = record {
  own = Passes.to_next_defined c.args.plane.now (places_of c.args.numbers.now c.args.node_of.now) c.loop-p.sums _ _
      (Passes.to_next_undefined c.args.plane.now (places_of c.args.numbers.now c.args.node_of.now) c.loop-p.sums _ c.loop-p.invariant.own
      (sym c.get.ensures.value ∙ c.in_default.is)) c.next_defined-p.ensures.low c.next_defined-p.ensures.gap;
  same_length = c.loop-p.invariant.same_length;
  low = omega (arith, c.loop-p.invariant.low, c.next_defined-p.ensures.low);
  high = c.next_defined-p.ensures.high;
}

pub loop-p-preserved-else-number-eq0 : goal.loop-p-preserved-else-number-eq0
loop-p-preserved-else-number-eq0 c =
    let row : c.args.row * c.args.width + c.args.width ≤ length c.args.plane.now.values =
    subst (λ n. c.args.row * n + n ≤ length c.args.plane.now.values) (sym c.requires.width)
    (Passes.row_in_plane c.args.plane.now c.args.row c.requires.plane c.requires.row) in
    record {
      own = Passes.to_next c.args.plane.now (places_of c.args.numbers.now c.args.node_of.now) c.loop-p.sums _ _ _ _ c.of_pixel-pixel.result c.together.result
          (Listing.listed_turn c.args.plane.now c.args.numbers.now c.args.node_of.now c.loop-p.sums (c.args.row * c.args.width) c.args.row
          (c.loop-p.p - c.args.row * c.args.width) c.loop-p.p _ c.in-Some.value c.get.result _ c.of_pixel-pixel.result c.loop-p.invariant.own
          (ap (λ n. c.args.row * n) c.requires.width)
          (omega (arith, c.loop-p.invariant.low)) (omega (arith, c.loop-p.invariant.low, c.loop-p-test.true, c.requires.width))
          (omega (arith, c.loop-p-test.true, row)) c.get.ensures.value c.in-Some.is c.in-Some.ensures.bounded c.of_pixel-pixel.ensures
          (omega (arith, c.loop-p-test.true, row, c.requires.one_each)) refl c.if-number-eq0.false
          (omega (arith, c.loop-p.invariant.same_length, c.requires.numbers (slice_index c.args.node_of.now c.loop-p.p))))
          c.together.ensures;
      same_length = length-set c.loop-p.sums _ _ ∙ c.loop-p.invariant.same_length;
      low = omega (arith, c.loop-p.invariant.low);
      high = omega (arith, c.loop-p-test.true);
    }

pub loop-p-preserved-then-number-eq0 : goal.loop-p-preserved-then-number-eq0
loop-p-preserved-then-number-eq0 c =
    let row : c.args.row * c.args.width + c.args.width ≤ length c.args.plane.now.values =
    subst (λ n. c.args.row * n + n ≤ length c.args.plane.now.values) (sym c.requires.width)
    (Passes.row_in_plane c.args.plane.now c.args.row c.requires.plane c.requires.row) in
    record {
      own = Listing.to_next_unlisted c.args.plane.now (places_of c.args.numbers.now c.args.node_of.now) c.loop-p.sums c.loop-p.p c.in-Some.value c.loop-p.invariant.own
          (sym c.get.ensures.value ∙ c.in-Some.is) c.in-Some.ensures.bounded (omega (arith, c.loop-p.invariant.same_length, c.requires.few))
          (Listing.place_unlisted c.args.numbers.now c.args.node_of.now c.loop-p.p _ (omega (arith, c.loop-p-test.true, row, c.requires.one_each)) refl
          c.if-number-eq0.true);
      same_length = c.loop-p.invariant.same_length;
      low = omega (arith, c.loop-p.invariant.low);
      high = omega (arith, c.loop-p-test.true);
    }

pub returns : goal.returns
returns c =
    subst (λ n. AreOwnTo c.args.plane.now (places_of c.args.numbers.now c.args.node_of.now) n c.loop-p.sums)
    (let e : c.loop-p.p ≡ c.args.row * c.args.width + c.args.width = omega (arith, c.loop-p.invariant.high, c.loop-p-test.false) in e) c.loop-p.invariant.own

pub overflow_mul-first : goal.overflow_mul-first
overflow_mul-first c = record { fits = omega (arith, (Passes.row_fits c.args.plane.now c.args.row c.args.width c.requires.plane c.requires.width c.requires.row).small) }

pub overflow_add-end : goal.overflow_add-end
overflow_add-end c = record { fits = omega (arith, (Passes.row_fits c.args.plane.now c.args.row c.args.width c.requires.plane c.requires.width c.requires.row).small) }

pub get-requires : goal.get-requires
get-requires c = omega (arith, c.loop-p-test.true, (Passes.row_fits c.args.plane.now c.args.row c.args.width c.requires.plane c.requires.width c.requires.row).inside)

pub overflow_cast-n : goal.overflow_cast-n
overflow_cast-n c = record { fits = omega (arith, c.loop-p-test.true, (Passes.row_fits c.args.plane.now c.args.row c.args.width c.requires.plane c.requires.width c.requires.row).small) }

pub offset_bounds-node_of-p : goal.offset_bounds-node_of-p
offset_bounds-node_of-p c = record { fits = omega (arith, c.loop-p-test.true, (Passes.row_fits c.args.plane.now c.args.row c.args.width c.requires.plane c.requires.width c.requires.row).small) }

pub bounds-node_of-p : goal.bounds-node_of-p
bounds-node_of-p c = omega (arith, c.loop-p-test.true, (Passes.row_fits c.args.plane.now c.args.row c.args.width c.requires.plane c.requires.width c.requires.row).inside, c.requires.one_each)

pub overflow_sub-p : goal.overflow_sub-p
overflow_sub-p c = c.loop-p.invariant.low

pub overflow_add-p : goal.overflow_add-p
overflow_add-p c = record { fits = omega (arith, c.loop-p-test.true, (Passes.row_fits c.args.plane.now c.args.row c.args.width c.requires.plane c.requires.width c.requires.row).small) }

pub overflow_add-row : goal.overflow_add-row
overflow_add-row c = record { fits = omega (arith, (Passes.row_fits c.args.plane.now c.args.row c.args.width c.requires.plane c.requires.width c.requires.row).few_rows) }

pub of_pixel-pixel-requires-clause-column : goal.of_pixel-pixel-requires-clause-column
of_pixel-pixel-requires-clause-column c = omega (arith, c.loop-p-test.true, c.loop-p.invariant.low, (Passes.row_fits c.args.plane.now c.args.row c.args.width c.requires.plane c.requires.width c.requires.row).few_columns)

pub of_pixel-pixel-requires-clause-row : goal.of_pixel-pixel-requires-clause-row
of_pixel-pixel-requires-clause-row c = (Passes.row_fits c.args.plane.now c.args.row c.args.width c.requires.plane c.requires.width c.requires.row).few_rows

pub overflow_add-p-in_default : goal.overflow_add-p-in_default
overflow_add-p-in_default c = record { fits = omega (arith, c.loop-p-test.true, (Passes.row_fits c.args.plane.now c.args.row c.args.width c.requires.plane c.requires.width c.requires.row).small) }

pub next_defined-p-requires-clause-order : goal.next_defined-p-requires-clause-order
next_defined-p-requires-clause-order c = omega (arith, c.loop-p-test.true)

pub next_defined-p-requires-clause-inside : goal.next_defined-p-requires-clause-inside
next_defined-p-requires-clause-inside c = (Passes.row_fits c.args.plane.now c.args.row c.args.width c.requires.plane c.requires.width c.requires.row).inside
