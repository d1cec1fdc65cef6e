use Rattle.std.proofs.Common.{◌≡◌, ◌∙◌, ◌+◌, ◌-◌, ◌*◌, ◌≤◌, length, refl, sym, ap, subst, arith}
use Rattle.std.proofs.lemmas.List.{length-set}
use Rattle.node_sums.specs.Merging.{AreOwnTo}
use Rattle.node_sums.specs.OutlinePasses.{AreOutlinesOf}
use Rattle.node_sums.proofs.Passes.{row_in_plane, row_fits, defined-of}
use Rattle.node_sums.proofs.OutlineSteps
use Rattle.node_sums.proofs.outline.add_row.Goals as goal

pub loop-p-init : goal.loop-p-init
loop-p-init c = record { own = c.requires.before; same_length = refl; low = omega arith; high = omega arith }

pub together-requires : goal.together-requires
together-requires c =
    let row : c.args.row * c.args.width + c.args.width ≤ length c.args.plane.now.values =
    subst (λ n. c.args.row * n + n ≤ length c.args.plane.now.values) (sym c.requires.width)
    (row_in_plane c.args.plane.now c.args.row c.requires.plane c.requires.row) in
    OutlineSteps.turn_fits c.args.plane.now c.args.node_of.now c.loop-p.outlines _ _ _ c.of_pixel-pixel.result c.requires.plane
    (OutlineSteps.outline_turn c.args.plane.now c.args.node_of.now c.loop-p.outlines (c.args.row * c.args.width) c.args.row
    (c.loop-p.p - c.args.row * c.args.width)
    c.loop-p.p c.in-Some.value c.get.result _ c.of_pixel-pixel.result c.loop-p.invariant.own (ap (λ n. c.args.row * n) c.requires.width)
    (omega (arith, c.loop-p.invariant.low)) (omega (arith, c.loop-p.invariant.low, c.loop-p-test.true, c.requires.width))
    (omega (arith, c.loop-p-test.true, row)) c.get.ensures.value c.in-Some.is c.in-Some.ensures.bounded c.of_pixel-pixel.ensures
    (omega (
      arith,
      c.loop-p.invariant.same_length,
      c.requires.nodes c.loop-p.p (defined-of c.args.plane.now c.loop-p.p c.in-Some.value (sym c.get.ensures.value ∙ c.in-Some.is)),
    )))

pub loop-p-preserved : goal.loop-p-preserved
loop-p-preserved c = record {
  own = OutlineSteps.outlines_to_next_defined c.args.plane.now c.args.node_of.now c.loop-p.outlines _ _
      (OutlineSteps.turn_undefined c.args.plane.now c.args.node_of.now c.loop-p.outlines _ c.loop-p.invariant.own
      (sym c.get.ensures.value ∙ c.in_default.is)) c.next_defined-p.ensures.low c.next_defined-p.ensures.gap;
  same_length = c.loop-p.invariant.same_length;
  low = omega (arith, c.loop-p.invariant.low, c.next_defined-p.ensures.low);
  high = c.next_defined-p.ensures.high;
}

pub loop-p-preserved-in-Some : goal.loop-p-preserved-in-Some
loop-p-preserved-in-Some c =
    let row : c.args.row * c.args.width + c.args.width ≤ length c.args.plane.now.values =
    subst (λ n. c.args.row * n + n ≤ length c.args.plane.now.values) (sym c.requires.width)
    (row_in_plane c.args.plane.now c.args.row c.requires.plane c.requires.row) in
    record {
      own = OutlineSteps.turn_to_next c.args.plane.now c.args.node_of.now c.loop-p.outlines _ _ _ c.of_pixel-pixel.result
          c.together.result
          (OutlineSteps.outline_turn c.args.plane.now c.args.node_of.now c.loop-p.outlines (c.args.row * c.args.width) c.args.row
          (c.loop-p.p - c.args.row * c.args.width)
          c.loop-p.p c.in-Some.value c.get.result _ c.of_pixel-pixel.result c.loop-p.invariant.own (ap (λ n. c.args.row * n) c.requires.width)
          (omega (arith, c.loop-p.invariant.low)) (omega (arith, c.loop-p.invariant.low, c.loop-p-test.true, c.requires.width))
          (omega (arith, c.loop-p-test.true, row)) c.get.ensures.value c.in-Some.is c.in-Some.ensures.bounded c.of_pixel-pixel.ensures
          (omega (
            arith,
            c.loop-p.invariant.same_length,
            c.requires.nodes c.loop-p.p (defined-of c.args.plane.now c.loop-p.p c.in-Some.value (sym c.get.ensures.value ∙ c.in-Some.is)),
          ))) c.together.ensures;
      same_length = length-set c.loop-p.outlines _ _ ∙ c.loop-p.invariant.same_length;
      low = omega (arith, c.loop-p.invariant.low);
      high = omega (arith, c.loop-p-test.true);
    }

pub returns : goal.returns
returns c =
    subst (λ n. AreOutlinesOf (AreOwnTo c.args.plane.now c.args.node_of.now n) c.loop-p.outlines)
    (let e : c.loop-p.p ≡ c.args.row * c.args.width + c.args.width = omega (arith, c.loop-p.invariant.high, c.loop-p-test.false) in e) c.loop-p.invariant.own

pub overflow_mul-first : goal.overflow_mul-first
overflow_mul-first c = record { fits = omega (arith, (row_fits c.args.plane.now c.args.row c.args.width c.requires.plane c.requires.width c.requires.row).small) }

pub overflow_add-end : goal.overflow_add-end
overflow_add-end c = record { fits = omega (arith, (row_fits c.args.plane.now c.args.row c.args.width c.requires.plane c.requires.width c.requires.row).small) }

pub get-requires : goal.get-requires
get-requires c = omega (arith, c.loop-p-test.true, (row_fits c.args.plane.now c.args.row c.args.width c.requires.plane c.requires.width c.requires.row).inside)

pub overflow_cast-n : goal.overflow_cast-n
overflow_cast-n c = record { fits = omega (arith, c.loop-p-test.true, (row_fits c.args.plane.now c.args.row c.args.width c.requires.plane c.requires.width c.requires.row).small) }

pub offset_bounds-node_of-p : goal.offset_bounds-node_of-p
offset_bounds-node_of-p c = record { fits = omega (arith, c.loop-p-test.true, (row_fits c.args.plane.now c.args.row c.args.width c.requires.plane c.requires.width c.requires.row).small) }

pub bounds-node_of-p : goal.bounds-node_of-p
bounds-node_of-p c = omega (arith, c.loop-p-test.true, (row_fits c.args.plane.now c.args.row c.args.width c.requires.plane c.requires.width c.requires.row).inside, c.requires.one_each)

pub overflow_sub-p : goal.overflow_sub-p
overflow_sub-p c = c.loop-p.invariant.low

pub overflow_add-p : goal.overflow_add-p
overflow_add-p c = record { fits = omega (arith, c.loop-p-test.true, (row_fits c.args.plane.now c.args.row c.args.width c.requires.plane c.requires.width c.requires.row).small) }

pub overflow_add-row : goal.overflow_add-row
overflow_add-row c = record { fits = omega (arith, (row_fits c.args.plane.now c.args.row c.args.width c.requires.plane c.requires.width c.requires.row).few_rows) }

pub offset_bounds-outlines-n : goal.offset_bounds-outlines-n
offset_bounds-outlines-n c = record { fits = omega (arith, (c.type_inv.node_of c.loop-p.p).fits) }

pub bounds-outlines-n : goal.bounds-outlines-n
bounds-outlines-n c =
    omega (
      arith,
      c.loop-p.invariant.same_length,
      c.requires.nodes c.loop-p.p (defined-of c.args.plane.now c.loop-p.p c.in-Some.value (sym c.get.ensures.value ∙ c.in-Some.is)),
    )

pub offset_bounds-outlines-n-in-Some : goal.offset_bounds-outlines-n-in-Some
offset_bounds-outlines-n-in-Some c = record { fits = omega (arith, (c.type_inv.node_of c.loop-p.p).fits) }

pub bounds-outlines-n-in-Some : goal.bounds-outlines-n-in-Some
bounds-outlines-n-in-Some c =
    omega (
      arith,
      c.loop-p.invariant.same_length,
      c.requires.nodes c.loop-p.p (defined-of c.args.plane.now c.loop-p.p c.in-Some.value (sym c.get.ensures.value ∙ c.in-Some.is)),
    )

pub overflow_add-p-in-Some : goal.overflow_add-p-in-Some
overflow_add-p-in-Some c = record { fits = omega (arith, c.loop-p-test.true, (row_fits c.args.plane.now c.args.row c.args.width c.requires.plane c.requires.width c.requires.row).small) }

pub overflow_add-p-in_default : goal.overflow_add-p-in_default
overflow_add-p-in_default c = record { fits = omega (arith, c.loop-p-test.true, (row_fits c.args.plane.now c.args.row c.args.width c.requires.plane c.requires.width c.requires.row).small) }

pub next_defined-p-requires-clause-order : goal.next_defined-p-requires-clause-order
next_defined-p-requires-clause-order c = omega (arith, c.loop-p-test.true)

pub next_defined-p-requires-clause-inside : goal.next_defined-p-requires-clause-inside
next_defined-p-requires-clause-inside c = (row_fits c.args.plane.now c.args.row c.args.width c.requires.plane c.requires.width c.requires.row).inside
