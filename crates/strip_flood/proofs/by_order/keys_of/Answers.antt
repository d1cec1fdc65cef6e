use Rattle.std.proofs.Common.{◌≡◌, ◌+◌, ◌-◌, ◌≤◌, [], ◌∷◌, length, Some, SFits, w64, to_z, of_z, All, sym, ap, subst, ◌∙◌, arith, rules}
use Rattle.std.proofs.Common.{length-append}
use Rattle.std.proofs.lemmas.Int.{to_z-of_z}
use Rattle.std.proofs.lemmas.List.Elements.{All-push}
use Rattle.comp_tree.specs.Forest.{value_at}
use Rattle.strip_flood.specs.Keys.{key_of, IsKey, HasKeys}
use Rattle.strip_flood.proofs.Packing.{has_more}
use Rattle.strip_flood.proofs.Fitting.{next_fits, gap_fits, before, next_within, less_left, place_below, few_of}
use Rattle.std.proofs.lemmas.Result.{IfOk-from_err}
use Rattle.strip_flood.proofs.Wrapping.{wrapped_within}
use Rattle.strip_flood.proofs.Packing.{keys_none, keys_gap, keys_all}
use Rattle.strip_flood.proofs.by_order.keys_of.Goals as goal

pub loop-p-preserved-in-Some : goal.loop-p-preserved-in-Some
loop-p-preserved-in-Some c =
    let value : SFits w64 c.in-Some.value = search rules in
    let fits : SFits w64 c.pack.result = search rules in
    let packed : to_z w64 (of_z w64 c.pack.result) ≡ key_of c.in-Some.value (c.loop-p.p - c.args.first)
    = to_z-of_z w64 c.pack.result fits ∙ (c.pack.ensures ∙ ap (λ v. key_of v (c.loop-p.p - c.args.first)) (to_z-of_z w64 c.in-Some.value value)) in
    let is : value_at c.args.plane.now.values c.loop-p.p ≡ Some c.in-Some.value = sym c.get.ensures.value ∙ c.in-Some.is in
    let start : c.args.first ≤ c.loop-p.p = c.loop-p.invariant.start in
    let place : c.args.first + (c.loop-p.p - c.args.first) ≡ c.loop-p.p = omega arith in
    let key : IsKey c.args.plane.now.values c.args.first (c.args.end - c.args.first) (to_z w64 (of_z w64 c.pack.result)) = record {
      value = c.in-Some.value;
      place = c.loop-p.p - c.args.first;
      packed = packed;
      within = omega (arith, c.loop-p-test.true);
      at = ap (λ q. value_at c.args.plane.now.values q) place ∙ is;
      in_range = c.in-Some.ensures.in_range;
    } in
    record {
      start = omega arith;
      inside = omega (arith, c.loop-p-test.true);
      keys = subst (λ xs. All (IsKey c.args.plane.now.values c.args.first (c.args.end - c.args.first)) xs) (sym c.in_ok-push.ensures.items)
          (All-push (IsKey c.args.plane.now.values c.args.first (c.args.end - c.args.first)) c.loop-p.keys.items
          (to_z w64 (of_z w64 c.pack.result)) c.loop-p.invariant.keys key);
      all = subst (λ xs. HasKeys c.args.plane.now.values c.args.first (c.loop-p.p + 1 - c.args.first) xs) (sym c.in_ok-push.ensures.items)
          (has_more c.args.plane.now.values c.args.first c.loop-p.p c.loop-p.keys.items c.in-Some.value
          (to_z w64 (of_z w64 c.pack.result)) start c.loop-p.invariant.all is packed);
      few = subst (λ xs. length xs + c.args.first ≤ c.loop-p.p + 1) (sym c.in_ok-push.ensures.items)
          (let few : length c.loop-p.keys.items + c.args.first ≤ c.loop-p.p = c.loop-p.invariant.few in
          omega (arith, length-append c.loop-p.keys.items (to_z w64 (of_z w64 c.pack.result) ∷ [])));
    }

pub returns-in_err-keys-clause-keys : goal.returns-in_err-keys-clause-keys
returns-in_err-keys-clause-keys c = IfOk-from_err _ _ c.from_residual.ensures.0

pub returns-in_err-keys-clause-all : goal.returns-in_err-keys-clause-all
returns-in_err-keys-clause-all c = IfOk-from_err _ _ c.from_residual.ensures.0

pub returns-in_err-keys-clause-few : goal.returns-in_err-keys-clause-few
returns-in_err-keys-clause-few c = IfOk-from_err _ _ c.from_residual.ensures.0

pub returns-in_err-push-clause-keys : goal.returns-in_err-push-clause-keys
returns-in_err-push-clause-keys c = IfOk-from_err _ _ c.from_residual-in_err-push.ensures.0

pub returns-in_err-push-clause-all : goal.returns-in_err-push-clause-all
returns-in_err-push-clause-all c = IfOk-from_err _ _ c.from_residual-in_err-push.ensures.0

pub returns-in_err-push-clause-few : goal.returns-in_err-push-clause-few
returns-in_err-push-clause-few c = IfOk-from_err _ _ c.from_residual-in_err-push.ensures.0

pub overflow_sub-end : goal.overflow_sub-end
overflow_sub-end c = c.requires.order

pub overflow_cast-end : goal.overflow_cast-end
overflow_cast-end c = gap_fits c.args.end c.args.first c.ranges.end

pub get-requires : goal.get-requires
get-requires c = before c.loop-p.p c.args.end (length c.args.plane.now.values) c.loop-p-test.true c.requires.inside

pub overflow_sub-p : goal.overflow_sub-p
overflow_sub-p c = c.loop-p.invariant.start

pub pack-requires-clause-place : goal.pack-requires-clause-place
pack-requires-clause-place c = place_below c.args.first c.loop-p.p c.args.end 16777216 c.loop-p.invariant.start c.loop-p-test.true c.requires.few

pub overflow_add-p : goal.overflow_add-p
overflow_add-p c = next_fits c.loop-p.p c.args.end c.ranges.end c.loop-p-test.true

pub loop-p-smaller-in-Some : goal.loop-p-smaller-in-Some
loop-p-smaller-in-Some c = less_left c.loop-p.p (c.loop-p.p + 1) c.args.end c.loop-p-test.true (omega arith)

pub overflow_add-p-in_default : goal.overflow_add-p-in_default
overflow_add-p-in_default c = next_fits c.loop-p.p c.args.end c.ranges.end c.loop-p-test.true

pub next_defined-p-requires-clause-order : goal.next_defined-p-requires-clause-order
next_defined-p-requires-clause-order c = next_within c.loop-p.p c.args.end c.loop-p-test.true

pub next_defined-p-requires-clause-inside : goal.next_defined-p-requires-clause-inside
next_defined-p-requires-clause-inside c = c.requires.inside

pub loop-p-smaller : goal.loop-p-smaller
loop-p-smaller c = less_left c.loop-p.p c.next_defined-p.result c.args.end c.loop-p-test.true c.next_defined-p.ensures.low

pub returns-clause-keys : goal.returns-clause-keys
returns-clause-keys c = c.loop-p.invariant.keys

pub returns-clause-few : goal.returns-clause-few
returns-clause-few c = few_of (length c.loop-p.keys.items) c.args.first c.loop-p.p c.args.end c.loop-p.invariant.few c.loop-p.invariant.inside

pub pack-requires-clause-value : goal.pack-requires-clause-value
pack-requires-clause-value c = wrapped_within c.in-Some.value c.in-Some.ensures.in_range

pub returns-clause-all : goal.returns-clause-all
returns-clause-all c = keys_all c.args.plane.now.values c.args.first c.loop-p.p c.args.end c.loop-p.keys.items c.loop-p.invariant.inside
    c.loop-p-test.false c.loop-p.invariant.all

pub loop-p-init : goal.loop-p-init
loop-p-init c =
    let none : length c.in_ok-keys.keys.items ≡ 0 = ap length c.in_ok-keys.ensures.items in
    record {
      start = omega arith;
      inside = c.requires.order;
      keys = λ k d l. absurd (omega (arith, l, none));
      all = keys_none c.args.plane.now.values c.args.first c.in_ok-keys.keys.items;
      few = omega (arith, none);
    }

pub loop-p-preserved : goal.loop-p-preserved
loop-p-preserved c =
    let inv = c.loop-p.invariant in let next = c.next_defined-p.ensures in
    let few : length c.loop-p.keys.items + c.args.first ≤ c.loop-p.p = inv.few in
    record {
      start = omega (arith, inv.start, next.low);
      inside = next.high;
      keys = inv.keys;
      all = keys_gap c.args.plane.now.values c.args.first c.loop-p.p c.next_defined-p.result c.loop-p.keys.items inv.start inv.all
          (sym c.get.ensures.value ∙ c.in_default.is) next.gap;
      few = omega (arith, few, next.low);
    }
