use Rattle.std.proofs.Common.{ℕ, sym, subst, arith, rules}
use Rattle.std.specs.Prelude.{Ok, Err}
use Rattle.std.specs.Ordering.{nat_cmp}
use Rattle.std.specs.List.Sorted.{IsBinarySearchResult}
use Rattle.std.proofs.lemmas.List.Sorted.{answers_always}
use Rattle.tile_join.specs.declared.placing.PlacedRow.{PlacedRow}
use Rattle.tile_join.proofs.Numbers.{few_rows, searched_number}
use Rattle.tile_join.proofs.writing.number_among.Goals as goal

pub overflow_cast-result : goal.overflow_cast-result
overflow_cast-result c =
    let few = few_rows c.args.whole c.args.placed.now c.requires.order in
    let most = c.args.whole.within_limits.few_pixels in
    omega (arith, few, most, c.in-Ok.ensures.bound)

pub overflow_add-result : goal.overflow_add-result
overflow_add-result c =
    let few = few_rows c.args.whole c.args.placed.now c.requires.order in
    let most = c.args.whole.within_limits.few_pixels in
    omega (arith, few, most, c.in-Ok.ensures.bound)

pub returns-in-Ok : goal.returns-in-Ok
returns-in-Ok c =
    sym (searched_number c.args.whole c.args.placed.now c.requires.order c.args.row.now (Ok c.in-Ok.place)
    (subst (λ (n : ℕ). IsBinarySearchResult (λ (b : PlacedRow). nat_cmp b.first n) c.args.placed.now (Ok c.in-Ok.place)) c.first_pixel.ensures.place
    (c.in-Ok.ensures.position (λ (b : PlacedRow). b.first) (answers_always _ _ _ (λ f a r q k. search rules))))
    c.in-Ok.ensures.bound)

pub returns-in-Err : goal.returns-in-Err
returns-in-Err c =
    sym (searched_number c.args.whole c.args.placed.now c.requires.order c.args.row.now (Err c.in-Err.field-0)
    (subst (λ (n : ℕ). IsBinarySearchResult (λ (b : PlacedRow). nat_cmp b.first n) c.args.placed.now (Err c.in-Err.field-0)) c.first_pixel.ensures.place
    (c.in-Err.ensures.position (λ (b : PlacedRow). b.first) (answers_always _ _ _ (λ f a r q k. search rules))))
    c.in-Err.ensures.bound)
