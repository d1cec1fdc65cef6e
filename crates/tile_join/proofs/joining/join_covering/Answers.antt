use Rattle.std.proofs.Common.{◌≡◌, ℕ, List, map, length, get_or, sym, ◌∙◌, ap, subst, IsPermutation}
use Rattle.std.specs.List.Sorted.{IsNonDecreasingBy}
use Rattle.node_sums.proofs.Exported.{take_front}
use Rattle.tile_laws.specs.Pieces.{numbered_rows}
use Rattle.tile_join.specs.declared.placing.PlacedRow.{PlacedRow}
use Rattle.tile_join.specs.Tiles.{rows_of_tiles}
use Rattle.tile_join.specs.Joins.{rows_in_order}
use Rattle.tile_join.specs.Places.{HaveFirstsIn, placed_row, rows_of_placed, ArePlacedInOrder}
use Rattle.tile_join.proofs.Firsts.{all_firsts}
use Rattle.tile_join.proofs.Sorted.{clash_is_two, in_order, firsts_distinct, rows_are_the_model}
use Rattle.tile_join.proofs.Numbers.{numbers_all}
use Rattle.tile_join.proofs.joining.join_covering.Goals as goal

pub sorted_rows-requires : goal.sorted_rows-requires
sorted_rows-requires c = record { fit = c.requires.fit }

pub first_clash-requires : goal.first_clash-requires
first_clash-requires c = record {
  sorted = subst (λ (ps : List PlacedRow). IsNonDecreasingBy (λ (s : PlacedRow). s.first) ps) (sym c.deref.ensures.value) c.in_ok-placed.ensures.sorted;
}

pub returns-in-Some-clause-fault : goal.returns-in-Some-clause-fault
returns-in-Some-clause-fault c =
    let perm : IsPermutation (map (placed_row c.args.whole.width) (rows_of_tiles c.args.tiles.now)) c.deref.result.now =
    subst (λ (ps : List PlacedRow). IsPermutation (map (placed_row c.args.whole.width) (rows_of_tiles c.args.tiles.now)) ps) (sym c.deref.ensures.value)
    c.in_ok-placed.ensures.same in
    let firsts : HaveFirstsIn c.args.whole (rows_of_tiles c.args.tiles.now) = all_firsts c.args.whole c.args.tiles.now c.requires.fit in
    clash_is_two c.args.whole c.args.tiles.now c.deref.result.now firsts perm c.in-Some.pixel c.in-Some.ensures

pub write_tiles-requires-clause-fit : goal.write_tiles-requires-clause-fit
write_tiles-requires-clause-fit c = c.requires.fit

pub write_tiles-requires-clause-order : goal.write_tiles-requires-clause-order
write_tiles-requires-clause-order c =
    let perm : IsPermutation (map (placed_row c.args.whole.width) (rows_of_tiles c.args.tiles.now)) c.deref.result.now =
    subst (λ (ps : List PlacedRow). IsPermutation (map (placed_row c.args.whole.width) (rows_of_tiles c.args.tiles.now)) ps) (sym c.deref.ensures.value)
    c.in_ok-placed.ensures.same in
    let firsts : HaveFirstsIn c.args.whole (rows_of_tiles c.args.tiles.now) = all_firsts c.args.whole c.args.tiles.now c.requires.fit in
    subst (λ (ps : List PlacedRow). ArePlacedInOrder c.args.whole ps) (c.deref.ensures.value ∙ sym c.deref-3.ensures.value)
    (in_order c.args.whole c.args.tiles.now c.deref.result.now firsts perm c.in_default.ensures)

pub write_tiles-requires-clause-rows : goal.write_tiles-requires-clause-rows
write_tiles-requires-clause-rows c =
    let perm : IsPermutation (map (placed_row c.args.whole.width) (rows_of_tiles c.args.tiles.now)) c.deref.result.now =
    subst (λ (ps : List PlacedRow). IsPermutation (map (placed_row c.args.whole.width) (rows_of_tiles c.args.tiles.now)) ps) (sym c.deref.ensures.value)
    c.in_ok-placed.ensures.same in
    let firsts : HaveFirstsIn c.args.whole (rows_of_tiles c.args.tiles.now) = all_firsts c.args.whole c.args.tiles.now c.requires.fit in
    subst (λ (ps : List PlacedRow). rows_of_placed ps ≡ rows_in_order c.args.whole c.args.tiles.now) (c.deref.ensures.value ∙ sym c.deref-3.ensures.value)
    (rows_are_the_model c.args.whole c.args.tiles.now c.deref.result.now firsts perm c.in_default.ensures)

pub write_tiles-requires-clause-one_each : goal.write_tiles-requires-clause-one_each
write_tiles-requires-clause-one_each c = ap length c.deref_mut.ensures.value ∙ c.requires.one_each

pub write_tiles-requires-clause-blank : goal.write_tiles-requires-clause-blank
write_tiles-requires-clause-blank c = λ p. ap (λ (ns : List ℕ). get_or ns p 0) c.deref_mut.ensures.value ∙ c.requires.blank p

pub returns-clause-rows : goal.returns-clause-rows
returns-clause-rows c =
    let perm : IsPermutation (map (placed_row c.args.whole.width) (rows_of_tiles c.args.tiles.now)) c.deref.result.now =
    subst (λ (ps : List PlacedRow). IsPermutation (map (placed_row c.args.whole.width) (rows_of_tiles c.args.tiles.now)) ps) (sym c.deref.ensures.value)
    c.in_ok-placed.ensures.same in
    let firsts : HaveFirstsIn c.args.whole (rows_of_tiles c.args.tiles.now) = all_firsts c.args.whole c.args.tiles.now c.requires.fit in
    c.in_ok-rows.ensures
    ∙ ap numbered_rows (ap rows_of_placed (c.deref-2.ensures.value ∙ sym c.deref.ensures.value)
    ∙ rows_are_the_model c.args.whole c.args.tiles.now c.deref.result.now firsts perm c.in_default.ensures)

pub returns-clause-map : goal.returns-clause-map
returns-clause-map c =
    take_front c.write_tiles.new.map _ _ (c.write_tiles.auto.map ∙ c.deref_mut.ensures.len)
    ∙ numbers_all c.args.whole c.args.tiles.now c.write_tiles.new.map (c.write_tiles.auto.map ∙ ap length c.deref_mut.ensures.value ∙ c.requires.one_each) c.in_ok-write_tiles.ensures

pub returns-clause-distinct : goal.returns-clause-distinct
returns-clause-distinct c =
    let perm : IsPermutation (map (placed_row c.args.whole.width) (rows_of_tiles c.args.tiles.now)) c.deref.result.now =
    subst (λ (ps : List PlacedRow). IsPermutation (map (placed_row c.args.whole.width) (rows_of_tiles c.args.tiles.now)) ps) (sym c.deref.ensures.value)
    c.in_ok-placed.ensures.same in
    let firsts : HaveFirstsIn c.args.whole (rows_of_tiles c.args.tiles.now) = all_firsts c.args.whole c.args.tiles.now c.requires.fit in
    firsts_distinct c.args.whole c.args.tiles.now c.deref.result.now firsts perm c.in_default.ensures
