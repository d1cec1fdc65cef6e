use Rattle.std.proofs.Common.{◌≤◌, [], length, sym, ◌∙◌, ap, arith}
use Rattle.std.proofs.lemmas.List.Elements.{All-nil, All-same}
use Rattle.std.proofs.lemmas.Option.{slice_get-get_or}
use Rattle.tile_join.specs.Tiles.{IsWritableRow}
use Rattle.node_sums.proofs.Exported.{count_of_sums, sums_at, sums_of_one}
use Rattle.source_pick.proofs.Exported.{few_marked, few_rows}
use Rattle.tile_make.proofs.Moving.{own_none, own_more, own_all}
use Rattle.tile_make.proofs.rows.own_rows.Goals as goal

pub loop-i-init : goal.loop-i-init
loop-i-init c = (
  (λ plane connect is are. c.new-rows.ensures.items ∙ sym (own_none c.args.place.now c.args.tree.now.shape plane connect c.args.picked.now)),
  All-same IsWritableRow c.new-rows.result.items [] c.new-rows.ensures.items (All-nil IsWritableRow),
  omega (arith, ap length c.new-rows.ensures.items),
)

pub overflow_cast-i : goal.overflow_cast-i
overflow_cast-i c =
    let few : length c.args.picked.now ≤ 2147483647 =
    omega (arith, few_marked c.args.tree.now c.args.picked.now c.requires.disjoint, few_rows c.args.tree.now c.args.picked.now c.requires.disjoint) in
    record { fits = omega (arith, few, c.loop-i-test.true) }

pub overflow_add-i : goal.overflow_add-i
overflow_add-i c =
    let few : length c.args.picked.now ≤ 2147483647 =
    omega (arith, few_marked c.args.tree.now c.args.picked.now c.requires.disjoint, few_rows c.args.tree.now c.args.picked.now c.requires.disjoint) in
    record { fits = omega (arith, few, c.loop-i-test.true) }

pub bounds-sums-i : goal.bounds-sums-i
bounds-sums-i c = omega (arith, count_of_sums c.args.tree.now c.args.picked.now c.args.sums.now c.requires.sums, c.loop-i-test.true)

pub row_in_image-row-requires-clause-sums : goal.row_in_image-row-requires-clause-sums
row_in_image-row-requires-clause-sums c =
    sums_of_one c.args.tree.now c.args.picked.now c.args.sums.now c.loop-i.i _ c.requires.sums c.loop-i-test.true

pub row_in_image-row-requires-clause-node : goal.row_in_image-row-requires-clause-node
row_in_image-row-requires-clause-node c =
    c.requires.disjoint.nodes c.loop-i.i _ (slice_get-get_or c.args.picked.now c.loop-i.i 0 c.loop-i-test.true)

pub row_in_image-row-requires-clause-few : goal.row_in_image-row-requires-clause-few
row_in_image-row-requires-clause-few c =
    let few : length c.args.picked.now ≤ 2147483647 =
    omega (arith, few_marked c.args.tree.now c.args.picked.now c.requires.disjoint, few_rows c.args.tree.now c.args.picked.now c.requires.disjoint) in
    omega (arith, few, c.loop-i-test.true)

pub loop-i-preserved : goal.loop-i-preserved
loop-i-preserved c = (
  (λ plane connect is are.
      own_more c.args.place.now c.args.tree.now.shape plane connect c.args.picked.now c.loop-i.i c.loop-i.rows.items c.keep_own.new.rows.items
      c.row_in_image-row.result c.loop-i-test.true (c.loop-i.invariant.0 plane connect is are)
      (c.row_in_image-row.ensures.exact plane connect is
      (sums_at plane connect c.args.picked.now c.args.sums.now c.loop-i.i _ are c.loop-i-test.true))
      c.in_ok-keep_own.ensures.exact),
  c.keep_own.ensures.fit c.loop-i.invariant.1,
  omega (arith, c.loop-i.invariant.2, c.keep_own.ensures.few),
)

pub returns-clause-exact : goal.returns-clause-exact
returns-clause-exact c = λ plane connect is are.
    own_all c.args.place.now c.args.tree.now.shape plane connect c.args.picked.now c.loop-i.i c.loop-i.rows.items (omega (arith, c.loop-i-test.false))
    (c.loop-i.invariant.0 plane connect is are)

pub returns-clause-fit : goal.returns-clause-fit
returns-clause-fit c = c.loop-i.invariant.1

pub returns-clause-few : goal.returns-clause-few
returns-clause-few c =
    let few : length c.args.picked.now ≤ 2147483647 =
    omega (arith, few_marked c.args.tree.now c.args.picked.now c.requires.disjoint, few_rows c.args.tree.now c.args.picked.now c.requires.disjoint) in
    omega (arith, few, c.loop-i.invariant.2, c.loop-i-test.false)
