use Rattle.std.proofs.Common.{◌≡◌, ◌∙◌, ◌+◌, ◌-◌, ◌*◌, ◌≤◌, ◌++◌, ◌⊎◌, List, length, map, sym, subst, arith, rules}
use Rattle.std.specs.Prelude.{ℤ, Option}
use Rattle.std.specs.List.{range_with_len}
use Rattle.std.specs.Vec.{vec_len}
use Rattle.std.proofs.lemmas.List.FromFn.{length-map-range_with_len}
use Rattle.comp_tree.specs.Raster.{value_at}
use Rattle.comp_tree.specs.Stored.{AreBlocksOf, shown_values}
use Rattle.comp_tree.proofs.Blocks.{block-added, gap-to, length-shown, part-at, min-reaches, if-done}
use Rattle.comp_tree.proofs.pixels.add_block.Goals as goal

pub returns : goal.returns
returns c =
    let values : List (Option ℤ) = (shown_values c.args.pixels.now c.args.marks) in
    let size : vec_len c.args.kept.now ≡ length c.args.kept.now.items = search rules in
    let all : length (shown_values c.args.pixels.now c.args.marks) ≡ length c.args.pixels.now =
    length-shown c.args.pixels.now c.args.marks in
    let order : c.first_shown-first.result ≤ c.end_of_shown-end.result = c.end_of_shown-end.ensures.low in
    let low : c.args.block * 32 ≤ c.first_shown-first.result = c.first_shown-first.ensures.low in
    let reach : (c.args.block * 32 + 32 ≤ c.min-high.result) ⊎ (length c.args.pixels.now ≤ c.min-high.result) =
    subst (λ n. (c.args.block * 32 + 32 ≤ c.min-high.result) ⊎ (n ≤ c.min-high.result)) c.len.ensures (min-reaches _ _ _ c.min-high.ensures) in
    let most : c.end_of_shown-end.result ≤ c.args.block * 32 + 32 = search rules in
    if-done c.push_shown.result
    (c.push_shown.new.kept.items ≡ c.args.kept.now.items
    ++ map (value_at values) (range_with_len c.first_shown-first.result (c.end_of_shown-end.result - c.first_shown-first.result)))
    (AreBlocksOf (c.args.block + 1) c.push.new.self.items c.push_shown.new.kept.items values)
    (λ is.
    subst (λ (l : List (Option ℤ)). AreBlocksOf (c.args.block + 1) c.push.new.self.items l values) (sym is)
    (subst
    (λ l. AreBlocksOf (c.args.block + 1) l
    (c.args.kept.now.items
    ++ map (value_at values) (range_with_len c.first_shown-first.result (c.end_of_shown-end.result - c.first_shown-first.result)))
    values)
    (sym c.in_ok-push.ensures.items)
    (block-added c.args.block c.first_shown-first.result c.end_of_shown-end.result c.args.runs.now.items _ c.args.kept.now.items _
    values c.requires.before (c.len-2.ensures ∙ size) (omega (arith, low))
    (omega (arith, low, order)) order most c.first_shown-first.ensures.none_before
    (gap-to values c.end_of_shown-end.result c.min-high.result (c.args.block * 32 + 32) c.end_of_shown-end.ensures.none_behind
    (subst (λ n. (c.args.block * 32 + 32 ≤ c.min-high.result) ⊎ (n ≤ c.min-high.result)) (sym all) reach))
    (length-map-range_with_len _ c.first_shown-first.result _)
    (λ i lt. part-at values c.first_shown-first.result _ i lt))))
    c.push_shown.ensures
