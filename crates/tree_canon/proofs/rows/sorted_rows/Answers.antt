use Rattle.std.proofs.Common.{◌∙◌}
use Rattle.std.proofs.lemmas.List.{with_items_is}
use Rattle.tree_canon.proofs.Sorting.{sorted-in_order}
use Rattle.tree_canon.proofs.rows.sorted_rows.Goals as goal

pub returns : goal.returns
returns g c =
    with_items_is c.in_ok-rows.rows c.sort_rows.new.rows (c.sort_rows.ensures.same_length ∙ c.deref_mut.ensures.len)
    ∙ sorted-in_order c.args.plane.now c.args.pixels.now c.requires c.deref_mut.result.now c.sort_rows.new.rows
    (c.deref_mut.ensures.value ∙ c.in_ok-rows.ensures) c.sort_rows.ensures.permutation c.sort_rows.ensures.sorted
