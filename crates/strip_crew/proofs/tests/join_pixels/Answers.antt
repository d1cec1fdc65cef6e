use Rattle.std.proofs.Common.{rules, ◌+◌, List, ℕ, length, ap, ◌∙◌}
use Rattle.std.proofs.lemmas.List.{length-replicate}
use Rattle.comp_tree.specs.Forest.{no_node}
use Rattle.strip_crew.proofs.Pixels.{all_rows}
use Rattle.strip_crew.proofs.tests.join_pixels.Goals as goal

pub join_group-requires-clause-rows : goal.join_group-requires-clause-rows
join_group-requires-clause-rows g c κs within = let rows = c.args.rows.now in
    all_rows c.args.plane.now.shape.width (length c.args.links.now) rows (search rules) c.requires.rows
    (ap (λ (l : List ℕ). length l) c.requires.links ∙ length-replicate (length rows + 1) no_node)
