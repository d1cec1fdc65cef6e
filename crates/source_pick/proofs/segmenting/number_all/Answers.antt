use Rattle.std.proofs.Common.{◌≡◌, ◌∙◌, ap, arith, length, zero-add}
use Rattle.std.proofs.lemmas.List.{length-replicate}
use Rattle.node_sums.specs.DisjointNodes.{listed_number_at}
use Rattle.node_sums.proofs.Exported.{zeros_replicate}
use Rattle.source_pick.proofs.PassesMarks.{pixels_all}
use Rattle.source_pick.proofs.segmenting.number_all.Goals as goal

pub number_pixels-requires-clause-inside : goal.number_pixels-requires-clause-inside
number_pixels-requires-clause-inside c =
    let size : length c.args.map.now ≡ length c.args.tree.now.node_of = ap length c.requires.blank ∙ length-replicate (length c.args.tree.now.node_of) 0 in
    omega arith

pub number_pixels-requires-clause-blank : goal.number_pixels-requires-clause-blank
number_pixels-requires-clause-blank c = zeros_replicate c.args.map.now (length c.args.tree.now.node_of) c.requires.blank

pub returns : goal.returns
returns c = λ marked plane connect d known same.
    let size : length c.args.map.now ≡ length c.args.tree.now.node_of = ap length c.requires.blank ∙ length-replicate (length c.args.tree.now.node_of) 0 in
    pixels_all plane connect c.args.tree.now marked c.number_pixels.new.map same (c.number_pixels.auto.map ∙ size)
    (λ i l. c.number_pixels.ensures.each marked plane connect d known same i (omega arith) ∙ ap (listed_number_at plane connect marked) (zero-add i))
