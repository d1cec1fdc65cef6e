use Rattle.std.proofs.Common.{rules, length, ap, sym, ◌∙◌, Some}
use Rattle.std.proofs.lemmas.Bool.{eqb-true}
use Rattle.std.proofs.lemmas.Int.{to_z-of_z}
use mir.Syntax.{w64}
use mir.Val.{SFits}
use Rattle.mesh_background.proofs.Medians.{median_from_split, none_of_none}
use Rattle.mesh_background.proofs.median.lower_median.Goals as goal

pub returns-then-is_empty : goal.returns-then-is_empty
returns-then-is_empty c = none_of_none c.args.members.now (eqb-true (length c.args.members.now) 0 (sym c.is_empty.ensures ∙ c.if-is_empty.true))

pub returns : goal.returns
returns c =
    let h = c.select_nth_unstable-lesser.ensures in
    let parts = c.select_nth_unstable-lesser.result in
    let fits : SFits w64 parts.1.now = search rules in
    ap Some (to_z-of_z w64 parts.1.now fits)
    ∙ sym (median_from_split c.args.members.now parts.0.now parts.2.now parts.1.now h.permutation h.partitioned h.front_len)
