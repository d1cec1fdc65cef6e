use Rattle.std.proofs.Common.{◌∙◌, ℕ, List, replicate, sym, ap, subst, length}
use Rattle.std.proofs.lemmas.List.{length-replicate}
use Rattle.std.proofs.lemmas.Result.{IfOk-from_err}
use Rattle.node_sums.proofs.Exported.{take_front}
use Rattle.node_sums.specs.DisjointNodes.{AreNumbered}
use Rattle.source_pick.proofs.PassesMarks.{map_bound}
use Rattle.source_pick.proofs.segmenting.segment_in_parts.Goals as goal

pub returns-clause-exact : goal.returns-clause-exact
returns-clause-exact g c = λ plane connect same.
    let numbered : AreNumbered c.args.tree.now c.args.sources.now (length c.args.tree.now.rows) c.deref.result.now =
    subst (λ (xs : List ℕ). AreNumbered c.args.tree.now c.args.sources.now (length c.args.tree.now.rows) xs) (sym c.deref.ensures.value)
    c.in_ok-numbers.ensures in
    take_front c.number_bands.new.map _ _ (c.number_bands.auto.map ∙ c.deref_mut.ensures.len)
    ∙ c.number_bands.ensures c.args.sources.now plane connect c.requires numbered same

pub returns-clause-few : goal.returns-clause-few
returns-clause-few g c =
    let numbered : AreNumbered c.args.tree.now c.args.sources.now (length c.args.tree.now.rows) c.deref.result.now =
    subst (λ (xs : List ℕ). AreNumbered c.args.tree.now c.args.sources.now (length c.args.tree.now.rows) xs) (sym c.deref.ensures.value)
    c.in_ok-numbers.ensures in
    map_bound c.args.tree.now c.args.sources.now _ c.requires
    (take_front c.number_bands.new.map _ _ (c.number_bands.auto.map ∙ c.deref_mut.ensures.len)
    ∙ c.number_bands.ensures c.args.sources.now c.requires.plane c.requires.connect c.requires numbered c.requires.tree_is)

pub numbers_of_nodes-requires : goal.numbers_of_nodes-requires
numbers_of_nodes-requires g c = c.requires

pub returns-in_err-numbers-clause-exact : goal.returns-in_err-numbers-clause-exact
returns-in_err-numbers-clause-exact g c = IfOk-from_err _ _ c.from_residual.ensures.0

pub returns-in_err-numbers-clause-one_each : goal.returns-in_err-numbers-clause-one_each
returns-in_err-numbers-clause-one_each g c = IfOk-from_err _ _ c.from_residual.ensures.0

pub returns-in_err-numbers-clause-few : goal.returns-in_err-numbers-clause-few
returns-in_err-numbers-clause-few g c = IfOk-from_err _ _ c.from_residual.ensures.0

pub returns-in_err-map-clause-exact : goal.returns-in_err-map-clause-exact
returns-in_err-map-clause-exact g c = IfOk-from_err _ _ c.from_residual-in_err-map.ensures.0

pub returns-in_err-map-clause-one_each : goal.returns-in_err-map-clause-one_each
returns-in_err-map-clause-one_each g c = IfOk-from_err _ _ c.from_residual-in_err-map.ensures.0

pub returns-in_err-map-clause-few : goal.returns-in_err-map-clause-few
returns-in_err-map-clause-few g c = IfOk-from_err _ _ c.from_residual-in_err-map.ensures.0

pub number_bands-requires-clause-numbers : goal.number_bands-requires-clause-numbers
number_bands-requires-clause-numbers g c = λ κs l. ap length c.deref.ensures.value ∙ c.in_ok-numbers.ensures.one_each

pub number_bands-requires-clause-blank : goal.number_bands-requires-clause-blank
number_bands-requires-clause-blank g c = λ κs l.
    c.deref_mut.ensures.value ∙ c.in_ok-map.ensures ∙ ap (λ (n : ℕ). replicate n 0) (ap length c.node_of.ensures.same)

pub returns-clause-one_each : goal.returns-clause-one_each
returns-clause-one_each g c =
    ap length (take_front c.number_bands.new.map _ _ (c.number_bands.auto.map ∙ c.deref_mut.ensures.len)) ∙ c.number_bands.auto.map
    ∙ ap length (c.deref_mut.ensures.value ∙ c.in_ok-map.ensures) ∙ length-replicate (length c.node_of.result.now) 0 ∙ ap length c.node_of.ensures.same

pub number_bands-requires-clause-some : goal.number_bands-requires-clause-some
number_bands-requires-clause-some g c = λ κs l. c.band_size.ensures.some
