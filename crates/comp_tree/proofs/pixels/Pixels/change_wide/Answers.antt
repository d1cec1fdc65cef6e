use Rattle.std.proofs.Common.{◌≡◌, ◌∙◌, List, length, ap, sym, subst, rules}
use Rattle.std.specs.Prelude.{ℤ, Option}
use Rattle.std.specs.Fork.{AcceptsChunksMut, AllInChunks}
use Rattle.std.proofs.lemmas.List.{with_items_is}
use Rattle.comp_tree.proofs.pixels.Pixels.change_wide.Goals as goal

pub for_each_chunk_mut-requires-clause-size : goal.for_each_chunk_mut-requires-clause-size
for_each_chunk_mut-requires-clause-size g c κs within = c.requires.some

pub for_each_chunk_mut-requires-clause-accepts : goal.for_each_chunk_mut-requires-clause-accepts
for_each_chunk_mut-requires-clause-accepts g c κs within =
    subst (λ (xs : List (Option ℤ)). AcceptsChunksMut g.F.Fn c.args.change.now c.args.size xs)
    (sym (c.deref_mut.ensures.value ∙ c.in_ok-pixels.ensures.taken)) c.requires.accepts

pub returns-clause-one_each : goal.returns-clause-one_each
returns-clause-one_each g c =
    let all : length c.in_ok-pixels.pixels.items ≡ c.in_ok-pixels.pixels.len = search rules in
    let size : length c.for_each_chunk_mut.new.s ≡ c.in_ok-pixels.pixels.len =
    c.for_each_chunk_mut.auto.s ∙ ap length c.deref_mut.ensures.value ∙ all in
    let new : c.of.result ≡ c.for_each_chunk_mut.new.s = c.of.ensures ∙ with_items_is c.in_ok-pixels.pixels c.for_each_chunk_mut.new.s size in
    ap length new ∙ c.for_each_chunk_mut.auto.s ∙ ap length (c.deref_mut.ensures.value ∙ c.in_ok-pixels.ensures.taken)

pub returns-clause-changed : goal.returns-clause-changed
returns-clause-changed g c =
    let all : length c.in_ok-pixels.pixels.items ≡ c.in_ok-pixels.pixels.len = search rules in
    let size : length c.for_each_chunk_mut.new.s ≡ c.in_ok-pixels.pixels.len =
    c.for_each_chunk_mut.auto.s ∙ ap length c.deref_mut.ensures.value ∙ all in
    let new : c.of.result ≡ c.for_each_chunk_mut.new.s = c.of.ensures ∙ with_items_is c.in_ok-pixels.pixels c.for_each_chunk_mut.new.s size in
    subst (λ (ys : List (Option ℤ)). AllInChunks g.F.Fn c.args.change.now c.args.size c.args.self.now ys) (sym new)
    (subst (λ (xs : List (Option ℤ)). AllInChunks g.F.Fn c.args.change.now c.args.size xs c.for_each_chunk_mut.new.s)
    (c.deref_mut.ensures.value ∙ c.in_ok-pixels.ensures.taken) c.for_each_chunk_mut.ensures.by_index)
