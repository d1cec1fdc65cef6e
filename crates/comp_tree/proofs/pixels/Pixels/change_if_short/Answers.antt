use Rattle.std.proofs.Common.{◌≡◌, ◌∙◌, length, ap, sym, subst, List}
use Rattle.std.specs.Prelude.{ℤ, Option, None, IfOk, OnErr, Result, Ok, Err}
use Rattle.std.specs.Option.{option_map}
use Rattle.std.specs.Fork.{AcceptsChunksMut, AllInChunks}
use Rattle.comp_tree.specs.Bands.{LeavesWithin}
use Rattle.comp_tree.specs.Kept.{kept_items}
use Rattle.comp_tree.specs.Numbers.{most_short}
use Rattle.comp_tree.specs.Stored.{kept_pixels}
use Rattle.comp_tree.proofs.Blocks.{same-each, each-changed, none_there, kept-length}
use Rattle.comp_tree.proofs.pixels.Pixels.change_if_short.Goals as goal

if_ok : {X E : Type 0} {P Q : X → Type 0} (r : Result X E) → ((x : X) → P x → Q x) → IfOk r P → IfOk r Q
if_ok (Ok x) more h = more x h
if_ok (Err e) more h = h

on_err : {X E P Q : Type 0} (r : Result X E) → (P → Q) → OnErr r P → OnErr r Q
on_err (Ok x) more h = h
on_err (Err e) more h = more h

pub change_if_short-requires-clause-accepts : goal.change_if_short-requires-clause-accepts
change_if_short-requires-clause-accepts g c =
    subst (λ (values : List (Option ℤ)). AcceptsChunksMut g.F.Fn c.args.change.now c.args.size values) (sym all) c.requires.accepts
  where
    none : option_map (λ runs. runs.items) c.self.inside.runs ≡ None
    none = none_there (λ runs. runs.items) c.self.inside.runs (sym c.if-is_some.ensures)

    all : kept_items c.self.inside.kept ≡ c.args.self.now
    all = same-each c.self.inside.count (option_map (λ runs. runs.items) c.self.inside.runs) (kept_items c.self.inside.kept) c.self.invariant none ∙ c.self.view_is

pub change_if_short-requires-clause-within : goal.change_if_short-requires-clause-within
change_if_short-requires-clause-within g c =
    subst (λ (values : List (Option ℤ)). LeavesWithin most_short g.F.Fn c.args.change.now c.args.size values) (sym all) c.requires.within
  where
    none : option_map (λ runs. runs.items) c.self.inside.runs ≡ None
    none = none_there (λ runs. runs.items) c.self.inside.runs (sym c.if-is_some.ensures)

    all : kept_items c.self.inside.kept ≡ c.args.self.now
    all = same-each c.self.inside.count (option_map (λ runs. runs.items) c.self.inside.runs) (kept_items c.self.inside.kept) c.self.invariant none ∙ c.self.view_is

pub returns-clause-one_each : goal.returns-clause-one_each
returns-clause-one_each g c = kept-length _ _ _ ∙ sym (kept-length _ _ _) ∙ ap length c.self.view_is

pub returns-clause-changed : goal.returns-clause-changed
returns-clause-changed g c = if_ok c.change_if_short.result (λ short said is.
    subst (λ (values : List (Option ℤ)). AllInChunks g.F.Fn c.args.change.now c.args.size values
    (kept_pixels c.self.inside.count (option_map (λ runs. runs.items) c.self.inside.runs) (kept_items c.change_if_short.new.self)))
    all (subst (λ (values : List (Option ℤ)). AllInChunks g.F.Fn c.args.change.now c.args.size (kept_items c.self.inside.kept) values) after (said is)))
    c.change_if_short.ensures.changed
  where
    none : option_map (λ runs. runs.items) c.self.inside.runs ≡ None
    none = none_there (λ runs. runs.items) c.self.inside.runs (sym c.if-is_some.ensures)

    all : kept_items c.self.inside.kept ≡ c.args.self.now
    all = same-each c.self.inside.count (option_map (λ runs. runs.items) c.self.inside.runs) (kept_items c.self.inside.kept) c.self.invariant none ∙ c.self.view_is

    after : kept_items c.change_if_short.new.self
        ≡ kept_pixels c.self.inside.count (option_map (λ runs. runs.items) c.self.inside.runs) (kept_items c.change_if_short.new.self)
    after = each-changed c.self.inside.count (option_map (λ runs. runs.items) c.self.inside.runs) (kept_items c.self.inside.kept)
        (kept_items c.change_if_short.new.self) c.self.invariant none c.change_if_short.ensures.one_each

pub returns-clause-wide : goal.returns-clause-wide
returns-clause-wide g c = if_ok c.change_if_short.result (λ short said is.
    ap (λ kept. kept_pixels c.self.inside.count (option_map (λ runs. runs.items) c.self.inside.runs) (kept_items kept)) (said is) ∙ c.self.view_is)
    c.change_if_short.ensures.wide

pub returns-clause-unchanged : goal.returns-clause-unchanged
returns-clause-unchanged g c = on_err c.change_if_short.result
    (λ same. ap (kept_pixels c.self.inside.count (option_map (λ runs. runs.items) c.self.inside.runs)) same ∙ c.self.view_is)
    c.change_if_short.ensures.unchanged
