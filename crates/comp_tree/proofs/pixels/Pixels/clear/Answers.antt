use Rattle.std.proofs.Common.{◌<◌, ◌∙◌, sym, ap, subst}
use Rattle.std.specs.Prelude.{None}
use Rattle.std.specs.Option.{option_map}
use Rattle.comp_tree.specs.Kept.{kept_items}
use Rattle.comp_tree.specs.Stored.{kept_pixels}
use Rattle.comp_tree.proofs.Blocks.{kept-length, block-there, place-inside, kept-set, unkept-set}
use Rattle.comp_tree.proofs.pixels.Pixels.clear.Goals as goal

pub place_of-requires : goal.place_of-requires
place_of-requires c =
    let within : c.args.p < c.self.inside.count = subst (λ n. c.args.p < n) (kept-length _ _ _) (rw (← c.self.view_is) at c.requires) in
    block-there (λ runs. runs.items) c.self.inside.count c.self.inside.runs (kept_items c.self.inside.kept) c.args.p c.self.invariant within

pub set-requires-clause-inside : goal.set-requires-clause-inside
set-requires-clause-inside c =
    let within : c.args.p < c.self.inside.count = subst (λ n. c.args.p < n) (kept-length _ _ _) (rw (← c.self.view_is) at c.requires) in
    place-inside c.self.inside.count (option_map (λ runs. runs.items) c.self.inside.runs) (kept_items c.self.inside.kept) c.args.p c.in-Some.place
    c.self.invariant within (sym c.place_of.ensures ∙ c.in-Some.is)

pub returns-in-Some : goal.returns-in-Some
returns-in-Some c =
    let within : c.args.p < c.self.inside.count = subst (λ n. c.args.p < n) (kept-length _ _ _) (rw (← c.self.view_is) at c.requires) in
    rw (← c.self.view_is)
    (ap (kept_pixels c.self.inside.count (option_map (λ runs. runs.items) c.self.inside.runs)) c.set.ensures.items ∙ kept-set c.self.inside.count (option_map (λ runs. runs.items) c.self.inside.runs) (kept_items c.self.inside.kept) c.args.p c.in-Some.place
    None c.self.invariant within (sym c.place_of.ensures ∙ c.in-Some.is))

pub returns-in_default : goal.returns-in_default
returns-in_default c =
    let within : c.args.p < c.self.inside.count = subst (λ n. c.args.p < n) (kept-length _ _ _) (rw (← c.self.view_is) at c.requires) in
    rw (← c.self.view_is)
    (unkept-set c.self.inside.count (option_map (λ runs. runs.items) c.self.inside.runs) (kept_items c.self.inside.kept) c.args.p None within
    (sym c.place_of.ensures ∙ c.in_default.is) tt)
