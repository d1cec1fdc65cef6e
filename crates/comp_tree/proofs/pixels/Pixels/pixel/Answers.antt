use Rattle.std.proofs.Common.{◌<◌, ◌∙◌, sym, subst}
use Rattle.std.specs.Prelude.{None}
use Rattle.std.specs.Option.{option_map}
use Rattle.comp_tree.specs.Kept.{kept_items}
use Rattle.comp_tree.proofs.Blocks.{kept-length, block-there, place-inside, read-at, unread-at}
use Rattle.comp_tree.proofs.pixels.Pixels.pixel.Goals as goal

pub place_of-requires : goal.place_of-requires
place_of-requires c =
    let within : c.args.p < c.self.inside.count = subst (λ n. c.args.p < n) (kept-length _ _ _) (rw (← c.self.view_is) at c.requires) in
    block-there (λ runs. runs.items) c.self.inside.count c.self.inside.runs (kept_items c.self.inside.kept) c.args.p c.self.invariant within

pub pixel-requires : goal.pixel-requires
pixel-requires c =
    let within : c.args.p < c.self.inside.count = subst (λ n. c.args.p < n) (kept-length _ _ _) (rw (← c.self.view_is) at c.requires) in
    (place-inside c.self.inside.count (option_map (λ runs. runs.items) c.self.inside.runs) (kept_items c.self.inside.kept) c.args.p c.in-Some.place
    c.self.invariant within (sym c.place_of.ensures ∙ c.in-Some.is))

pub returns-in-Some : goal.returns-in-Some
returns-in-Some c =
    let within : c.args.p < c.self.inside.count = subst (λ n. c.args.p < n) (kept-length _ _ _) (rw (← c.self.view_is) at c.requires) in
    rw (← c.self.view_is)
    (read-at c.self.inside.count (option_map (λ runs. runs.items) c.self.inside.runs) (kept_items c.self.inside.kept) c.args.p c.in-Some.place
    c.pixel.result None c.self.invariant within (sym c.place_of.ensures ∙ c.in-Some.is) c.pixel.ensures)

pub returns-in-None : goal.returns-in-None
returns-in-None c =
    let within : c.args.p < c.self.inside.count = subst (λ n. c.args.p < n) (kept-length _ _ _) (rw (← c.self.view_is) at c.requires) in
    rw (c.of.ensures, ← c.self.view_is)
    (sym (unread-at c.self.inside.count (option_map (λ runs. runs.items) c.self.inside.runs) (kept_items c.self.inside.kept) c.args.p within
    (sym c.place_of.ensures ∙ c.in-None.is)))
