use Rattle.std.proofs.Common.{◌≡◌, ◌∙◌, ap, sym}
use Rattle.std.specs.Prelude.{None}
use Rattle.std.specs.Option.{option_map}
use Rattle.comp_tree.specs.Kept.{kept_items}
use Rattle.comp_tree.proofs.Blocks.{same-each, none_there}
use Rattle.comp_tree.proofs.pixels.Pixels.take_each.Goals as goal

pub returns-in-Wide-clause-taken : goal.returns-in-Wide-clause-taken
returns-in-Wide-clause-taken c =
    let none : option_map (λ runs. runs.items) c.self.inside.runs ≡ None = none_there (λ runs. runs.items) c.self.inside.runs c.if-is_none.ensures in
    ap (λ pixels. pixels.items) c.replace.ensures.value
    ∙ ap kept_items (sym c.in-Wide.is)
    ∙ same-each c.self.inside.count (option_map (λ runs. runs.items) c.self.inside.runs) (kept_items c.self.inside.kept) c.self.invariant none
    ∙ c.self.view_is
