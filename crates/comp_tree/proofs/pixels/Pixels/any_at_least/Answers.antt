use Rattle.std.proofs.Common.{◌≡◌, ◌∙◌, ◌+◌, ◌≤◌, sym, ap, subst, length, w64, to_z, of_z, SFits, rules}
use Rattle.std.specs.Prelude.{ℤ, List, Option}
use Rattle.comp_tree.specs.Kept.{kept_items}
use Rattle.std.proofs.lemmas.Int.{to_z-of_z}
use Rattle.std.specs.List.{list_any, range_with_len}
use Rattle.comp_tree.specs.Raster.{at_least, value_at}
use Rattle.comp_tree.proofs.Blocks.{all-kept}
use Rattle.comp_tree.proofs.pixels.Pixels.any_at_least.Goals as goal

pub any_at_least-requires : goal.any_at_least-requires
any_at_least-requires c =
    let all : kept_items c.self.inside.kept ≡ c.args.self.now = all-kept (λ runs. runs.items) c.self.inside.count c.self.inside.runs (kept_items c.self.inside.kept) c.self.invariant c.in-None.is ∙ c.self.view_is in
    record { inside = subst (λ n. c.args.first + c.args.count ≤ n) (sym (ap length all)) c.requires.inside }

pub returns-in-None : goal.returns-in-None
returns-in-None c =
    let all : kept_items c.self.inside.kept ≡ c.args.self.now = all-kept (λ runs. runs.items) c.self.inside.count c.self.inside.runs (kept_items c.self.inside.kept) c.self.invariant c.in-None.is ∙ c.self.view_is in
    let fits : SFits w64 c.args.bound = search rules in
    subst (λ (h : ℤ). c.any_at_least.result ≡ list_any (λ p. at_least h (value_at c.args.self.now p)) (range_with_len c.args.first c.args.count))
    (to_z-of_z w64 c.args.bound fits)
    (c.any_at_least.ensures
    ∙ ap (λ (values : List (Option ℤ)). list_any (λ p. at_least (to_z w64 (of_z w64 c.args.bound)) (value_at values p)) (range_with_len c.args.first c.args.count)) all)
