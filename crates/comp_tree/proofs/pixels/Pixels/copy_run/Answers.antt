use Rattle.std.proofs.Common.{◌≡◌, ◌∙◌, ◌+◌, ◌≤◌, sym, ap, subst, length}
use Rattle.std.specs.Prelude.{ℤ, List, Option}
use Rattle.comp_tree.specs.Kept.{kept_items}
use Rattle.comp_tree.specs.Raster.{value_at}
use Rattle.comp_tree.proofs.Blocks.{all-kept}
use Rattle.comp_tree.proofs.pixels.Pixels.copy_run.Goals as goal

pub copy_run-requires : goal.copy_run-requires
copy_run-requires c =
    let all : kept_items c.self.inside.kept ≡ c.args.self.now = all-kept (λ runs. runs.items) c.self.inside.count c.self.inside.runs (kept_items c.self.inside.kept) c.self.invariant c.in-None.is ∙ c.self.view_is in
    record { inside = subst (λ n. c.args.first + length c.args.run.now ≤ n) (sym (ap length all)) c.requires.inside }

pub returns-in-None-clause-same : goal.returns-in-None-clause-same
returns-in-None-clause-same c k lt =
    let all : kept_items c.self.inside.kept ≡ c.args.self.now = all-kept (λ runs. runs.items) c.self.inside.count c.self.inside.runs (kept_items c.self.inside.kept) c.self.invariant c.in-None.is ∙ c.self.view_is in
    c.copy_run.ensures.same k lt ∙ ap (λ (values : List (Option ℤ)). value_at values (c.args.first + k)) all
