use Rattle.std.proofs.Common.{ℕ, subst, sym, ◌∙◌, ◌<◌, length}
use Rattle.std.proofs.Common.{vec_items}
use Rattle.strip_crew.specs.Run.{plan_of}
use Rattle.strip_crew.proofs.Groups.{group_inside}
use Rattle.strip_crew.proofs.Jobs.{parts_all}
use Rattle.strip_crew.proofs.prepare.prepare_parts.Goals as goal

pub map_indices-requires-after_bounds : goal.map_indices-requires-after_bounds
map_indices-requires-after_bounds g c κs within i h = (
  c.requires.cut,
  c.requires.short,
  c.requires.most,
  group_inside (length c.args.cut.now) c.args.size i c.requires.some (subst (λ (x : ℕ). i < x) c.div_ceil.ensures h),
)

pub returns-clause-parts : goal.returns-clause-parts
returns-clause-parts g c =
    let parts = c.in_ok-map_indices.field-0 in let made = c.in_ok-map_indices.ensures in
    parts_all vec_items (plan_of c.args.plane.now c.args.connect c.args.cut.now) c.args.size parts.items
    (λ i d h. (made.each i d (subst (λ (x : ℕ). i < x) (sym parts.ok.0 ∙ made.len) h)).1.met)

pub returns-clause-count : goal.returns-clause-count
returns-clause-count g c = sym c.in_ok-map_indices.field-0.ok.0 ∙ (c.in_ok-map_indices.ensures.len ∙ c.div_ceil.ensures)
