use Rattle.std.proofs.Common.{sym, ◌∙◌}
use Rattle.std.proofs.lemmas.Bool.{true≢false}
use Rattle.tile_laws.specs.Extents.{extent_box}
use Rattle.tile_laws.proofs.Depth.{deep_box, deep_columns, deep_rows}
use Rattle.tile_laws.proofs.extents.lies_deep.Goals as goal

pub returns-then-is_deep : goal.returns-then-is_deep
returns-then-is_deep c = (
  (λ k. deep_box c.args.whole (extent_box c.args.component.now) (extent_box c.args.sure.now) (c.is_deep.ensures.0 c.if-is_deep.true)
      (c.is_deep-then-is_deep.ensures.0 k)),
  (λ all. c.is_deep-then-is_deep.ensures.1
      (deep_rows c.args.whole (extent_box c.args.component.now) (extent_box c.args.sure.now) c.requires.some_columns c.requires.few_columns all)),
)

pub returns-else-is_deep : goal.returns-else-is_deep
returns-else-is_deep c = (
  (λ k. absurd (true≢false (sym k ∙ c.if-is_deep.false))),
  (λ all. c.is_deep.ensures.1 (deep_columns c.args.whole (extent_box c.args.component.now) (extent_box c.args.sure.now) c.requires.some_rows
      c.requires.few_columns all)),
)
