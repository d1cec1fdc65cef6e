use Rattle.std.proofs.Common.{◌∙◌, ap}
use Rattle.std.specs.Prelude.{None}
use Rattle.comp_tree.specs.Kept.{kept_items}
use Rattle.comp_tree.specs.Stored.{kept_pixels}
use Rattle.comp_tree.proofs.Blocks.{kept-each}
use Rattle.comp_tree.proofs.pixels.Pixels.of.Goals as goal

pub returns : goal.returns
returns c = ap (λ n. kept_pixels n None (kept_items c.args.kept)) c.len.ensures ∙ kept-each (kept_items c.args.kept)
