use Rattle.std.proofs.Common.{◌∙◌, ap, sym, length}
use Rattle.comp_tree.proofs.Blocks.{kept-length}
use Rattle.comp_tree.proofs.pixels.Pixels.len.Goals as goal

pub returns : goal.returns
returns c = sym (kept-length _ _ _) ∙ ap length c.self.view_is
