use Rattle.comp_tree.proofs.Windows.{deep_components_lie_sure, sure_components_are_seen, sure_components_are_the_same, window_shows_its_pixels}
use Rattle.comp_tree.proofs.laws.sure_components_are_the_same.Goals as goal

pub returns : goal.returns
returns c = record {
  window = window_shows_its_pixels;
  seen = sure_components_are_seen;
  same = sure_components_are_the_same;
  deep = deep_components_lie_sure;
}
