use Rattle.source_sheet.proofs.tests.sources_are_taken_back_with_their_tops.Goals as goal

pub sources_with_tops-requires-clause-laid_out : goal.sources_with_tops-requires-clause-laid_out
sources_with_tops-requires-clause-laid_out g c κs = record {
  plane = c.in_ok-plane.plane;
  connect = _;
  laid_out = rw c.in-Some.is at (c.in_ok-sheet.ensures);
  tree_is = c.in_ok-tree.ensures;
}
