use Rattle.source_sheet.proofs.tests.a_source_is_taken_back.Goals as goal

pub sources_of_sheet-requires-clause-laid_out : goal.sources_of_sheet-requires-clause-laid_out
sources_of_sheet-requires-clause-laid_out g c κs = record {
  plane = c.in_ok-plane.plane;
  connect = _;
  laid_out = rw c.in-Some.is at (c.in_ok-sheet.ensures);
  tree_is = c.in_ok-tree.ensures;
}
