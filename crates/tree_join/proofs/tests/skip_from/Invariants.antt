use Rattle.tree_join.proofs.tests.skip_from.Given as goal

abbrev pub ghosts-skip_by : goal.ghosts-skip_by
ghosts-skip_by a = record { name = a.blank.name; parts = a.blank.parts }
