use Rattle.tree_join.proofs.tests.link_from.Given as goal

abbrev pub ghosts-link_by : goal.ghosts-link_by
ghosts-link_by a = record { name = a.blank.name; parts = a.blank.parts }
