use Rattle.strip_crew.proofs.group.join_boundary.Given as goal

abbrev pub ghosts-join_boundary_by-L-Ledger : goal.ghosts-join_boundary_by-L-Ledger
ghosts-join_boundary_by-L-Ledger a = record { name = a.moves.name; parts = a.moves.parts }

abbrev pub ghosts-join_boundary_by-M-Ledger : goal.ghosts-join_boundary_by-M-Ledger
ghosts-join_boundary_by-M-Ledger a = record { name = a.reads.name; parts = a.reads.parts }
