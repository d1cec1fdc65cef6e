use Rattle.strip_crew.proofs.claiming.flood.Given as goal

abbrev pub ghosts-flood_by-A-Ledger : goal.ghosts-flood_by-A-Ledger
ghosts-flood_by-A-Ledger a = record { name = a.queued.name; parts = a.queued.parts }

abbrev pub ghosts-flood_by-B-Ledger : goal.ghosts-flood_by-B-Ledger
ghosts-flood_by-B-Ledger a = record { name = a.looked.name; parts = a.looked.parts }
