use Rattle.strip_flood.proofs.tests.try_image.Given as goal

abbrev pub ghosts-try_cases-A-Ledger : goal.ghosts-try_cases-A-Ledger
ghosts-try_cases-A-Ledger g a = record { name = a.first.name; parts = a.first.parts }

abbrev pub ghosts-try_cases-B-Ledger : goal.ghosts-try_cases-B-Ledger
ghosts-try_cases-B-Ledger g a = record { name = a.second.name; parts = a.second.parts }
