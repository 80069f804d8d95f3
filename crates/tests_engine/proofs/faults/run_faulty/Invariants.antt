use Rattle.tests_engine.proofs.faults.run_faulty.Given as goal

-- the count is named by the blank that it is made of
abbrev pub ghosts-run_faulty_job : goal.ghosts-run_faulty_job
ghosts-run_faulty_job a = record { name = a.fetches.name; parts = a.fetches.parts }
