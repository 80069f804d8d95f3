use Rattle.tests_engine.proofs.runs.check.Given as goal

-- the count is named by the blank that it is made of
abbrev pub ghosts-check_on_tape : goal.ghosts-check_on_tape
ghosts-check_on_tape g a = record { name = a.puts.name; parts = a.puts.parts }
