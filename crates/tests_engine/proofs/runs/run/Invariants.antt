use Rattle.tests_engine.proofs.runs.run.Given as goal

-- the count is named by the blank that it is made of
abbrev pub ghosts-on_tape : goal.ghosts-on_tape
ghosts-on_tape g a = record { name = a.puts.name; parts = a.puts.parts }
