use Rattle.sqlr_cli.proofs.main.Given as goal

-- each count is named by the blank that it is made of
abbrev pub ghosts-exit_status-F-Ledger : goal.ghosts-exit_status-F-Ledger
ghosts-exit_status-F-Ledger a = record { name = a.fetches.name; parts = a.fetches.parts }

abbrev pub ghosts-exit_status-P-Ledger : goal.ghosts-exit_status-P-Ledger
ghosts-exit_status-P-Ledger a = record { name = a.puts.name; parts = a.puts.parts }
