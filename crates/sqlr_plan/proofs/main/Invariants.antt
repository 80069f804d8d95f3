use Rattle.sqlr_plan.proofs.main.Given as goal

-- each count is named by the blank that it is made of
abbrev pub ghosts-exit_status-F-Ledger : goal.ghosts-exit_status-F-Ledger
ghosts-exit_status-F-Ledger a = record { name = a.first.name; parts = a.first.parts }

abbrev pub ghosts-exit_status-S-Ledger : goal.ghosts-exit_status-S-Ledger
ghosts-exit_status-S-Ledger a = record { name = a.second.name; parts = a.second.parts }
