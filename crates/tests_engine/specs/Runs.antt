-- A run whose printed text is kept.
use Rattle.std.specs.Prelude.{ℕ, List, Some, MatchResult}
use Rattle.definitions_execution.specs.Step.{Answering, Failing, State}
use Rattle.sqlr.specs.Sessions.{Runs, BreaksOff}
use Rattle.sqlr.specs.Checking.{Checks, BreaksChecking}
use Rattle.tests_engine.specs.declared.runs.Ran.{Ran}

-- the printed bytes are those before, and what the run prints behind them, or a beginning of it
abbrev pub IsRun : {L : Type 0} → Answering L → Failing L → State L → List ℕ → State L → List ℕ → Ran → Type 0
IsRun answers fails old script new before ran =
    MatchResult ran.end (Runs answers old script new (Some before) (Some ran.printed.items))
    (BreaksOff answers fails old script new (Some before) (Some ran.printed.items))

-- the same of a check of certificates for a script's last query
abbrev pub IsCheck : {L : Type 0} → Answering L → Failing L → State L → List ℕ → List ℕ → State L → List ℕ → Ran
    → Type 0
IsCheck answers fails old script file new before ran =
    MatchResult ran.end (Checks answers old script file new (Some before) (Some ran.printed.items))
    (BreaksChecking answers fails old script file new (Some before) (Some ran.printed.items))
