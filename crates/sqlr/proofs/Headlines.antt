-- The headline of checks, of what a session's checks do.
use Rattle.std.proofs.Common.{◌≡◌, ◌∙◌, refl, sym, ℕ, List, Option, Result, Ok, Err, IfOk}
use Rattle.definitions.specs.Ended as ends
use Rattle.definitions.specs.Estimates.Version.{current_version}
use Rattle.definitions_execution.specs.Headline.{IsCheckedLeast}
use Rattle.definitions_execution.specs.Step.{Answering, State}
use Rattle.definitions_execution.proofs.Headlines.{checks_are_least}
use Rattle.sqlr.specs.Checking.{Checks}
use Rattle.sqlr.specs.Sessions.{ended_of}
use Rattle.sqlr.specs.declared.ended.Ended.{Ended}
use Rattle.sqlr.specs.declared.ended.Ended.TheVariants as e
use Rattle.sqlr.specs.declared.ended.RunFault.{RunFault}

module _ {L : Type 0} (answers : Answering L) (old new : State L) (script : List ℕ) (taken taken' : Option (List ℕ)) where
  well : (how : ends.Ended) → ended_of how ≡ e.Well → how ≡ ends.Well
  well ends.Well h = refl
  well ends.Faulted h = absurd cc
  well ends.Refused h = absurd cc

  pub check_kept : (file : List ℕ) (result : Result Ended RunFault) → IfOk result (Checks answers old script file new taken taken')
      → IfOk result (λ ended. ended ≡ e.Well → IsCheckedLeast current_version new.database script file)
  check_kept file (Ok ended) (text, how, checked, is, took) =
      λ ends. checks_are_least answers current_version old new script file text how checked (well how (sym is ∙ ends))
  check_kept file (Err fault) h = tt
