-- Worked examples: whole scripts and their texts, for whatever a library may answer. No claim rests on them.
use Rattle.std.specs.Prelude.{ℕ, ◌≡◌, List, [], None, codes}
use Rattle.definitions.specs.Ended.{Well, Faulted}
use Rattle.definitions.specs.Ended as ends
use Rattle.definitions.specs.Statement.{Query}
use Rattle.definitions.specs.Binding.BoundForm.{bound_form}
use Rattle.definitions.specs.Estimates.Version.{One, current_version}
use Rattle.definitions.specs.Examples.Binding.{t_and_u, faultless}
use Rattle.definitions_execution.specs.Total.{IsTotal}
use Rattle.definitions_execution.specs.Step.{State, Answering, Step, Run}
use Rattle.definitions_execution.specs.CheckingRun.{Checked}

-- a state whose database has the tables T and U
abbrev pub with_tables : {L : Type 0} → L → ℕ → State L
with_tables library work = record { library = library; database = t_and_u; work = work }

pub record ScriptsRun {L : Type 0} (answers : Answering L) : Type 0 where
  -- an empty script prints nothing
  pub empty_script : (s : State L) → Run answers s [] s [] Well
  pub open_string_line : (s : State L) → Run answers s (codes "SELECT 'ab") s (codes "error E02 42000 at 7\n") Faulted
  pub syntax_line : (s : State L) → Run answers s (codes "LOAD FROM T;") s (codes "error E05 42000 at 5\n") Faulted
  -- SELECT X FROM T WHERE X = 1 prints the header, the one row and the count, whatever was done before, at the work of
  -- a least plan
  pub one_row_printed : (library : L) (before work : ℕ)
      → IsTotal current_version t_and_u (bound_form t_and_u faultless) work
      → Step answers (with_tables library before) (Query faultless) (with_tables library work)
      (codes "X\n1\n1 rows\n") Well

-- a library without files
abbrev pub no_files : Answering (Unit {0})
no_files before name answer after = answer ≡ None

-- a checking run of an empty script, whatever the file
abbrev pub EmptyScriptIsNothing : Type 0
EmptyScriptIsNothing =
    (old : State (Unit {0})) (file : List ℕ)
    → Checked no_files One old [] file old (codes "nothing to check\n") ends.Faulted
