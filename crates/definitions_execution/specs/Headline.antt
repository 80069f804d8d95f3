-- The headline: what may be relied on of each check, whatever the tables and their statistics. Of each SELECT and of
-- each EXPLAIN it is what their steps say: `IsAnswered`, and `AreExplained`.
use Rattle.std.specs.Prelude.{ℕ, ◌≡◌, List, [], ◌∷◌, ◌++◌, Some}
use Rattle.definitions.specs.Statement.{Select, Statement}
use Rattle.definitions.specs.Table.{Database}
use Rattle.definitions.specs.Binding.Faults.{Binds}
use Rattle.definitions.specs.Queries.BoundBlock.{Blocks}
use Rattle.definitions.specs.Estimates.Version.{Version}
use Rattle.definitions.specs.Certificates.Explaining.{certified_from}
use Rattle.definitions.specs.Certificates.File.{lines_of}
use Rattle.definitions.specs.Certificates.Laws.{AreLeast}
use Rattle.definitions_execution.specs.Step.{AreStatements}
use Rattle.definitions_execution.specs.CheckingRun.{asked}

-- whatever passes a check, whoever wrote it: for each block of the query that the script ends with, the file has the
-- text of a least plan, and nothing else
pub record IsCheckedLeast (current : Version) (db : Database) (script file : List ℕ) : Type 0 where
  pub front : List Statement
  pub last : Statement
  pub q : Select
  pub blocks : Blocks
  pub statements : AreStatements script (front ++ last ∷ [])
  pub asks : asked last ≡ Some q
  pub bound : Binds db q blocks
  pub least : AreLeast current (certified_from db 0 blocks) (lines_of file)
