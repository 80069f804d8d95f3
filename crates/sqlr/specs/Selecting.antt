-- What is printed for a query.
use Rattle.std.specs.Prelude.{ℕ, ◌≡◌, List, Option, Some, None}
use Rattle.definitions.specs.Statement.{Select, Query}
use Rattle.definitions.specs.Table.{Database}
use Rattle.definitions.specs.Refusal.{Refusal}
use Rattle.definitions.specs.Printing.{refusal_text}
use Rattle.definitions.specs.Plans.Plan.{Plan}
use Rattle.definitions.specs.Queries.BoundBlock.{Blocks}
use Rattle.definitions.specs.Queries.Outcomes.{Told, Rows, Exception, AllowedOf, names_of, shown}
use Rattle.definitions.specs.Binding.Faults.{Binds}
use Rattle.definitions.specs.Estimates.Version.{current_version}
use Rattle.definitions.specs.Faults.{Faulty, IsAccepted}
use Rattle.definitions_execution.specs.Total.{AreCertified, total_of}
use Rattle.definitions_execution.specs.Step.{told_ended}
use Rattle.sqlr.specs.declared.ended.Ended.TheVariants as e
use Rattle.sqlr.specs.declared.outcome.Printed.{Printed}
use Rattle.sqlr.specs.Sessions.{ended_of}

-- the work is told where rows are printed: it is the total under the plans by which they were made
abbrev pub IsWorkTold : Database → Blocks → List Plan → Told → Option ℕ → Type 0
IsWorkTold db blocks plans (Rows rows) work = work ≡ Some (total_of current_version db blocks plans)
IsWorkTold db blocks plans (Exception raise) work = work ≡ None

-- the line of a refusal, or what is told of its answer
pub data Answers (db : Database) (q : Select) (p : Printed) : Type 0 where
  refused : (r : Refusal) → Faulty db (Query q) r → p.text.items ≡ refusal_text r → p.ended ≡ e.Faulted → p.work ≡ None
      → Answers db q p
  told : (blocks : Blocks) (told : Told) (plans : List Plan) → IsAccepted db (Query q) → Binds db q blocks
      → AllowedOf db blocks told → AreCertified current_version db blocks plans
      → p.text.items ≡ shown (names_of blocks) told → p.ended ≡ ended_of (told_ended told)
      → IsWorkTold db blocks plans told p.work → Answers db q p
