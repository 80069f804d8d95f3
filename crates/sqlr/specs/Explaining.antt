-- What is printed for EXPLAIN.
use Rattle.std.specs.Prelude.{◌≡◌}
use Rattle.definitions.specs.Statement.{Select, Explain}
use Rattle.definitions.specs.Table.{Database}
use Rattle.definitions.specs.Refusal.{Refusal}
use Rattle.definitions.specs.Printing.{refusal_text}
use Rattle.definitions.specs.Queries.BoundBlock.{Blocks}
use Rattle.definitions.specs.Binding.Faults.{Binds}
use Rattle.definitions.specs.Certificates.Explaining.{certified_from, AreExplained}
use Rattle.definitions.specs.Estimates.Version.{current_version}
use Rattle.definitions.specs.Faults.{Faulty, IsAccepted}
use Rattle.sqlr.specs.declared.ended.Ended.TheVariants as e
use Rattle.sqlr.specs.declared.outcome.Printed.{Printed}

-- the line of a refusal, or the texts of least plans
pub data Explains (db : Database) (q : Select) (p : Printed) : Type 0 where
  refused : (r : Refusal) → Faulty db (Explain q) r → p.text.items ≡ refusal_text r → p.ended ≡ e.Faulted
      → Explains db q p
  told : (blocks : Blocks) → IsAccepted db (Explain q) → Binds db q blocks
      → AreExplained current_version (certified_from db 0 blocks) p.text.items
      → p.ended ≡ e.Well → Explains db q p
