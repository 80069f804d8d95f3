-- What statements print that are refused, or that read no file.
use Rattle.std.specs.Prelude.{◌≡◌, Option, Some}
use Rattle.definitions.specs.Statement.{Statement}
use Rattle.definitions.specs.Table.{Database}
use Rattle.definitions.specs.Change.{Makes, RepeatsKeys}
use Rattle.definitions.specs.Faults.{Faulty, IsAccepted}
use Rattle.definitions.specs.Refusal.{Refusal, NullOrRepeated}
use Rattle.definitions.specs.Printing.{done_text, refusal_text}
use Rattle.sqlr.specs.declared.ended.Ended.TheVariants as e
use Rattle.sqlr.specs.declared.outcome.Printed.{Printed}

-- the line of a refusal
pub record Tells (refusal : Option Refusal) (p : Printed) : Type 0 where
  pub own : Refusal
  pub is : refusal ≡ Some own
  pub text : p.text.items ≡ refusal_text own
  pub ended : p.ended ≡ e.Faulted

-- a statement that reads no file takes one database to the next, and this is printed
pub data Changes (db : Database) (s : Statement) (db' : Database) (p : Printed) : Type 0 where
  refused : (r : Refusal) → Faulty db s r → db' ≡ db → p.text.items ≡ refusal_text r → p.ended ≡ e.Faulted
      → Changes db s db' p
  repeated : IsAccepted db s → RepeatsKeys db s → db' ≡ db → p.text.items ≡ refusal_text NullOrRepeated
      → p.ended ≡ e.Faulted → Changes db s db' p
  made : IsAccepted db s → Makes db s db' → p.text.items ≡ done_text → p.ended ≡ e.Well → Changes db s db' p
