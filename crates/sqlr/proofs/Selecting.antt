-- What a query is refused for, and what is told of its answer.
use Rattle.std.proofs.Common.{◌≡◌, ◌∙◌, sym, ap, subst, ℕ, List, [], Some, None, Result, Ok, Err, IfOk}
use Rattle.std.specs.List.{AllByRecursion}
use Rattle.definitions.specs.Statement.{Select, Query}
use Rattle.definitions.specs.Table.{Row, Database}
use Rattle.definitions.specs.Refusal.{Refusal}
use Rattle.definitions.specs.Printing.{refusal_text}
use Rattle.definitions.specs.Arithmetic.{Raise}
use Rattle.definitions.specs.Plans.Plan.{Plan}
use Rattle.definitions.specs.Queries.BoundBlock.{Blocks}
use Rattle.definitions.specs.Queries.Outcomes.{Rows, Exception, AllowedOf, names_of, shown}
use Rattle.definitions.specs.Binding.Faults.{Binds}
use Rattle.definitions.specs.Binding.Answerable.{IsAnswerable}
use Rattle.definitions.specs.Binding.Formed.{AreWritten}
use Rattle.definitions.proofs.BindingTheory.AnswerableBlocks.{accepted_queries_are_answerable}
use Rattle.definitions.specs.Estimates.Version.{current_version}
use Rattle.definitions.specs.Faults as faults
use Rattle.definitions.specs.Faults.{Faulty, IsAccepted}
use Rattle.definitions_execution.specs.Total.{AreCertified, IsTotal}
use Rattle.sqlr.specs.declared.ended.Ended.TheVariants as e
use Rattle.sqlr.specs.declared.outcome.Printed.{Printed}
use Rattle.sqlr.specs.declared.outcome.StepFault.{StepFault}
use Rattle.sqlr.specs.Selecting.{Answers, refused, told}

-- ---- refusals

pub fault_told : (db : Database) (q : Select) (result : Result Printed StepFault) (refusal : Refusal) → Faulty db (Query q) refusal
    → IfOk result (λ (p : Printed). p.text.items ≡ refusal_text refusal) → IfOk result (λ (p : Printed). p.ended ≡ e.Faulted) → IfOk result (λ (p : Printed). p.work ≡ None) → IfOk result (Answers db q)
fault_told db q (Ok p) refusal f t d w = refused refusal f t d w
fault_told db q (Err x) refusal f t d w = tt

pub accepted : (db : Database) (q : Select) (blocks : Blocks) → Binds db q blocks → IsAccepted db (Query q)
accepted db q blocks bound r (faults.query q' r' f) = bound.0 r' f

-- what is accepted can be answered
pub blocks_answerable : (db : Database) (q : Select) (blocks : Blocks) → AreWritten db q → Binds db q blocks → AllByRecursion IsAnswerable blocks
blocks_answerable db q blocks w bound = subst (AllByRecursion IsAnswerable) (sym bound.1) (accepted_queries_are_answerable db q w bound.0)

-- ---- answers

pub rows_told : (db : Database) (q : Select) (blocks : Blocks) (p : Printed) (text : List ℕ) → Binds db q blocks
    → (rows : List Row) × AllowedOf db blocks (Rows rows) × (text ≡ shown (names_of blocks) (Rows rows)) → p.text.items ≡ text → p.ended ≡ e.Well
    → (work : ℕ) → IsTotal current_version db blocks work → p.work ≡ Some work → Answers db q p
rows_told db q blocks p text bound (rows, allowed, is) t d work (plans, certified, total) w =
    told blocks (Rows rows) plans (accepted db q blocks bound) bound allowed certified (t ∙ is) d (w ∙ ap (λ n. Some n) total)

pub raise_told : (db : Database) (q : Select) (blocks : Blocks) (result : Result Printed StepFault) (raise : Raise) → Binds db q blocks → AllowedOf db blocks (Exception raise)
    → (plans : List Plan) × AreCertified current_version db blocks plans
    → IfOk result (λ (p : Printed). p.text.items ≡ shown [] (Exception raise)) → IfOk result (λ (p : Printed). p.ended ≡ e.Faulted) → IfOk result (λ (p : Printed). p.work ≡ None) → IfOk result (Answers db q)
raise_told db q blocks (Ok p) raise bound allowed (plans, certified) t d w = told blocks (Exception raise) plans (accepted db q blocks bound) bound allowed certified t d w
raise_told db q blocks (Err x) raise bound allowed plans t d w = tt
