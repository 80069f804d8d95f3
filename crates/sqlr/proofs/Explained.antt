-- What a query is refused for that is explained, and what is told of its blocks.
use Rattle.std.proofs.Common.{◌≡◌, ◌≤◌, sym, ap, subst, List, Result, Ok, Err, IfOk, length, map, arith}
use Rattle.std.specs.List.{AllByRecursion}
use Rattle.std.proofs.lemmas.List.{length-map}
use Rattle.definitions.specs.Limits.{most_blocks}
use Rattle.definitions.specs.Statement.{Select, Explain}
use Rattle.definitions.specs.Table.{Database}
use Rattle.definitions.specs.Invariant.{IsDatabase}
use Rattle.definitions.specs.Refusal.{Refusal}
use Rattle.definitions.specs.Printing.{refusal_text}
use Rattle.definitions.specs.Queries.BoundBlock.{Blocks}
use Rattle.definitions.specs.Binding.Faults as binding
use Rattle.definitions.specs.Binding.Faults.{Binds}
use Rattle.definitions.specs.Binding.Formed.{AreWritten, IsFormedSomewhere}
use Rattle.definitions.specs.Faults as faults
use Rattle.definitions.specs.Faults.{IsAccepted}
use Rattle.definitions.proofs.BindingTheory.AcceptedQueries.{each_block_is_formed, few_blocks}
use Rattle.query_tree.specs.Bound.{block_of}
use Rattle.query_tree.specs.declared.block.Block as tree
use Rattle.sqlr.specs.declared.ended.Ended.TheVariants as e
use Rattle.sqlr.specs.declared.outcome.Printed.{Printed}
use Rattle.sqlr.specs.declared.outcome.StepFault.{StepFault}
use Rattle.sqlr.specs.Explaining.{Explains, refused}

pub fault_told : (db : Database) (q : Select) (result : Result Printed StepFault) (r : Refusal) → binding.QueryFaulty db q r
    → IfOk result (λ (p : Printed). p.text.items ≡ refusal_text r) → IfOk result (λ (p : Printed). p.ended ≡ e.Faulted) → IfOk result (Explains db q)
fault_told db q (Ok p) r f t d = refused r (faults.explained q r f) t d
fault_told db q (Err x) r f t d = tt

pub accepted : (db : Database) (q : Select) (blocks : Blocks) → Binds db q blocks → IsAccepted db (Explain q)
accepted db q blocks bound r (faults.explained q' r' f) = bound.0 r' f

pub blocks_formed : (db : Database) (q : Select) (blocks : Blocks) → IsDatabase db → AreWritten db q → Binds db q blocks → AllByRecursion (IsFormedSomewhere db) blocks
blocks_formed db q blocks valid written bound = subst (AllByRecursion (IsFormedSomewhere db)) (sym bound.1) (each_block_is_formed db q valid written bound.0)

pub blocks_few : (db : Database) (q : Select) (blocks : List tree.Block) → Binds db q (map block_of blocks) → length blocks ≤ most_blocks
blocks_few db q blocks bound =
    let few = few_blocks db q bound.0 in
    omega (arith, few, ap (λ bs. length bs) bound.1, length-map blocks block_of)
