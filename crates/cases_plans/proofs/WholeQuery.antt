-- The blocks of a query are formed and can be answered, and stand where they are evaluated when they are ready.
use Rattle.std.proofs.Common.{◌≡◌, sym, ap, refl, subst, ℕ, zero, suc, ◌<◌, List, [], ◌∷◌, Some, length, map, get_or, arith}
use Rattle.std.specs.Prelude.{slice_get}
use Rattle.std.specs.List.{AllByRecursion}
use Rattle.std.proofs.lemmas.List.{length-map}
use Rattle.definitions.specs.Table.{Database}
use Rattle.definitions.specs.Invariant.{IsDatabase}
use Rattle.definitions.specs.Statement as statement
use Rattle.definitions.specs.Binding.Answerable.{IsAnswerable}
use Rattle.definitions.specs.Binding.Faults.{Binds}
use Rattle.definitions.specs.Binding.Formed as formed
use Rattle.definitions.specs.Binding.Formed.{AreFormed, AreWritten, IsFormedSomewhere}
use Rattle.definitions.specs.Queries.BoundBlock.{Blocks}
use Rattle.definitions.proofs.BindingTheory.AcceptedQueries.{each_block_is_formed}
use Rattle.definitions.proofs.BindingTheory.AnswerableBlocks.{accepted_queries_are_answerable}
use Rattle.definitions.proofs.WrittenParts.{written_query}
use Rattle.definitions_answers.specs.Standing.{Stands}
use Rattle.parse_tree.specs.declared.statement.Select.{Select}
use Rattle.parse_tree.specs.Trees.{select_of}
use Rattle.parse_tree.proofs.Written.{written_block}
use Rattle.scans.specs.Sources.{block_in}
use Rattle.executor.specs.ReadyBlocks.{blocks_in, database_in, AreReady, IsReadyIn}
use Rattle.executor.specs.declared.ready_block.ReadyBlock.{ReadyBlock}

-- ---- as they are bound

pub written : (db : Database) (q : Select) → AreWritten db (select_of q)
written db q = written_query db (select_of q) (written_block q.block)

pub blocks_formed : (db : Database) (q : statement.Select) (blocks : Blocks) → IsDatabase db → AreWritten db q → Binds db q blocks → AllByRecursion (IsFormedSomewhere db) blocks
blocks_formed db q blocks valid w bound = subst (AllByRecursion (IsFormedSomewhere db)) (sym bound.1) (each_block_is_formed db q valid w bound.0)

pub blocks_answerable : (db : Database) (q : statement.Select) (blocks : Blocks) → AreWritten db q → Binds db q blocks → AllByRecursion IsAnswerable blocks
blocks_answerable db q blocks w bound = subst (AllByRecursion IsAnswerable) (sym bound.1) (accepted_queries_are_answerable db q w bound.0)

-- what is so of each of them is so of one of a number
pub each_at : {X Y : Type 0} (P : Y → Type 0) (f : X → Y) (xs : List X) (i : ℕ) (x : X) → AllByRecursion P (map f xs) → i < length xs → x ≡ get_or xs i x → P (f x)
each_at P f [] i x h l e = absurd (omega (arith, l))
each_at P f (y ∷ xs) zero x h l e = subst (λ z. P (f z)) (sym e) h.0
each_at P f (y ∷ xs) (suc i) x h l e = each_at P f xs i x h.1 (omega (arith, l)) e

-- ---- as they are ready

some_block : (db : Database) (blocks : Blocks) → AreFormed db blocks [] 0 → 0 < length blocks
some_block db [] (formed.formed around n b is h inside) = absurd cc
some_block db (b ∷ bs) h = omega arith

module _ (db : Database) (blocks : Blocks) where
  database_of : (query : List ReadyBlock) → ((number : ℕ) (r : ReadyBlock) → slice_get query number ≡ Some r → IsReadyIn db blocks number r) → 0 < length query → database_in query ≡ db
  database_of [] each l = absurd (omega (arith, l))
  database_of (r ∷ rs) each l = (each 0 r refl).database

module _ (db : Database) (blocks : Blocks) (query : List ReadyBlock) (each : (number : ℕ) (r : ReadyBlock) → slice_get query number ≡ Some r → IsReadyIn db blocks number r) (are : blocks_in query ≡ blocks) (whole : AreFormed db blocks [] 0) where
  pub outermost : 0 < length query
  outermost = let some = some_block db blocks whole in let count = ap length are in omega (arith, some, count, length-map query (λ (r : ReadyBlock). block_in r.source))

  database_is : database_in query ≡ db
  database_is = database_of db blocks query each outermost

  pub all_ready : AreReady query
  all_ready number r is =
      subst (λ bs. IsReadyIn (database_in query) bs number r) (sym are) (subst (λ d. IsReadyIn d blocks number r) (sym database_is) (each number r is))

  pub stands : Stands (database_in query) (blocks_in query) 0 []
  stands = subst (λ bs. Stands (database_in query) bs 0 []) (sym are) (subst (λ d. Stands d blocks 0 []) (sym database_is) ([], whole, λ between block is. absurd cc))
