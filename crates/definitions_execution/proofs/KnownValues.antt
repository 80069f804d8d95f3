-- A conjunct of a matching scan asks the same of its column, whatever row of the table is taken.
use Rattle.std.proofs.Common.{sym, ap, ◌∙◌, ◌≡◌, ◌≢◌, ℕ, ◌<◌, [], length, get_or, set, false, arith, get_or-set_same, get_or-set_other}
use Rattle.definitions.specs.Value.{Value}
use Rattle.definitions.specs.IndexRun.{Inclusive}
use Rattle.definitions.specs.Plans.TableSet.{Has}
use Rattle.definitions.specs.Arithmetic.{Is}
use Rattle.definitions.specs.Queries.BoundBlock.{ValueExpr, Column, Condition, Between, Block}
use Rattle.definitions.specs.Queries.Evaluation.{Combination, cell, value}
use Rattle.definitions.specs.Queries.Conjuncts.{tables_named}
use Rattle.definitions.specs.Queries.Combinations.{Context, at}
use Rattle.definitions_execution.specs.Stored.{Composite}
use Rattle.definitions_execution.specs.OfBlock.{rows_in, combination_of, is_true_at, stored_of}
use Rattle.definitions_execution.specs.Asking.{ScanKey, InRange, meets, key_column, IsKnownValue, Asks, AsksOf, ConjunctsAsk}
use Rattle.definitions_execution.proofs.Locality.{value_steady}
use Rattle.definitions_execution.proofs.BlockFits.{row_of}
use Rattle.definitions_execution.proofs.KeyParts.{comparison, turned_comparison, between}

module _ (context : Context) (block : Block) (composite : Composite) (table column : ℕ) (lt : table < length composite) where
  abbrev taken : ℕ → Combination
  taken row = combination_of context.database block (set composite table row)

  known : (e : ValueExpr) (v : Value) → IsKnownValue context block composite table column e v → (row : ℕ) → value (at context (taken row)) e ≡ Is v
  known e v (calm, lacks, is) row = value_steady context (taken row) (combination_of context.database block composite) e calm (λ u has.
      let ne : u ≢ table = other u has in
      row_of context.database block (set composite table row) u ∙ ap (λ r. get_or (rows_in context.database block u) r []) (get_or-set_other composite table u row 0 ne) ∙ sym (row_of context.database block composite u)) ∙ is
    where
      other : (u : ℕ) → Has (tables_named e) u → u ≢ table
      other u has same = let l : Has (tables_named e) table = rw same at has in absurd (omega (arith, l, lacks))

  key_is : (row : ℕ) → cell (taken row) (key_column context block composite table column) ≡ (stored_of context block).value_in (key_column context block composite table column) row
  key_is row = ap (λ values. get_or values column Rattle.definitions.specs.Value.Null) (row_of context.database block (set composite table row) table ∙ ap (λ r. get_or (rows_in context.database block table) r []) (get_or-set_same composite table row 0 lt))

  asks : (condition : Condition) (asked : ScanKey) → ((row : ℕ) → AsksOf context (taken row) (key_column context block composite table column) condition asked) → Asks context block composite table column condition asked
  asks condition asked each number is row = ap (λ o. is_true_at context o (taken row)) is ∙ each row ∙ ap (meets asked) (key_is row)

pub conjuncts_ask : ConjunctsAsk
conjuncts_ask context block composite table column lt = (
  (λ type op e v asked k a. asks context block composite table column lt _ asked (λ row. comparison context _ (record { table = table; number = column }) type op e v asked (known context block composite table column lt e v k row) a)),
  (λ type op e v asked k a. asks context block composite table column lt _ asked (λ row. turned_comparison context _ (record { table = table; number = column }) type op e v asked (known context block composite table column lt e v k row) a)),
  (λ type e f v w k l. asks context block composite table column lt (Between false (Column (record { table = table; number = column }) type) e f) (InRange (Inclusive v) (Inclusive w)) (λ row. between context _ (record { table = table; number = column }) type e f v w (known context block composite table column lt e v k row) (known context block composite table column lt f w l row))),
)
