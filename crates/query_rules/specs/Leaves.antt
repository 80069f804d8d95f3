-- What is bound of columns and literals, and by which types operands go together.
use Rattle.std.specs.Prelude.{ℕ, ◌<◌, ◌≡◌, ⊤, true, List, Some, map}
use Rattle.definitions.specs.Lists.{AnyOf}
use Rattle.definitions.specs.Invariant.{IsDatabase}
use Rattle.definitions.specs.Refusal.{Refusal, MisplacedFunction, UngroupedColumn}
use Rattle.definitions.specs.Statement.{Expr, Source, SetFunction, Sum, Avg}
use Rattle.definitions.specs.Table.{Database}
use Rattle.definitions.specs.ValueType.{ValueType}
use Rattle.definitions.specs.Plans.Order.{BlockColumn}
use Rattle.definitions.specs.Binding.Scopes.{Scopes, scope_of}
use Rattle.definitions.specs.Binding.Types.{expr_type}
use Rattle.definitions.specs.Binding.BoundForm.{Next, bound_value}
use Rattle.definitions.specs.Queries.BoundBlock.{ValueExpr}
use Rattle.query_rules.specs.Judging.{ClauseKind, InShown, InArgument, PartFaulty, IsFine}

-- the tables in sight are those of some FROMs, in a database that is one
pub record InSight (db : Database) (scopes : Scopes) : Type 0 where
  pub valid : IsDatabase db
  pub froms : List (List Source)
  pub are : scopes ≡ map (scope_of db) froms

-- a column or a literal is bound, and its type is known
pub record BindsLeaf (db : Database) (scopes : Scopes) (place : ClauseKind) (e : Expr) (value : ValueExpr)
    (type : ValueType) : Type 0 where
  pub bound : (next : Next) → value ≡ bound_value db scopes next e
  pub typed : expr_type db scopes e ≡ Some type
  pub fine : IsFine type
  pub sound : (r : Refusal) → PartFaulty db scopes place e r → ⊥

-- a column of a level may stand in a place
pub record MayStand (place : ClauseKind) (level : ℕ) (column : BlockColumn) : Type 0 where
  pub inside : place ≡ InArgument → level ≡ 0
  pub grouped : (columns : List BlockColumn) → place ≡ InShown true columns → level ≡ 0
      → AnyOf (λ c. c ≡ column) columns

pub data MayNotStand (place : ClauseKind) (level : ℕ) (column : BlockColumn) : Refusal → Type 0 where
  outer : place ≡ InArgument → 0 < level → MayNotStand place level column MisplacedFunction
  ungrouped : (columns : List BlockColumn) → place ≡ InShown true columns → level ≡ 0
      → (AnyOf (λ c. c ≡ column) columns → ⊥) → MayNotStand place level column UngroupedColumn

-- SUM and AVG take numbers (ISO/IEC 9075:1992, 6.5, syntax rule 6)
abbrev pub WantsNumbers : SetFunction → Type 0
WantsNumbers Sum = ⊤
WantsNumbers Avg = ⊤
WantsNumbers _ = ⊥
