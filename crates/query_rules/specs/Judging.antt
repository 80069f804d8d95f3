-- What is judged of the parts of a query, and what is bound of them.
use Rattle.std.specs.Prelude.{ℕ, ◌+◌, ◌<◌, ◌≤◌, ◌≡◌, ◌≢◌, ◌⊎◌, Bool, true, false, List, [], ◌++◌, Some, length, Option}
use Rattle.std.specs.Prelude.{None, map, filter, flat_map, is_some, IfSome, IsTrue, IsFalse, ◌↔◌}
use Rattle.definitions.specs.Lists.{AnyOf}
use Rattle.definitions.specs.Limits.{most_blocks, greatest_scale}
use Rattle.definitions.specs.Refusal.{Refusal, ScaleTooGreat, UnknownColumn, MixedKinds, MisplacedCondition}
use Rattle.definitions.specs.Refusal.{MisplacedFunction, UngroupedColumn, OverQueryLimit}
use Rattle.definitions.specs.Statement.{Expr, Members, QuerySpecification, Column}
use Rattle.definitions.specs.Table.{Database}
use Rattle.definitions.specs.ValueType.{ValueType, type_scale}
use Rattle.definitions.specs.Plans.Order.{BlockColumn}
use Rattle.definitions.specs.Binding.Scopes.{Scopes, resolve}
use Rattle.definitions.specs.Binding.Types.{expr_type, query_type}
use Rattle.definitions.specs.Binding.Parts.{PlacedBlock, is_function, parts, member_parts, placed_blocks_in}
use Rattle.definitions.specs.Binding.Parts.{member_blocks, block_blocks}
use Rattle.definitions.specs.Binding.BoundForm.{Next, bound_value, bound_condition, bound_members, bound_function}
use Rattle.definitions.specs.Binding.BoundForm.{bound_blocks}
use Rattle.definitions.specs.Binding.Faults.{IsTooFine, NamesNoColumn, MixesKinds, takes_right, is_condition}
use Rattle.definitions.specs.Binding.Faults.{HasManyMembers, SomeMemberDiffers, members_are_values, IsOuterColumn}
use Rattle.definitions.specs.Binding.Faults.{IsUngroupedColumn, argument_parts, block_is_there, column_count}
use Rattle.definitions.specs.Binding.Faults.{NotOneColumn, BlockFaulty}
use Rattle.definitions.specs.Queries.BoundBlock as b
use Rattle.definitions.specs.Queries.BoundBlock.{Aggregate, Blocks}

-- where an expression stands in its block: in WHERE, where blocks may stand in it; in a result column or HAVING, where
-- set functions may, and where columns have to be those of GROUP BY if the block is grouped; or in the argument of a
-- set function
pub data ClauseKind : Type 0 where
  InWhere : ClauseKind
  InShown : (grouped : Bool) (columns : List BlockColumn) → ClauseKind
  InArgument : ClauseKind

abbrev pub is_where : ClauseKind → Bool
is_where InWhere = true
is_where _ = false

abbrev pub takes_functions : ClauseKind → Bool
takes_functions (InShown grouped columns) = true
takes_functions _ = false

module _ (db : Database) (scopes : Scopes) where
  abbrev pub IsUngroupedIn : List BlockColumn → Expr → Type 0
  IsUngroupedIn columns (Column reference) = IsUngroupedColumn columns (resolve scopes reference)
  IsUngroupedIn columns _ = ⊥

  -- a fault of one part
  pub data PartFaulty (place : ClauseKind) (e : Expr) : Refusal → Type 0 where
    too_fine : IsTooFine db scopes e → PartFaulty place e ScaleTooGreat
    no_column : NamesNoColumn db scopes e → PartFaulty place e UnknownColumn
    mixed_kinds : MixesKinds db scopes e → PartFaulty place e MixedKinds
    wrong_operand : IsFalse (takes_right e) → PartFaulty place e MisplacedCondition
    many_members : HasManyMembers e → PartFaulty place e OverQueryLimit
    misplaced_function : IsFalse (takes_functions place) → IsTrue (is_function e) → PartFaulty place e MisplacedFunction
    outer_column : place ≡ InArgument → IsOuterColumn scopes e → PartFaulty place e MisplacedFunction
    ungrouped : (columns : List BlockColumn) → place ≡ InShown true columns → IsUngroupedIn columns e
        → PartFaulty place e UngroupedColumn

  -- a fault of some parts, of arguments of set functions among them, or of the blocks inside them, before which there
  -- are so many
  pub data Refuses (place : ClauseKind) (count : ℕ) (ps : List Expr) (bs : List PlacedBlock) : Refusal → Type 0 where
    part : (r : Refusal) → AnyOf (λ p. PartFaulty place p r) ps → Refuses place count ps bs r
    argument : (r : Refusal) → IsTrue (takes_functions place)
        → AnyOf (λ p. PartFaulty InArgument p r) (flat_map argument_parts ps) → Refuses place count ps bs r
    inner : (r : Refusal) → AnyOf (λ p. BlockFaulty db p r) bs → Refuses place count ps bs r
    misplaced : IsFalse (is_where place) → bs ≢ [] → Refuses place count ps bs OverQueryLimit
    many : most_blocks < count + length bs → Refuses place count ps bs OverQueryLimit

  abbrev pub IsClean : ClauseKind → ℕ → List Expr → List PlacedBlock → Type 0
  IsClean place count ps bs = (r : Refusal) → Refuses place count ps bs r → ⊥

-- what is bound so far: the blocks of the statement, and the set functions of the block
pub record Progress : Type 0 where
  pub blocks : Blocks
  pub functions : List Aggregate

abbrev pub next_of : Progress → Next
next_of s = record { block = length s.blocks; function = length s.functions }

-- a number of at most 18 digits behind the point
abbrev pub IsFine : ValueType → Type 0
IsFine type = type_scale type ≤ greatest_scale

module _ (db : Database) (scopes : Scopes) (place : ClauseKind) where
  -- parts and the blocks inside them have no fault, and what is to be bound of them is bound
  pub record Adds (old new : Progress) (ps : List Expr) (bs : List PlacedBlock) : Type 0 where
    pub blocks : new.blocks ≡ old.blocks ++ bound_blocks db (length old.blocks) bs []
    pub functions : new.functions ≡ old.functions ++ map (bound_function db scopes) (filter is_function ps)
    pub clean : IsClean db scopes place (length old.blocks) ps bs

  -- a value is bound, and its type is known
  pub record BindsValue (old new : Progress) (e : Expr) (value : b.ValueExpr) (type : ValueType) : Type 0 where
    pub adds : Adds old new (parts e) (placed_blocks_in db scopes e)
    pub bound : value ≡ bound_value db scopes (next_of old) e
    pub typed : expr_type db scopes e ≡ Some type
    pub fine : IsFine type
    pub is_value : is_condition e ≡ false

  pub record BindsCondition (old new : Progress) (e : Expr) (condition : b.Condition) : Type 0 where
    pub adds : Adds old new (parts e) (placed_blocks_in db scopes e)
    pub bound : condition ≡ bound_condition db scopes (next_of old) e
    pub untyped : expr_type db scopes e ≡ None
    pub is_condition : is_condition e ≡ true

  -- why an expression is not bound: a fault, or it stands where the other kind is wanted
  abbrev pub RefusesValue : Progress → Expr → Refusal → Type 0
  RefusesValue old e r = Refuses db scopes place (length old.blocks) (parts e) (placed_blocks_in db scopes e) r
      ⊎ ((is_condition e ≡ true) × (r ≡ MisplacedCondition))

  abbrev pub RefusesCondition : Progress → Expr → Refusal → Type 0
  RefusesCondition old e r = Refuses db scopes place (length old.blocks) (parts e) (placed_blocks_in db scopes e) r
      ⊎ ((is_condition e ≡ false) × (r ≡ MisplacedCondition))

  -- an inner block is bound, with those inside it; the type of its only column is known if it has one
  pub record BindsQuery (old new : Progress) (query : QuerySpecification) (number : ℕ) (only : Option ValueType) : Type
      0 where
    pub is : number ≡ length old.blocks
    pub adds : Adds old new [] (block_blocks db scopes query)
    pub there : IsTrue (block_is_there db query)
    pub typed : query_type db scopes query ≡ only
    pub one : (column_count db query ≡ 1) ↔ IsTrue (is_some only)
    pub fine : IfSome only IsFine

  abbrev pub RefusesQuery : Progress → QuerySpecification → Refusal → Type 0
  RefusesQuery old query r = Refuses db scopes place (length old.blocks) [] (block_blocks db scopes query) r

  -- one that is to have one column has it
  pub record BindsColumn (old new : Progress) (query : QuerySpecification) (number : ℕ) (type : ValueType) : Type 0
    where
      pub is : number ≡ length old.blocks
      pub adds : Adds old new [] (block_blocks db scopes query)
      pub typed : query_type db scopes query ≡ Some type
      pub one : NotOneColumn db query → ⊥
      pub fine : IsFine type

  abbrev pub RefusesColumn : Progress → QuerySpecification → Refusal → Type 0
  RefusesColumn old query r = RefusesQuery old query r ⊎ (NotOneColumn db query × (r ≡ MixedKinds))

  -- the members of an IN list are bound, all of the kind of a type
  pub record BindsMembers (old new : Progress) (type : ValueType) (ms : Members) (bound : List (Option b.ValueExpr)) :
      Type 0 where
    pub adds : Adds old new (member_parts ms) (member_blocks db scopes ms)
    pub are : bound ≡ bound_members db scopes (next_of old) ms
    pub alike : SomeMemberDiffers db scopes (Some type) ms → ⊥
    pub values : members_are_values ms ≡ true

  abbrev pub RefusesMembers : Progress → ValueType → Members → Refusal → Type 0
  RefusesMembers old type ms r =
      Refuses db scopes place (length old.blocks) (member_parts ms) (member_blocks db scopes ms) r
      ⊎ (SomeMemberDiffers db scopes (Some type) ms × (r ≡ MixedKinds))
      ⊎ ((members_are_values ms ≡ false) × (r ≡ MisplacedCondition))

-- a block is bound, with those inside it, behind the blocks before; the type of its only column is known if it has one
pub record BindsBlock (db : Database) (outer : Scopes) (old new : Blocks) (query : QuerySpecification)
    (only : Option ValueType) : Type 0 where
  pub are : new ≡ old ++ bound_blocks db (length old) (block_blocks db outer query) []
  pub accepted : (r : Refusal) → AnyOf (λ p. BlockFaulty db p r) (block_blocks db outer query) → ⊥
  pub few : length old + length (block_blocks db outer query) ≤ most_blocks
  pub there : IsTrue (block_is_there db query)
  pub typed : query_type db outer query ≡ only
  pub one : (column_count db query ≡ 1) ↔ IsTrue (is_some only)
  pub fine : IfSome only IsFine

abbrev pub RefusesBlock : Database → Scopes → Blocks → QuerySpecification → Refusal → Type 0
RefusesBlock db outer old query r =
    AnyOf (λ p. BlockFaulty db p r) (block_blocks db outer query)
    ⊎ ((most_blocks < length old + length (block_blocks db outer query)) × (r ≡ OverQueryLimit))
