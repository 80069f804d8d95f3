-- Why a query is refused.
use Rattle.std.specs.Prelude.{ℕ, zero, suc, ◌+◌, ◌<◌, ◌≤◌, ◌≡◌, ◌≢◌, ◌⊎◌, ⊤, Bool, true, false, ◌&&◌, not, if◌then◌else◌}
use Rattle.std.specs.Prelude.{count_by, List, [], ◌∷◌, ◌++◌, Option, Some, None, length, map, flat_map, IsTrue, IsFalse}
use Rattle.definitions.specs.Lists.{AnyOf}
use Rattle.definitions.specs.Limits.{most_from_tables, most_conjuncts, most_members, most_items, most_group_columns}
use Rattle.definitions.specs.Limits.{most_blocks, most_keys, greatest_scale}
use Rattle.definitions.specs.Value.{Kind, Numbers, Texts}
use Rattle.definitions.specs.Statement.{Name}
use Rattle.definitions.specs.Table.{Database, AreDistinct, table_named}
use Rattle.definitions.specs.Refusal.{Refusal, NameTaken, NotFound, ScaleTooGreat, UnknownColumn, MixedKinds}
use Rattle.definitions.specs.Refusal.{MisplacedCondition, MisplacedFunction, UngroupedColumn, UnknownKey, ManyTables}
use Rattle.definitions.specs.Refusal.{OverQueryLimit}
use Rattle.definitions.specs.Plans.Order.{BlockColumn}
use Rattle.definitions.specs.Binding.Scopes.{NamedTable, Scopes, Resolution, Named, scope_of, are_there, all_columns}
use Rattle.definitions.specs.Binding.Scopes.{resolve}
use Rattle.definitions.specs.Statement.{And, Or, SetFunction, Sum, Avg, ColumnReference, Source, Expr, Column, Numeral}
use Rattle.definitions.specs.Statement.{Signed, Line, Not, Compare, CompareAll, IsNull, Between, Like, InList, InQuery}
use Rattle.definitions.specs.Statement.{Exists, Scalar, Function, LineOperands, NoOperand, Operand, Members, NoMember}
use Rattle.definitions.specs.Statement.{NullMember, Member, listed, SelectList, Asterisk, Listed, SearchClause, Absent}
use Rattle.definitions.specs.Statement.{QuerySpecification, Specification, block_sources, KeyName, ByName, ByPosition}
use Rattle.definitions.specs.Statement.{SortSpecification, Select}
use Rattle.definitions.specs.Binding.Types.{expr_type, joined_type, query_type}
use Rattle.definitions.specs.Binding.Parts.{PlacedBlock, parts, is_function, item_values, condition_values, scopes_at}
use Rattle.definitions.specs.Binding.Parts.{list_blocks, condition_blocks, placed_blocks_of}
use Rattle.definitions.specs.Binding.BoundForm.{names_of_list, has_name, own_column, bound_form}
use Rattle.definitions.specs.ValueType.{ValueType, NumberType, type_kind}
use Rattle.definitions.specs.Queries.BoundBlock.{Blocks}

-- ---- conditions and values

-- whether operands stand under AND or OR
abbrev pub is_logical : LineOperands → Bool
is_logical (Operand And e others) = true
is_logical (Operand Or e others) = true
is_logical _ = false

abbrev pub is_condition : Expr → Bool
is_condition (Line first others) = is_logical others
is_condition (Not e) = true
is_condition (Compare op left right) = true
is_condition (CompareAll op quantifier e query) = true
is_condition (IsNull negated e) = true
is_condition (Between negated e low high) = true
is_condition (Like negated e pattern) = true
is_condition (InList negated e members) = true
is_condition (InQuery negated e query) = true
is_condition (Exists query) = true
is_condition _ = false

abbrev pub same : Bool → Bool → Bool
same true b = b
same false b = not b

-- the operands that have to be conditions, or not
abbrev pub operands_are : Bool → LineOperands → Bool
operands_are wanted NoOperand = true
operands_are wanted (Operand operator e others) = same wanted (is_condition e) && operands_are wanted others

abbrev pub members_are_values : Members → Bool
members_are_values NoMember = true
members_are_values (NullMember others) = members_are_values others
members_are_values (Member e others) = not (is_condition e) && members_are_values others

-- AND, OR and NOT take conditions, all else takes values (6.11, 8.12)
abbrev pub takes_right : Expr → Bool
takes_right (Signed minus e) = not (is_condition e)
takes_right (Line first others) =
    same (is_logical others) (is_condition first) && operands_are (is_logical others) others
takes_right (Not e) = is_condition e
takes_right (Compare op left right) = not (is_condition left) && not (is_condition right)
takes_right (CompareAll op quantifier e query) = not (is_condition e)
takes_right (IsNull negated e) = not (is_condition e)
takes_right (Between negated e low high) = not (is_condition e) && not (is_condition low) && not (is_condition high)
takes_right (Like negated e pattern) = not (is_condition e)
takes_right (InList negated e members) = not (is_condition e) && members_are_values members
takes_right (InQuery negated e query) = not (is_condition e)
takes_right (Function function distinct argument) = not (is_condition argument)
takes_right _ = true

-- both kinds are known, and they differ
abbrev pub Differ : Option ValueType → Option ValueType → Type 0
Differ (Some a) (Some b) = type_kind a ≢ type_kind b
Differ _ _ = ⊥

-- how many result columns a query has; none where a table of SELECT * isn't there
abbrev pub item_count : SelectList → ℕ
item_count Asterisk = 0
item_count (Listed items) = length (listed items)

abbrev pub column_count : Database → QuerySpecification → ℕ
column_count db (Specification distinct Asterisk sources where' groups having) =
    length (all_columns (scope_of db sources))
column_count db (Specification distinct list sources where' groups having) = item_count list

abbrev pub block_is_there : Database → QuerySpecification → Bool
block_is_there db block = are_there (scope_of db (block_sources block) ∷ [])

-- a subquery that is used for values has not exactly one column (7.11, syntax rule 1; 8.4, 8.7)
abbrev pub NotOneColumn : Database → QuerySpecification → Type 0
NotOneColumn db query = IsTrue (block_is_there db query) × (column_count db query ≢ 1)

module _ (db : Database) (scopes : Scopes) where
  -- ---- literals and products of a scale over 18 (own)

  abbrev pub IsGreat : Option ValueType → Type 0
  IsGreat (Some (NumberType scale)) = greatest_scale < scale
  IsGreat _ = ⊥

  abbrev pub HasGreatProduct : Option ValueType → LineOperands → Type 0
  HasGreatProduct left NoOperand = ⊥
  HasGreatProduct left (Operand operator e others) =
      IsGreat (joined_type operator left (expr_type db scopes e))
      ⊎ HasGreatProduct (joined_type operator left (expr_type db scopes e)) others

  abbrev pub IsTooFine : Expr → Type 0
  IsTooFine (Numeral units digits scale) = greatest_scale < scale
  IsTooFine (Line first others) = HasGreatProduct (expr_type db scopes first) others
  IsTooFine _ = ⊥

  -- ---- a column that isn't there, or is there twice (6.4, syntax rules 2 to 4)

  abbrev pub IsNoColumn : Resolution → Type 0
  IsNoColumn (Named level f) = ⊥
  IsNoColumn _ = ⊤

  abbrev pub NamesNoColumn : Expr → Type 0
  NamesNoColumn (Column reference) = IsNoColumn (resolve scopes reference)
  NamesNoColumn _ = ⊥

  -- a name of a block further out, or of none
  abbrev pub IsNotOwn : Resolution → Type 0
  IsNotOwn (Named zero f) = ⊥
  IsNotOwn _ = ⊤

  -- ---- values of the wrong kind (6.5, 6.12, 8.2 to 8.7)

  abbrev pub IsOf : Kind → Expr → Type 0
  IsOf kind e = (type : ValueType) × (expr_type db scopes e ≡ Some type) × (type_kind type ≡ kind)

  abbrev pub SomeOperandIsText : LineOperands → Type 0
  SomeOperandIsText NoOperand = ⊥
  SomeOperandIsText (Operand operator e others) = IsOf Texts e ⊎ SomeOperandIsText others

  abbrev pub SomeMemberDiffers : Option ValueType → Members → Type 0
  SomeMemberDiffers type NoMember = ⊥
  SomeMemberDiffers type (NullMember others) = SomeMemberDiffers type others
  SomeMemberDiffers type (Member e others) = Differ type (expr_type db scopes e) ⊎ SomeMemberDiffers type others

  abbrev pub WantsNumbers : SetFunction → Type 0
  WantsNumbers Sum = ⊤
  WantsNumbers Avg = ⊤
  WantsNumbers _ = ⊥

  abbrev pub MixesKinds : Expr → Type 0
  MixesKinds (Signed minus e) = IsOf Texts e
  MixesKinds (Line first others) = IsFalse (is_logical others) × (IsOf Texts first ⊎ SomeOperandIsText others)
  MixesKinds (Compare op left right) = Differ (expr_type db scopes left) (expr_type db scopes right)
  MixesKinds (CompareAll op quantifier e query) =
      NotOneColumn db query ⊎ Differ (expr_type db scopes e) (query_type db scopes query)
  MixesKinds (Between negated e low high) =
      Differ (expr_type db scopes e) (expr_type db scopes low)
      ⊎ Differ (expr_type db scopes e) (expr_type db scopes high)
  MixesKinds (Like negated e pattern) = IsOf Numbers e
  MixesKinds (InList negated e members) = SomeMemberDiffers (expr_type db scopes e) members
  MixesKinds (InQuery negated e query) =
      NotOneColumn db query ⊎ Differ (expr_type db scopes e) (query_type db scopes query)
  MixesKinds (Scalar query) = NotOneColumn db query
  MixesKinds (Function function distinct argument) = WantsNumbers function × IsOf Texts argument
  MixesKinds _ = ⊥

-- ---- what stands where in a block

abbrev pub list_of : QuerySpecification → SelectList
list_of (Specification distinct list sources where' groups having) = list

abbrev pub where_of : QuerySpecification → SearchClause
where_of (Specification distinct list sources where' groups having) = where'

abbrev pub group_by_of : QuerySpecification → List ColumnReference
group_by_of (Specification distinct list sources where' groups having) = groups

abbrev pub having_clause_of : QuerySpecification → SearchClause
having_clause_of (Specification distinct list sources where' groups having) = having

-- the parts of WHERE; those of the result columns and of HAVING
abbrev pub where_parts : QuerySpecification → List Expr
where_parts block = flat_map parts (condition_values (where_of block))

abbrev pub shown_parts : QuerySpecification → List Expr
shown_parts block = flat_map parts (item_values (list_of block) ++ condition_values (having_clause_of block))

-- the parts of an argument, if an expression is a set function with one
abbrev pub argument_parts : Expr → List Expr
argument_parts (Function function distinct argument) = parts argument
argument_parts _ = []

abbrev pub all_argument_parts : QuerySpecification → List Expr
all_argument_parts block = flat_map argument_parts (where_parts block ++ shown_parts block)

abbrev pub all_parts : QuerySpecification → List Expr
all_parts block = where_parts block ++ shown_parts block ++ all_argument_parts block

-- GROUP BY, HAVING or a set function groups a block (7.8, syntax rule 1; 7.9, syntax rule 7)
abbrev pub IsGrouped : QuerySpecification → Type 0
IsGrouped block =
    (group_by_of block ≢ []) ⊎ (having_clause_of block ≢ Absent)
    ⊎ AnyOf (λ e. IsTrue (is_function e)) (shown_parts block)

-- ---- limits (own)

abbrev pub is_conjunction : LineOperands → Bool
is_conjunction (Operand And e others) = true
is_conjunction _ = false

abbrev mutual
  pub conjunct_count : Expr → ℕ
  conjunct_count (Line first others) = if is_conjunction others then conjunct_count first + operands_count others else 1
  conjunct_count _ = 1

  pub operands_count : LineOperands → ℕ
  operands_count NoOperand = 0
  operands_count (Operand operator e others) = conjunct_count e + operands_count others

abbrev pub member_count : Members → ℕ
member_count NoMember = 0
member_count (NullMember others) = member_count others + 1
member_count (Member e others) = member_count others + 1

abbrev pub HasManyMembers : Expr → Type 0
HasManyMembers (InList negated e members) = most_members < member_count members
HasManyMembers _ = ⊥

-- ---- the faults of a block

-- an expression is a column of the block itself that GROUP BY doesn't name
abbrev pub IsUngroupedColumn : List BlockColumn → Resolution → Type 0
IsUngroupedColumn grouped (Named zero f) = AnyOf (λ c. c ≡ f.column) grouped → ⊥
IsUngroupedColumn grouped _ = ⊥

abbrev pub IsUngrouped : Scopes → List ColumnReference → Expr → Type 0
IsUngrouped scopes groups (Column reference) =
    IsUngroupedColumn (map (λ g. own_column (resolve scopes g)) groups) (resolve scopes reference)
IsUngrouped scopes groups _ = ⊥

abbrev pub IsOuter : Resolution → Type 0
IsOuter (Named (suc between) f) = ⊤
IsOuter _ = ⊥

abbrev pub IsOuterColumn : Scopes → Expr → Type 0
IsOuterColumn scopes (Column reference) = IsOuter (resolve scopes reference)
IsOuterColumn scopes _ = ⊥

-- the faults of a block; those that hang on names are told only where all tables are there, and those that hang on all
-- of a list only where it is within its limit
pub data BlockFaulty (db : Database) (p : PlacedBlock) : Refusal → Type 0 where
  -- two tables of FROM have one name (6.3, syntax rule 2)
  name_twice : ¬ (AreDistinct (map (λ (t : NamedTable). t.name) (scope_of db (block_sources p.block))))
      → BlockFaulty db p NameTaken
  no_table : AnyOf (λ (s : Source). table_named db s.table ≡ None) (block_sources p.block) → BlockFaulty db p NotFound
  too_fine : IsTrue (are_there (scopes_at db p)) → AnyOf (IsTooFine db (scopes_at db p)) (all_parts p.block)
      → BlockFaulty db p ScaleTooGreat
  no_column : IsTrue (are_there (scopes_at db p)) → AnyOf (NamesNoColumn db (scopes_at db p)) (all_parts p.block)
      → BlockFaulty db p UnknownColumn
  group_not_own : IsTrue (are_there (scopes_at db p))
      → AnyOf (λ reference. IsNotOwn db (scopes_at db p) (resolve (scopes_at db p) reference)) (group_by_of p.block)
      → BlockFaulty db p UnknownColumn
  mixed_kinds : IsTrue (are_there (scopes_at db p)) → AnyOf (MixesKinds db (scopes_at db p)) (all_parts p.block)
      → BlockFaulty db p MixedKinds
  -- a condition for a value, or the other way round
  wrong_operand : AnyOf (λ e. IsFalse (takes_right e)) (all_parts p.block) → BlockFaulty db p MisplacedCondition
  wrong_condition : AnyOf (λ e. IsFalse (is_condition e)) (condition_values (where_of p.block)
      ++ condition_values (having_clause_of p.block)) → BlockFaulty db p MisplacedCondition
  wrong_value : AnyOf (λ e. IsTrue (is_condition e)) (item_values (list_of p.block))
      → BlockFaulty db p MisplacedCondition
  -- a set function in WHERE, or in another's argument; an outer column there (7.6, syntax rule 1; 6.5, syntax rules 3
  -- and 4)
  function_in_where : AnyOf (λ e. IsTrue (is_function e)) (where_parts p.block) → BlockFaulty db p MisplacedFunction
  function_in_function : AnyOf (λ e. IsTrue (is_function e)) (all_argument_parts p.block)
      → BlockFaulty db p MisplacedFunction
  outer_in_function : IsTrue (are_there (scopes_at db p))
      → AnyOf (IsOuterColumn (scopes_at db p)) (all_argument_parts p.block) → BlockFaulty db p MisplacedFunction
  -- a column that is not one of the group's (7.9, syntax rule 7; 7.8, syntax rule 3; SELECT * there is own)
  ungrouped : IsTrue (are_there (scopes_at db p)) → length (group_by_of p.block) ≤ most_group_columns
      → IsGrouped p.block → AnyOf (IsUngrouped (scopes_at db p) (group_by_of p.block)) (shown_parts p.block)
      → BlockFaulty db p UngroupedColumn
  star_of_groups : IsGrouped p.block → list_of p.block ≡ Asterisk → BlockFaulty db p UngroupedColumn
  -- limits (own)
  many_tables : most_from_tables < length (block_sources p.block) → BlockFaulty db p ManyTables
  many_conjuncts : AnyOf (λ e. most_conjuncts < conjunct_count e) (condition_values (where_of p.block))
      → BlockFaulty db p OverQueryLimit
  many_members : AnyOf HasManyMembers (all_parts p.block) → BlockFaulty db p OverQueryLimit
  many_items : most_items < item_count (list_of p.block) → BlockFaulty db p OverQueryLimit
  many_groups : most_group_columns < length (group_by_of p.block) → BlockFaulty db p OverQueryLimit
  misplaced_query : list_blocks db (scopes_at db p) (list_of p.block)
      ++ condition_blocks db (scopes_at db p) (having_clause_of p.block) ≢ [] → BlockFaulty db p OverQueryLimit

-- ---- the faults of a query

-- a key of ORDER BY names no result column, or several, or a position that isn't there (13.1, syntax rules 3 to 5)
abbrev pub IsUnknownKey : List (Option Name) → KeyName → Type 0
IsUnknownKey names (ByName name) = count_by (has_name name) names ≢ 1
IsUnknownKey names (ByPosition position) = (position ≡ 0) ⊎ (length names < position)

pub data QueryFaulty (db : Database) (q : Select) : Refusal → Type 0 where
  block : (fault : Refusal) → AnyOf (λ p. BlockFaulty db p fault) (placed_blocks_of db q.block) → QueryFaulty db q fault
  bad_key : IsTrue (are_there (scope_of db (block_sources q.block) ∷ [])) → item_count (list_of q.block) ≤ most_items
      → AnyOf (λ (k : SortSpecification). IsUnknownKey (names_of_list db (scope_of db (block_sources q.block) ∷
      []) (list_of q.block)) k.named) q.order → QueryFaulty db q UnknownKey
  many_blocks : most_blocks < length (placed_blocks_of db q.block) → QueryFaulty db q OverQueryLimit
  many_keys : most_keys < length q.order → QueryFaulty db q OverQueryLimit

abbrev pub IsAcceptedQuery : Database → Select → Type 0
IsAcceptedQuery db q = (fault : Refusal) → QueryFaulty db q fault → ⊥

-- ---- binding

-- a query binds where it has no fault, to its bound form
abbrev pub Binds : Database → Select → Blocks → Type 0
Binds db q blocks = IsAcceptedQuery db q × (blocks ≡ bound_form db q)
