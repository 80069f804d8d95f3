-- What holds of the bound form of a query without a fault: whatever its blocks name by number is there, with the type
-- that is told.
use Rattle.std.specs.Prelude.{ℕ, zero, suc, ◌^◌, ◌<◌, ◌≤◌, ◌≡◌, ⊤, List, [], ◌∷◌, Option, Some, None, length, slice_get}
use Rattle.std.specs.Prelude.{is_some, IsTrue, Contains}
use Rattle.std.specs.List.{AllByRecursion}
use Rattle.definitions.specs.Characters.{is_printable}
use Rattle.definitions.specs.Limits.{most_from_tables, most_conjuncts, most_blocks, most_digits, most_string_characters}
use Rattle.definitions.specs.Limits.{greatest_scale}
use Rattle.definitions.specs.Value.{SqlType}
use Rattle.definitions.specs.ValueType.{ValueType, NumberType}
use Rattle.definitions.specs.Table as table
use Rattle.definitions.specs.Table.{Table, Database}
use Rattle.definitions.specs.Invariant.{IsDatabase}
use Rattle.definitions.specs.Arithmetic.{quotient_scale}
use Rattle.definitions.specs.Plans.Order.{BlockColumn}
use Rattle.definitions.specs.Statement.{SetFunction, Count, Sum, Avg}
use Rattle.definitions.specs.Queries.BoundBlock.{ValueExpr, Column, Parameter, Numeral, String, Signed, Chain}
use Rattle.definitions.specs.Queries.BoundBlock.{AggregateValue, Subquery, Operands, NoOperand, Operand, Condition}
use Rattle.definitions.specs.Queries.BoundBlock.{Aggregate, CountRows, OfValues, Item, OrderKey, Block, Blocks}
use Rattle.definitions.specs.Queries.Conjuncts.{values_of, blocks_of, conjuncts}
use Rattle.definitions.specs.Queries.BoundTypes.{value_type, is_sound}
use Rattle.definitions.specs.Statement as t
use Rattle.definitions.specs.Statement.{Expr, Select, block_sources}
use Rattle.definitions.specs.Binding.Parts as parts
use Rattle.definitions.specs.Binding.Faults.{all_parts, IsAcceptedQuery}
use Rattle.definitions.specs.Binding.BoundForm.{bound_form}

-- a block has a column, and it is of a type
abbrev pub HasColumn : Database → Block → BlockColumn → SqlType → Type 0
HasColumn db b c type =
    (n : ℕ) × (t : Table) × (column : table.Column)
    × (slice_get b.tables c.table ≡ Some n) × (slice_get db n ≡ Some t) × (slice_get t.columns c.number ≡ Some column)
    × (column.type ≡ type)

-- the type of a set function's values
abbrev pub kind_type : SetFunction → Option ValueType → Option ValueType
kind_type Count type = Some (NumberType 0)
kind_type Avg (Some (NumberType scale)) = Some (NumberType (quotient_scale scale))
kind_type Avg type = None
kind_type Sum (Some (NumberType scale)) = Some (NumberType scale)
kind_type Sum type = None
kind_type _ type = type

abbrev pub set_function_type : Aggregate → Option ValueType
set_function_type CountRows = Some (NumberType 0)
set_function_type (OfValues kind distinct argument) = kind_type kind (value_type argument)

-- the type of the only result column of the block of a number
abbrev pub only_type : List Item → Option ValueType
only_type (i ∷ []) = value_type i.value
only_type items = None

abbrev pub column_type : Blocks → ℕ → Option ValueType
column_type [] k = None
column_type (b ∷ bs) zero = only_type b.items
column_type (b ∷ bs) (suc k) = column_type bs k

-- the characters of a string are printable (ISO/IEC 9075:1992, 5.3)
abbrev pub IsWrittenString : List ℕ → Type 0
IsWrittenString codes = (length codes ≤ most_string_characters) × AllByRecursion (λ c. IsTrue (is_printable c)) codes

-- a value of the block b of number n, with the blocks around it, the nearest first
module _ (db : Database) (blocks around : Blocks) (n : ℕ) (b : Block) where
  abbrev mutual
    pub IsFormedValue : ValueExpr → Type 0
    IsFormedValue (Column c type) = HasColumn db b c type
    IsFormedValue (Parameter between c type) =
        (outer : Block) × (slice_get around between ≡ Some outer) × HasColumn db outer c type
    IsFormedValue (Numeral units digits scale) =
        (units < 10 ^ digits) × (digits ≤ most_digits) × (scale ≤ greatest_scale)
    IsFormedValue (String codes) = IsWrittenString codes
    IsFormedValue (Signed minus operand) = IsFormedValue operand
    IsFormedValue (Chain first others) = IsFormedValue first × AreFormedOperands others
    IsFormedValue (AggregateValue number type) =
        (f : Aggregate) × (slice_get b.functions number ≡ Some f) × (set_function_type f ≡ Some type)
    IsFormedValue (Subquery block type) = (n < block) × (column_type blocks block ≡ Some type)

    pub AreFormedOperands : Operands → Type 0
    AreFormedOperands NoOperand = ⊤
    AreFormedOperands (Operand operator operand others) = IsFormedValue operand × AreFormedOperands others

  -- a value that has a type
  abbrev pub IsTypedValue : ValueExpr → Type 0
  IsTypedValue e = IsFormedValue e × IsTrue (is_some (value_type e))

  -- a number of a block inside: behind the block's own, and there
  abbrev pub IsInside : ℕ → Type 0
  IsInside k = (n < k) × (k < length blocks)

  abbrev pub IsFormedCondition : Condition → Type 0
  IsFormedCondition c =
      AllByRecursion IsTypedValue (values_of c) × IsTrue (is_sound (column_type blocks) c)
      × AllByRecursion IsInside (blocks_of c)

  abbrev pub IfCondition : Option Condition → Type 0
  IfCondition None = ⊤
  IfCondition (Some c) = IsFormedCondition c

  abbrev pub IsFormedFunction : Aggregate → Type 0
  IsFormedFunction CountRows = ⊤
  IsFormedFunction (OfValues kind distinct argument) = IsTypedValue argument

  pub record IsFormedBlock : Type 0 where
    pub some : 0 < length b.tables
    pub tables : AllByRecursion (λ t. t < length db) b.tables
    pub count : length b.tables ≤ most_from_tables
    pub items : AllByRecursion (λ (i : Item). IsTypedValue i.value) b.items
    pub condition : IfCondition b.condition
    pub conjuncts : length (conjuncts b) ≤ most_conjuncts
    pub groups : AllByRecursion (λ c. (type : SqlType) × HasColumn db b c type) b.groups
    pub having : IfCondition b.having
    pub functions : AllByRecursion IsFormedFunction b.functions
    pub order : AllByRecursion (λ (k : OrderKey). k.item < length b.items) b.order

abbrev pub blocks_of_option : Option Condition → List ℕ
blocks_of_option None = []
blocks_of_option (Some c) = blocks_of c

-- the block of a number is formed, and so are the blocks inside it, with it around them
pub data AreFormed (db : Database) (blocks : Blocks) : Blocks → ℕ → Type 0 where
  formed : (around : Blocks) (n : ℕ) (b : Block) → slice_get blocks n ≡ Some b → IsFormedBlock db blocks around n b
      → ((k : ℕ) → Contains (blocks_of_option b.condition) k → AreFormed db blocks (b ∷ around) k)
      → AreFormed db blocks around n

-- ---- queries as they can be written

-- a numeral's units have no more digits than it says (ISO/IEC 9075:1992, 5.3)
abbrev pub IsWrittenNumeral : (units digits : ℕ) → Type 0
IsWrittenNumeral units digits = (units < 10 ^ digits) × (digits ≤ most_digits)

abbrev pub IsWritten : Expr → Type 0
IsWritten (t.Numeral units digits scale) = IsWrittenNumeral units digits
IsWritten (t.String codes) = IsWrittenString codes
IsWritten _ = ⊤

-- and a FROM that names a table or more (7.4)
abbrev pub NamesTables : t.QuerySpecification → Type 0
NamesTables block = 0 < length (block_sources block)

abbrev pub AreWritten : Database → Select → Type 0
AreWritten db q =
    AllByRecursion (λ (p : parts.PlacedBlock). AllByRecursion IsWritten (all_parts p.block)
    × NamesTables p.block) (parts.placed_blocks_of db q.block)

-- a query that is written so and has no fault has a bound form whose blocks are formed
abbrev pub AcceptedQueriesAreFormed : Type 0
AcceptedQueriesAreFormed =
    (db : Database) (q : Select) → IsDatabase db → AreWritten db q → IsAcceptedQuery db q
    → AreFormed db (bound_form db q) [] 0

-- a block is formed where it stands
abbrev pub IsFormedSomewhere : Database → Block → Type 0
IsFormedSomewhere db b = (blocks around : Blocks) × (n : ℕ) × IsFormedBlock db blocks around n b

-- each of them is
abbrev pub EachBlockIsFormed : Type 0
EachBlockIsFormed =
    (db : Database) (q : Select) → IsDatabase db → AreWritten db q → IsAcceptedQuery db q
    → AllByRecursion (IsFormedSomewhere db) (bound_form db q)

-- and there are few of them
abbrev pub AcceptedQueriesHaveFewBlocks : Type 0
AcceptedQueriesHaveFewBlocks =
    (db : Database) (q : Select) → IsAcceptedQuery db q → length (bound_form db q) ≤ most_blocks
