-- Queries whose names are bound: tables, columns and inner blocks go by number. (All numbers count from 0; the form is
-- own.)
use Rattle.std.specs.Prelude.{ℕ, Bool, List, Option}
use Rattle.definitions.specs.Value.{SqlType}
use Rattle.definitions.specs.ValueType.{ValueType}
use Rattle.definitions.specs.Statement.{ComparisonOperator, Quantifier, SetFunction}
use Rattle.definitions.specs.Plans.Order.{BlockColumn}

-- what stands between the operands of arithmetic (ISO/IEC 9075:1992, 6.12)
pub data Operator : Type 0 where
  Plus Minus Times Over : Operator

mutual
  -- a value. A column is one of the block's own tables. A parameter is a column of a block around it: how many blocks
  -- lie between (0: none), and which column of that block. A numeral has its units, the number of digits that it is
  -- written with, and its scale. A set function goes by its number in the block, a subquery by its block's number. What
  -- stands for values of elsewhere has their type (6.2 to 6.5, 6.11, 6.12)
  pub data ValueExpr : Type 0 where
    Column : (column : BlockColumn) (type : SqlType) → ValueExpr
    Parameter : (between : ℕ) (column : BlockColumn) (type : SqlType) → ValueExpr
    Numeral : (units digits scale : ℕ) → ValueExpr
    String : (codes : List ℕ) → ValueExpr
    Signed : (minus : Bool) (operand : ValueExpr) → ValueExpr
    Chain : (first : ValueExpr) (others : Operands) → ValueExpr
    AggregateValue : (number : ℕ) (type : ValueType) → ValueExpr
    Subquery : (block : ℕ) (type : ValueType) → ValueExpr

  -- the operands behind the first, each with what joins it to those before
  pub data Operands : Type 0 where
    NoOperand : Operands
    Operand : (operator : Operator) (operand : ValueExpr) (others : Operands) → Operands

mutual
  -- a condition; a member of an IN list that is absent is NULL (8.1 to 8.12)
  pub data Condition : Type 0 where
    Compare : (op : ComparisonOperator) (left right : ValueExpr) → Condition
    Quantified : (op : ComparisonOperator) (quantifier : Quantifier) (value : ValueExpr) (block : ℕ) → Condition
    IsNull : (negated : Bool) (value : ValueExpr) → Condition
    Between : (negated : Bool) (value low high : ValueExpr) → Condition
    Like : (negated : Bool) (value : ValueExpr) (pattern : List ℕ) → Condition
    InList : (negated : Bool) (value : ValueExpr) (members : List (Option ValueExpr)) → Condition
    InQuery : (negated : Bool) (value : ValueExpr) (block : ℕ) → Condition
    Exists : (block : ℕ) → Condition
    Not : (operand : Condition) → Condition
    And : (parts : Conditions) → Condition
    Or : (parts : Conditions) → Condition

  -- the operands of one AND or OR
  pub data Conditions : Type 0 where
    NoPart : Conditions
    Part : (part : Condition) (others : Conditions) → Conditions

-- COUNT(*), or a function of the argument's values, DISTINCT or not (6.5)
pub data Aggregate : Type 0 where
  CountRows : Aggregate
  OfValues : (function : SetFunction) (distinct : Bool) (argument : ValueExpr) → Aggregate

-- a result column: the name in the header and its value (7.9)
pub record Item : Type 0 where
  pub name : List ℕ
  pub value : ValueExpr

-- a key of ORDER BY: a result column and a direction (13.1)
pub record OrderKey : Type 0 where
  pub item : ℕ
  pub descending : Bool

-- a query block: the numbers of its tables in the database, its result columns, WHERE, GROUP BY, HAVING, the set
-- functions of the result columns and of HAVING in text order, and ORDER BY, which only the outermost block has (7.9,
-- 7.4 to 7.8, 13.1)
pub record Block : Type 0 where
  pub tables : List ℕ
  pub distinct : Bool
  pub items : List Item
  pub condition : Option Condition
  pub groups : List BlockColumn
  pub having : Option Condition
  pub functions : List Aggregate
  pub order : List OrderKey

-- the blocks of a statement in text order, the outermost first; so the number of an inner block is greater than that of
-- the block around it
abbrev pub Blocks : Type 0
Blocks = List Block
