-- Statements as trees. Parentheses leave no trace in them, and the operands of one line stand in one list.
use Rattle.std.specs.Prelude.{ℕ, Bool, List, [], ◌∷◌, Option}
use Rattle.definitions.specs.Value.{SqlType}

-- a name in upper case
abbrev pub Name : Type 0
Name = List ℕ

-- the comparison operators (ISO/IEC 9075:1992, 8.2)
pub data ComparisonOperator : Type 0 where
  Equals NotEquals LessThan GreaterThan LessOrEquals GreaterOrEquals : ComparisonOperator

-- the operators that join the operands of a line (8.12, 6.12)
pub data LineOperator : Type 0 where
  Or And Plus Minus Times Divided : LineOperator

-- the quantifiers of a comparison with a subquery; SOME is ANY (8.7)
pub data Quantifier : Type 0 where
  All Any : Quantifier

-- the set functions (6.5)
pub data SetFunction : Type 0 where
  Count Sum Avg Min Max : SetFunction

-- a column, with the name of its table if it is written (6.4)
pub record ColumnReference : Type 0 where
  pub qualifier : Option Name
  pub name : Name

-- a table of FROM, with its correlation name if it has one (6.3)
pub record Source : Type 0 where
  pub table : Name
  pub correlation : Option Name

mutual
  -- values and conditions in one; a numeral has its units, how many digits it is written with, and its scale (5.3, 6.2
  -- to 6.5, 6.11, 6.12, 8.1 to 8.12)
  pub data Expr : Type 0 where
    Column : (reference : ColumnReference) → Expr
    Numeral : (units digits scale : ℕ) → Expr
    String : (codes : List ℕ) → Expr
    Signed : (minus : Bool) (operand : Expr) → Expr
    Line : (first : Expr) (others : LineOperands) → Expr
    Not : (operand : Expr) → Expr
    Compare : (op : ComparisonOperator) (left right : Expr) → Expr
    CompareAll : (op : ComparisonOperator) (quantifier : Quantifier) (left : Expr) (query : QuerySpecification) → Expr
    IsNull : (negated : Bool) (value : Expr) → Expr
    Between : (negated : Bool) (value low high : Expr) → Expr
    Like : (negated : Bool) (value : Expr) (pattern : List ℕ) → Expr
    InList : (negated : Bool) (value : Expr) (members : Members) → Expr
    InQuery : (negated : Bool) (value : Expr) (query : QuerySpecification) → Expr
    Exists : (query : QuerySpecification) → Expr
    Scalar : (query : QuerySpecification) → Expr
    CountRows : Expr
    Function : (function : SetFunction) (distinct : Bool) (argument : Expr) → Expr

  -- the operands behind the first of a line, each with its operator
  pub data LineOperands : Type 0 where
    NoOperand : LineOperands
    Operand : (operator : LineOperator) (operand : Expr) (others : LineOperands) → LineOperands

  -- the members of an IN list (8.4; NULL among them is own)
  pub data Members : Type 0 where
    NoMember : Members
    NullMember : (others : Members) → Members
    Member : (value : Expr) (others : Members) → Members

  -- the items of a select list, each with its AS name if it has one (7.9)
  pub data Items : Type 0 where
    NoItem : Items
    AddItem : (value : Expr) (alias : Option Name) (others : Items) → Items

  -- a select list: an asterisk or items (7.9)
  pub data SelectList : Type 0 where
    Asterisk : SelectList
    Listed : (items : Items) → SelectList

  -- the condition of WHERE or HAVING, if there is one (7.6, 7.8)
  pub data SearchClause : Type 0 where
    Absent : SearchClause
    Present : (condition : Expr) → SearchClause

  -- a query block (7.9, 7.3, 7.4, 7.6 to 7.8)
  pub data QuerySpecification : Type 0 where
    Specification : (distinct : Bool) (list : SelectList) (sources : List Source) (where' : SearchClause)
        (groups : List ColumnReference) (having : SearchClause) → QuerySpecification

-- an item of a select list
pub record DerivedColumn : Type 0 where
  pub value : Expr
  pub alias : Option Name

abbrev pub listed : Items → List DerivedColumn
listed NoItem = []
listed (AddItem value alias others) = record { value = value; alias = alias } ∷ listed others

abbrev pub block_sources : QuerySpecification → List Source
block_sources (Specification distinct list sources where' groups having) = sources

-- what a key of ORDER BY names: a result column or its position (13.1)
pub data KeyName : Type 0 where
  ByName : (name : Name) → KeyName
  ByPosition : (position : ℕ) → KeyName

pub record SortSpecification : Type 0 where
  pub named : KeyName
  pub descending : Bool

-- a query with its order (13.1)
pub record Select : Type 0 where
  pub block : QuerySpecification
  pub order : List SortSpecification

-- what is asked of a column's values: NOT NULL alone, or with UNIQUE or PRIMARY KEY, or nothing (11.4, 11.7)
pub data Constraint : Type 0 where
  Nullable NotNull Unique PrimaryKey : Constraint

-- a column of CREATE TABLE (11.4)
pub record ColumnDefinition : Type 0 where
  pub name : Name
  pub type : SqlType
  pub constraint : Constraint

-- a number with a sign: its units, how many digits it is written with, and its scale (5.3)
pub record Bound : Type 0 where
  pub minus : Bool
  pub units : ℕ
  pub digits : ℕ
  pub scale : ℕ

-- the least and the greatest key of an index (own)
pub record Range : Type 0 where
  pub low : Bound
  pub high : Bound

-- the statistics of an index (own)
pub record GivenStatistics : Type 0 where
  pub keys : ℕ
  pub pages : ℕ
  pub clustered : Bool
  pub range : Option Range

-- CREATE TABLE is 11.3, a query 13.1; the others are own
pub data Statement : Type 0 where
  CreateTable : (name : Name) (columns : List ColumnDefinition) → Statement
  CreateIndex : (unique : Bool) (table : Name) (columns : List Name) → Statement
  Load : (table : Name) (file : List ℕ) → Statement
  SetTableStatistics : (table : Name) (rows pages : ℕ) → Statement
  SetIndexStatistics : (table : Name) (columns : List Name) (statistics : GivenStatistics) → Statement
  Query : (select : Select) → Statement
  Explain : (select : Select) → Statement
