-- What the trees of this crate stand for: those of the definitions, without the offsets in the script.
use Rattle.std.specs.Prelude.{ℕ, List, Option, Some, None, map, string_bytes, option_map}
use Rattle.definitions.specs.Statement as spec
use Rattle.definitions.specs.Grammar.{operands, member_list, items}
use Rattle.sqlvalue.specs.Meaning.{declared_of, op_of}
use Rattle.parse_tree.specs.declared.leaf.Name.{Name}
use Rattle.parse_tree.specs.declared.leaf.ColumnReference.{ColumnReference}
use Rattle.parse_tree.specs.declared.leaf.Numeral.{Numeral}
use Rattle.parse_tree.specs.declared.leaf.StringLiteral.{StringLiteral}
use Rattle.parse_tree.specs.declared.leaf.LineOperator.{LineOperator}
use Rattle.parse_tree.specs.declared.leaf.LineOperator.TheVariants as j
use Rattle.parse_tree.specs.declared.leaf.Quantifier.{Quantifier}
use Rattle.parse_tree.specs.declared.leaf.Quantifier.TheVariants as q
use Rattle.parse_tree.specs.declared.leaf.SetFunction.{SetFunction}
use Rattle.parse_tree.specs.declared.leaf.SetFunction.TheVariants as f
use Rattle.parse_tree.specs.declared.expr.Expr.{Expr}
use Rattle.parse_tree.specs.declared.expr.Expr.TheOpen.{Expr-F, SelectList-F, Item-F, Operand-F, Block-F}
use Rattle.parse_tree.specs.declared.expr.Expr.TheOpen as e
use Rattle.parse_tree.specs.declared.expr.Expr.TheFolds.{fold-Expr, fold-SelectList, fold-Item, fold-Operand}
use Rattle.parse_tree.specs.declared.expr.Expr.TheFolds.{fold-Block}
use Rattle.parse_tree.specs.declared.expr.SelectList.{SelectList}
use Rattle.parse_tree.specs.declared.expr.Item.{Item}
use Rattle.parse_tree.specs.declared.expr.Operand.{Operand}
use Rattle.parse_tree.specs.declared.expr.Block.{Block}
use Rattle.parse_tree.specs.declared.expr.Source.{Source}
use Rattle.parse_tree.specs.declared.leaf.Count.{Count}
use Rattle.parse_tree.specs.declared.statement.KeyName.{KeyName}
use Rattle.parse_tree.specs.declared.statement.KeyName.TheVariants as k
use Rattle.parse_tree.specs.declared.statement.Key.{Key}
use Rattle.parse_tree.specs.declared.statement.Select.{Select}
use Rattle.parse_tree.specs.declared.statement.Constraint.{Constraint}
use Rattle.parse_tree.specs.declared.statement.Constraint.TheVariants as c
use Rattle.parse_tree.specs.declared.statement.ColumnDefinition.{ColumnDefinition}
use Rattle.parse_tree.specs.declared.statement.Bound.{Bound}
use Rattle.parse_tree.specs.declared.statement.Range.{Range}
use Rattle.parse_tree.specs.declared.statement.IndexStatistics.{IndexStatistics}
use Rattle.parse_tree.specs.declared.statement.Statement.{Statement}
use Rattle.parse_tree.specs.declared.statement.Statement.TheVariants as s

abbrev pub name_of : Name → spec.Name
name_of n = string_bytes n.text

abbrev pub column_of : ColumnReference → spec.ColumnReference
column_of r = record { qualifier = option_map name_of r.qualifier; name = name_of r.name }

abbrev pub text_of : StringLiteral → List ℕ
text_of t = string_bytes t.text

abbrev pub numeral_of : Numeral → spec.Expr
numeral_of n = spec.Numeral n.units n.digits n.scale

abbrev pub operator_of : LineOperator → spec.LineOperator
operator_of j.Or = spec.Or
operator_of j.And = spec.And
operator_of j.Plus = spec.Plus
operator_of j.Minus = spec.Minus
operator_of j.Times = spec.Times
operator_of j.Divided = spec.Divided

abbrev pub quantifier_of : Quantifier → spec.Quantifier
quantifier_of q.All = spec.All
quantifier_of q.Any = spec.Any

abbrev pub function_of : SetFunction → spec.SetFunction
function_of f.Count = spec.Count
function_of f.Sum = spec.Sum
function_of f.Avg = spec.Avg
function_of f.Min = spec.Min
function_of f.Max = spec.Max

abbrev pub source_of : Source → spec.Source
source_of t = record { table = name_of t.table; correlation = option_map name_of t.correlation }

-- ---- expressions, select lists, items, operands and blocks: one layer of each, the trees of its parts in their place

abbrev pub OperandTree : Type 0
OperandTree = spec.LineOperator × spec.Expr

abbrev pub condition_layer : Option spec.Expr → spec.SearchClause
condition_layer None = spec.Absent
condition_layer (Some e) = spec.Present e

abbrev pub expr_layer : Expr-F spec.Expr spec.SelectList spec.QuerySpecification spec.DerivedColumn OperandTree
    → spec.Expr
expr_layer (e.Column r) = spec.Column (column_of r)
expr_layer (e.Numeral n) = numeral_of n
expr_layer (e.String t) = spec.String (text_of t)
expr_layer (e.Signed p minus a) = spec.Signed minus a.value
expr_layer (e.Line first others) = spec.Line first.value (operands others.items)
expr_layer (e.Not p a) = spec.Not a.value
expr_layer (e.Compare p op a b) = spec.Compare (op_of op) a.value b.value
expr_layer (e.CompareAll p op quantifier a b) = spec.CompareAll (op_of op) (quantifier_of quantifier) a.value b.value
expr_layer (e.IsNull p n a) = spec.IsNull n a.value
expr_layer (e.Between p n a b c) = spec.Between n a.value b.value c.value
expr_layer (e.Like p n a t) = spec.Like n a.value (text_of t)
expr_layer (e.InList p n a xs) = spec.InList n a.value (member_list xs.items)
expr_layer (e.InQuery p n a b) = spec.InQuery n a.value b.value
expr_layer (e.Exists p b) = spec.Exists b.value
expr_layer (e.Scalar p b) = spec.Scalar b.value
expr_layer (e.CountRows p) = spec.CountRows
expr_layer (e.Function p g d a) = spec.Function (function_of g) d a.value

abbrev pub list_layer : SelectList-F spec.Expr spec.SelectList spec.QuerySpecification spec.DerivedColumn OperandTree
    → spec.SelectList
list_layer (e.Asterisk p) = spec.Asterisk
list_layer (e.Items xs) = spec.Listed (items xs.items)

abbrev pub block_layer : Block-F spec.Expr spec.SelectList spec.QuerySpecification spec.DerivedColumn OperandTree
    → spec.QuerySpecification
block_layer b =
    spec.Specification b.distinct b.list (map source_of b.sources.tables.items) (condition_layer b.condition)
    (map column_of b.groups.items) (condition_layer b.having)

abbrev pub item_layer : Item-F spec.Expr spec.SelectList spec.QuerySpecification spec.DerivedColumn OperandTree
    → spec.DerivedColumn
item_layer i = record { value = i.value; alias = option_map name_of i.alias }

abbrev pub operand_layer : Operand-F spec.Expr spec.SelectList spec.QuerySpecification spec.DerivedColumn OperandTree
    → OperandTree
operand_layer x = (operator_of x.operator, x.value)

abbrev pub expr_of : Expr → spec.Expr
expr_of = fold-Expr spec.Expr spec.SelectList spec.QuerySpecification spec.DerivedColumn OperandTree expr_layer
    list_layer block_layer item_layer operand_layer

abbrev pub list_of : SelectList → spec.SelectList
list_of = fold-SelectList spec.Expr spec.SelectList spec.QuerySpecification spec.DerivedColumn OperandTree expr_layer
    list_layer block_layer item_layer operand_layer

abbrev pub block_of : Block → spec.QuerySpecification
block_of = fold-Block spec.Expr spec.SelectList spec.QuerySpecification spec.DerivedColumn OperandTree expr_layer
    list_layer block_layer item_layer operand_layer

abbrev pub item_of : Item → spec.DerivedColumn
item_of = fold-Item spec.Expr spec.SelectList spec.QuerySpecification spec.DerivedColumn OperandTree expr_layer
    list_layer block_layer item_layer operand_layer

abbrev pub operand_of : Operand → OperandTree
operand_of =
    fold-Operand spec.Expr spec.SelectList spec.QuerySpecification spec.DerivedColumn OperandTree expr_layer list_layer
    block_layer item_layer operand_layer

abbrev pub member_of : Option Expr → Option spec.Expr
member_of None = None
member_of (Some e) = Some (expr_of e)

abbrev pub condition_of : Option Expr → spec.SearchClause
condition_of None = spec.Absent
condition_of (Some e) = spec.Present (expr_of e)

-- ---- statements

abbrev pub count_of : Count → ℕ
count_of n = n.units

abbrev pub key_name_of : KeyName → spec.KeyName
key_name_of (k.Name n) = spec.ByName (name_of n)
key_name_of (k.Position n) = spec.ByPosition n.units

abbrev pub key_of : Key → spec.SortSpecification
key_of x = record { named = key_name_of x.name; descending = x.descending }

abbrev pub select_of : Select → spec.Select
select_of q = record { block = block_of q.block; order = map key_of q.order.items }

abbrev pub constraint_of : Constraint → spec.Constraint
constraint_of c.Nullable = spec.Nullable
constraint_of c.NotNull = spec.NotNull
constraint_of c.Unique = spec.Unique
constraint_of c.PrimaryKey = spec.PrimaryKey

abbrev pub definition_of : ColumnDefinition → spec.ColumnDefinition
definition_of d =
    record { name = name_of d.name; type = declared_of d.declared; constraint = constraint_of d.constraint }

abbrev pub definitions_of : List ColumnDefinition → List spec.ColumnDefinition
definitions_of = map definition_of

abbrev pub bound_of : Bound → spec.Bound
bound_of b = record { minus = b.minus; units = b.number.units; digits = b.number.digits; scale = b.number.scale }

abbrev pub range_of : Range → spec.Range
range_of r = record { low = bound_of r.low; high = bound_of r.high }

abbrev pub statistics_of : IndexStatistics → spec.GivenStatistics
statistics_of f =
    record { keys = f.keys.units; pages = f.pages.units; clustered = f.clustered; range = option_map range_of f.range }

abbrev pub statement_of : Statement → spec.Statement
statement_of (s.CreateTable name columns) = spec.CreateTable (name_of name) (definitions_of columns.items)
statement_of (s.CreateIndex unique table columns) = spec.CreateIndex unique (name_of table) (map name_of columns.items)
statement_of (s.Load table file) = spec.Load (name_of table) (text_of file)
statement_of (s.SetTableStatistics table rows pages) = spec.SetTableStatistics (name_of table) rows.units pages.units
statement_of (s.SetIndexStatistics table columns statistics) =
    spec.SetIndexStatistics (name_of table) (map name_of columns.items) (statistics_of statistics)
statement_of (s.Query q) = spec.Query (select_of q)
statement_of (s.Explain q) = spec.Explain (select_of q)

abbrev pub statements_of : List Statement → List spec.Statement
statements_of = map statement_of
