-- The leaves of statements in text order: each name, literal and operator, and where it stands.
use Rattle.std.specs.Prelude.{ℕ, ◌+◌, ◌≤◌, Bool, true, false, List, [], ◌∷◌, ◌++◌}
use Rattle.definitions.specs.Statement as spec
use Rattle.definitions.specs.Token as t
use Rattle.definitions.specs.Word as w
use Rattle.sqlvalue.specs.Meaning.{op_of}
use Rattle.parse_tree.specs.Trees.{operator_of, function_of}
use Rattle.parse_tree.specs.declared.leaf.ColumnReference.{ColumnReference}
use Rattle.parse_tree.specs.declared.expr.Expr.{Expr}
use Rattle.parse_tree.specs.declared.expr.Expr.TheOpen.{Expr-F, SelectList-F, Item-F, Operand-F, Block-F}
use Rattle.parse_tree.specs.declared.expr.Expr.TheOpen as e
use Rattle.parse_tree.specs.declared.expr.Expr.TheFolds.{fold-Expr, fold-SelectList, fold-Item, fold-Operand}
use Rattle.parse_tree.specs.declared.expr.Expr.TheFolds.{fold-Block}
use Rattle.parse_tree.specs.declared.expr.SelectList.{SelectList}
use Rattle.parse_tree.specs.declared.expr.Item.{Item}
use Rattle.parse_tree.specs.declared.expr.Operand.{Operand}
use Rattle.parse_tree.specs.declared.expr.Block.{Block}
use Rattle.parse_tree.specs.declared.expr.Source.{Source}
use Rattle.parse_tree.specs.declared.statement.KeyName.{KeyName}
use Rattle.parse_tree.specs.declared.statement.KeyName.TheVariants as k
use Rattle.parse_tree.specs.declared.statement.Key.{Key}
use Rattle.parse_tree.specs.declared.statement.Select.{Select}
use Rattle.parse_tree.specs.declared.statement.ColumnDefinition.{ColumnDefinition}
use Rattle.parse_tree.specs.declared.statement.Bound.{Bound}
use Rattle.parse_tree.specs.declared.statement.Range.{Range}
use Rattle.parse_tree.specs.declared.statement.IndexStatistics.{IndexStatistics}
use Rattle.parse_tree.specs.declared.statement.Statement.{Statement}
use Rattle.parse_tree.specs.declared.statement.Statement.TheVariants as s
use Rattle.syntax_cursor.specs.Reading.{Place}
use Rattle.syntax_cursor.specs.Places.{Leaf, Placed, Stand, left_at, Reserved, Mark, one, if_there, name_leaves, numeral_leaves}
use Rattle.syntax_cursor.specs.Places.{string_leaves, count_leaves}

-- ---- operators

abbrev pub sign_leaf : (minus : Bool) → Leaf
sign_leaf true = Mark t.Minus
sign_leaf false = Mark t.Plus

abbrev pub op_leaf : spec.ComparisonOperator → Leaf
op_leaf spec.Equals = Mark t.Equals
op_leaf spec.NotEquals = Mark t.NotEquals
op_leaf spec.LessThan = Mark t.LessThan
op_leaf spec.GreaterThan = Mark t.GreaterThan
op_leaf spec.LessOrEquals = Mark t.LessOrEquals
op_leaf spec.GreaterOrEquals = Mark t.GreaterOrEquals

abbrev pub operator_leaf : spec.LineOperator → Leaf
operator_leaf spec.Or = Reserved w.Or
operator_leaf spec.And = Reserved w.And
operator_leaf spec.Plus = Mark t.Plus
operator_leaf spec.Minus = Mark t.Minus
operator_leaf spec.Times = Mark t.Asterisk
operator_leaf spec.Divided = Mark t.Solidus

abbrev pub function_leaf : spec.SetFunction → Leaf
function_leaf spec.Count = Reserved w.Count
function_leaf spec.Sum = Reserved w.Sum
function_leaf spec.Avg = Reserved w.Avg
function_leaf spec.Min = Reserved w.Min
function_leaf spec.Max = Reserved w.Max

-- ---- lists

-- the leaves of each, one after the other
abbrev pub all : {A : Type 0} → (A → List Placed) → List A → List Placed
all leaves [] = []
all leaves (x ∷ xs) = leaves x ++ all leaves xs

abbrev pub reference_leaves : ColumnReference → List Placed
reference_leaves r = if_there name_leaves r.qualifier ++ name_leaves r.name

abbrev pub source_leaves : Source → List Placed
source_leaves x = name_leaves x.table ++ if_there name_leaves x.correlation

-- ---- expressions, select lists, items, operands and blocks: one layer of each, the leaves of its parts in their place

abbrev pub same : List Placed → List Placed
same leaves = leaves

abbrev pub expr_layer : Expr-F (List Placed) (List Placed) (List Placed) (List Placed) (List Placed) → List Placed
expr_layer (e.Column r) = reference_leaves r
expr_layer (e.Numeral n) = numeral_leaves n
expr_layer (e.String text) = string_leaves text
expr_layer (e.Signed start minus a) = one (sign_leaf minus) start ++ a.value
expr_layer (e.Line first others) = first.value ++ all same others.items
expr_layer (e.Not start a) = one (Reserved w.Not) start ++ a.value
expr_layer (e.Compare start op a b) = (a.value ++ one (op_leaf (op_of op)) start) ++ b.value
expr_layer (e.CompareAll start op quantifier a b) = (a.value ++ one (op_leaf (op_of op)) start) ++ b.value
expr_layer (e.IsNull start n a) = a.value ++ one (Reserved w.Is) start
expr_layer (e.Between start n a b c) = ((a.value ++ one (Reserved w.Between) start) ++ b.value) ++ c.value
expr_layer (e.Like start n a text) = (a.value ++ one (Reserved w.Like) start) ++ string_leaves text
expr_layer (e.InList start n a xs) = (a.value ++ one (Reserved w.In) start) ++ all (if_there same) xs.items
expr_layer (e.InQuery start n a b) = (a.value ++ one (Reserved w.In) start) ++ b.value
expr_layer (e.Exists start b) = one (Reserved w.Exists) start ++ b.value
expr_layer (e.Scalar start b) = one (Mark t.OpenParen) start ++ b.value
expr_layer (e.CountRows start) = one (Reserved w.Count) start
expr_layer (e.Function start f d a) = one (function_leaf (function_of f)) start ++ a.value

abbrev pub list_layer : SelectList-F (List Placed) (List Placed) (List Placed) (List Placed) (List Placed) → List Placed
list_layer (e.Asterisk start) = one (Mark t.Asterisk) start
list_layer (e.Items xs) = all same xs.items

abbrev pub block_layer : Block-F (List Placed) (List Placed) (List Placed) (List Placed) (List Placed) → List Placed
block_layer b =
    ((((one (Reserved w.Select) b.start ++ b.list) ++ all source_leaves b.sources.tables.items)
    ++ if_there same b.condition) ++ all reference_leaves b.groups.items) ++ if_there same b.having

abbrev pub item_layer : Item-F (List Placed) (List Placed) (List Placed) (List Placed) (List Placed) → List Placed
item_layer i = i.value ++ if_there name_leaves i.alias

abbrev pub operand_layer : Operand-F (List Placed) (List Placed) (List Placed) (List Placed) (List Placed) → List Placed
operand_layer x = one (operator_leaf (operator_of x.operator)) x.start ++ x.value

abbrev pub expr_leaves : Expr → List Placed
expr_leaves =
    fold-Expr (List Placed) (List Placed) (List Placed) (List Placed) (List Placed) expr_layer list_layer block_layer
    item_layer operand_layer

abbrev pub list_leaves : SelectList → List Placed
list_leaves =
    fold-SelectList (List Placed) (List Placed) (List Placed) (List Placed) (List Placed) expr_layer list_layer
    block_layer item_layer operand_layer

abbrev pub block_leaves : Block → List Placed
block_leaves =
    fold-Block (List Placed) (List Placed) (List Placed) (List Placed) (List Placed) expr_layer list_layer block_layer
    item_layer operand_layer

abbrev pub item_leaves : Item → List Placed
item_leaves =
    fold-Item (List Placed) (List Placed) (List Placed) (List Placed) (List Placed) expr_layer list_layer block_layer
    item_layer operand_layer

abbrev pub operand_leaves : Operand → List Placed
operand_leaves =
    fold-Operand (List Placed) (List Placed) (List Placed) (List Placed) (List Placed) expr_layer list_layer block_layer
    item_layer operand_layer

-- leaves are those of all tokens from a place on, but of as many lists as are noted from there to another place
pub record StandsToEnd (p q : Place) (leaves : List Placed) : Type 0 where
  pub lists : ℕ
  pub noted : p.long_lists + lists ≤ q.long_lists
  pub stand : Stand lists (left_at p) leaves []

-- ---- statements

abbrev pub key_name_leaves : KeyName → List Placed
key_name_leaves (k.Name n) = name_leaves n
key_name_leaves (k.Position n) = count_leaves n

abbrev pub key_leaves : Key → List Placed
key_leaves x = key_name_leaves x.name

abbrev pub select_leaves : Select → List Placed
select_leaves q = block_leaves q.block ++ all key_leaves q.order.items

-- the numbers of a type have no leaf
abbrev pub definition_leaves : ColumnDefinition → List Placed
definition_leaves d = name_leaves d.name

abbrev pub bound_leaves : Bound → List Placed
bound_leaves b = numeral_leaves b.number

abbrev pub range_leaves : Range → List Placed
range_leaves r = bound_leaves r.low ++ bound_leaves r.high

abbrev pub statistics_leaves : IndexStatistics → List Placed
statistics_leaves f = (count_leaves f.keys ++ count_leaves f.pages) ++ if_there range_leaves f.range

abbrev pub statement_leaves : Statement → List Placed
statement_leaves (s.CreateTable name columns) = name_leaves name ++ all definition_leaves columns.items
statement_leaves (s.CreateIndex unique table columns) = name_leaves table ++ all name_leaves columns.items
statement_leaves (s.Load table file) = name_leaves table ++ string_leaves file
statement_leaves (s.SetTableStatistics table rows pages) = (name_leaves table ++ count_leaves rows)
    ++ count_leaves pages
statement_leaves (s.SetIndexStatistics table columns statistics) = (name_leaves table ++ all name_leaves columns.items)
    ++ statistics_leaves statistics
statement_leaves (s.Query q) = select_leaves q
statement_leaves (s.Explain q) = select_leaves q
