-- What the blocks of this crate stand for.
use Rattle.std.specs.Prelude.{List, [], ◌∷◌, Option, map, string_bytes, option_map}
use Rattle.definitions.specs.ValueType as v
use Rattle.definitions.specs.Plans.Order as o
use Rattle.definitions.specs.Queries.BoundBlock as spec
use Rattle.sqlvalue.specs.Meaning.{op_of, type_of}
use Rattle.parse_tree.specs.Trees.{quantifier_of, function_of}
use Rattle.query_tree.specs.declared.leaf.BlockColumn.{BlockColumn}
use Rattle.query_tree.specs.declared.leaf.Operator.{Operator}
use Rattle.query_tree.specs.declared.leaf.Operator.TheVariants as p
use Rattle.query_tree.specs.declared.leaf.ValueType.{ValueType}
use Rattle.query_tree.specs.declared.leaf.ValueType.TheVariants as t
use Rattle.query_tree.specs.declared.leaf.NumberLiteral.{NumberLiteral}
use Rattle.query_tree.specs.declared.value.ValueExpr.{ValueExpr}
use Rattle.query_tree.specs.declared.value.ValueExpr.TheOpen.{ValueExpr-F, Operand-F}
use Rattle.query_tree.specs.declared.value.ValueExpr.TheOpen as e
use Rattle.query_tree.specs.declared.value.ValueExpr.TheFolds.{fold-ValueExpr, fold-Operand}
use Rattle.query_tree.specs.declared.value.Operand.{Operand}
use Rattle.query_tree.specs.declared.condition.Condition.{Condition}
use Rattle.query_tree.specs.declared.condition.Condition.TheOpen.{Condition-F}
use Rattle.query_tree.specs.declared.condition.Condition.TheOpen as c
use Rattle.query_tree.specs.declared.condition.Condition.TheFolds.{fold-Condition}
use Rattle.query_tree.specs.declared.block.Aggregate.{Aggregate}
use Rattle.query_tree.specs.declared.block.Aggregate.TheVariants as f
use Rattle.query_tree.specs.declared.block.Item.{Item}
use Rattle.query_tree.specs.declared.block.Key.{Key}
use Rattle.query_tree.specs.declared.block.Block.{Block}

abbrev pub column_of : BlockColumn → o.BlockColumn
column_of c = record { table = c.table; number = c.number }

abbrev pub operator_of : Operator → spec.Operator
operator_of p.Plus = spec.Plus
operator_of p.Minus = spec.Minus
operator_of p.Times = spec.Times
operator_of p.Over = spec.Over

abbrev pub value_type_of : ValueType → v.ValueType
value_type_of (t.Number scale) = v.NumberType scale
value_type_of t.Text = v.TextType

abbrev pub literal_of : NumberLiteral → spec.ValueExpr
literal_of n = spec.Numeral n.units n.digits n.scale

-- ---- values: one layer, the values of its parts in their place

abbrev pub OperandTree : Type 0
OperandTree = spec.Operator × spec.ValueExpr

abbrev pub operands : List OperandTree → spec.Operands
operands [] = spec.NoOperand
operands (x ∷ xs) = spec.Operand x.0 x.1 (operands xs)

abbrev pub value_layer : ValueExpr-F spec.ValueExpr OperandTree → spec.ValueExpr
value_layer (e.Column c type) = spec.Column (column_of c) (type_of type)
value_layer (e.Parameter between c type) = spec.Parameter between (column_of c) (type_of type)
value_layer (e.Number n) = literal_of n
value_layer (e.Text t) = spec.String (string_bytes t)
value_layer (e.Signed minus a) = spec.Signed minus a.value
value_layer (e.Chain first others) = spec.Chain first.value (operands others.items)
value_layer (e.AggregateValue number type) = spec.AggregateValue number (value_type_of type)
value_layer (e.Subquery block type start) = spec.Subquery block (value_type_of type)

abbrev pub operand_layer : Operand-F spec.ValueExpr OperandTree → OperandTree
operand_layer x = (operator_of x.operator, x.value)

abbrev pub value_of : ValueExpr → spec.ValueExpr
value_of = fold-ValueExpr spec.ValueExpr OperandTree value_layer operand_layer

abbrev pub operand_of : Operand → OperandTree
operand_of = fold-Operand spec.ValueExpr OperandTree value_layer operand_layer

abbrev pub member_of : Option ValueExpr → Option spec.ValueExpr
member_of = option_map value_of

-- ---- conditions

abbrev pub conditions : List spec.Condition → spec.Conditions
conditions [] = spec.NoPart
conditions (c ∷ cs) = spec.Part c (conditions cs)

abbrev pub condition_layer : Condition-F spec.Condition → spec.Condition
condition_layer (c.Compare op a b) = spec.Compare (op_of op) (value_of a) (value_of b)
condition_layer (c.Quantified op quantifier a block) =
    spec.Quantified (op_of op) (quantifier_of quantifier) (value_of a) block
condition_layer (c.IsNull negated a) = spec.IsNull negated (value_of a)
condition_layer (c.Between negated a low high) = spec.Between negated (value_of a) (value_of low) (value_of high)
condition_layer (c.Like negated a pattern) = spec.Like negated (value_of a) (string_bytes pattern)
condition_layer (c.InList negated a members) = spec.InList negated (value_of a) (map member_of members.items)
condition_layer (c.InQuery negated a block) = spec.InQuery negated (value_of a) block
condition_layer (c.Exists block) = spec.Exists block
condition_layer (c.Not a) = spec.Not a.value
condition_layer (c.And cs) = spec.And (conditions cs.items)
condition_layer (c.Or cs) = spec.Or (conditions cs.items)

abbrev pub condition_of : Condition → spec.Condition
condition_of = fold-Condition spec.Condition condition_layer

-- ---- blocks

abbrev pub bound_function_of : Aggregate → spec.Aggregate
bound_function_of f.CountRows = spec.CountRows
bound_function_of (f.OfValues function distinct start argument) =
    spec.OfValues (function_of function) distinct (value_of argument)

abbrev pub item_of : Item → spec.Item
item_of i = record { name = string_bytes i.name; value = value_of i.value }

abbrev pub key_of : Key → spec.OrderKey
key_of k = record { item = k.item; descending = k.descending }

abbrev pub block_of : Block → spec.Block
block_of b = record {
  tables = b.tables.items;
  distinct = b.distinct;
  items = map item_of b.items.items;
  condition = option_map condition_of b.condition;
  groups = map column_of b.groups.items;
  having = option_map condition_of b.having;
  functions = map bound_function_of b.functions.items;
  order = map key_of b.order.items;
}
