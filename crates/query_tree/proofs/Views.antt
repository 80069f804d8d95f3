-- What the values and conditions of this crate stand for, variant by variant.
use Rattle.std.proofs.Common.{◌≡◌, ◌∙◌, sym, ap, map}
use Rattle.std.specs.Prelude.{string_bytes}
use Rattle.definitions.specs.Queries.BoundBlock as spec
use Rattle.sqlvalue.specs.Meaning.{op_of, type_of}
use Rattle.parse_tree.specs.Trees.{quantifier_of}
use Rattle.query_tree.specs.Bound.{OperandTree, operands, conditions, value_of, operand_of, member_of, condition_of, column_of, literal_of, operator_of, value_type_of, value_layer, operand_layer, condition_layer}
use Rattle.query_tree.specs.declared.value.ValueExpr.{ValueExpr}
use Rattle.query_tree.specs.declared.value.ValueExpr as e
use Rattle.query_tree.specs.declared.value.ValueExpr.TheViews as v
use Rattle.query_tree.specs.declared.value.ValueExpr.TheVariants as w
use Rattle.query_tree.specs.declared.value.ValueExpr.TheOpen as o
use Rattle.query_tree.specs.declared.value.ValueExpr.TheFolds as folds
use Rattle.query_tree.specs.declared.value.Operand.{Operand}
use Rattle.query_tree.specs.declared.condition.Condition.{Condition}
use Rattle.query_tree.specs.declared.condition.Condition as c
use Rattle.query_tree.specs.declared.condition.Condition.TheViews as cv
use Rattle.query_tree.specs.declared.condition.Condition.TheVariants as cw
use Rattle.query_tree.specs.declared.condition.Condition.TheOpen as co
use Rattle.query_tree.specs.declared.condition.Condition.TheFolds as cfolds

-- ---- values

pub of_column : (c t : _) → value_of (e.Column c t) ≡ spec.Column (column_of c) (type_of t)
of_column c t = ap value_of (sym (w.rolls-Column c t)) ∙ folds.fold-roll-ValueExpr spec.ValueExpr OperandTree value_layer operand_layer (o.Column c t)

pub of_parameter : (b c t : _) → value_of (e.Parameter b c t) ≡ spec.Parameter b (column_of c) (type_of t)
of_parameter b c t = ap value_of (sym (w.rolls-Parameter b c t)) ∙ folds.fold-roll-ValueExpr spec.ValueExpr OperandTree value_layer operand_layer (o.Parameter b c t)

pub of_number : (n : _) → value_of (e.Number n) ≡ literal_of n
of_number n = ap value_of (sym (w.rolls-Number n)) ∙ folds.fold-roll-ValueExpr spec.ValueExpr OperandTree value_layer operand_layer (o.Number n)

pub of_text : (t : _) → value_of (e.Text t) ≡ spec.String (string_bytes t)
of_text t = ap value_of (sym (w.rolls-Text t)) ∙ folds.fold-roll-ValueExpr spec.ValueExpr OperandTree value_layer operand_layer (o.Text t)

pub of_signed : (m a : _) → value_of (v.Signed m a) ≡ spec.Signed m (value_of a.value)
of_signed m a = ap value_of (sym (w.rolls-Signed m a)) ∙ folds.fold-roll-ValueExpr spec.ValueExpr OperandTree value_layer operand_layer (o.Signed m a)

pub of_chain : (a xs : _) → value_of (v.Chain a xs) ≡ spec.Chain (value_of a.value) (operands (map operand_of xs.items))
of_chain a xs = ap value_of (sym (w.rolls-Chain a xs)) ∙ folds.fold-roll-ValueExpr spec.ValueExpr OperandTree value_layer operand_layer (o.Chain a xs)

pub of_set_value : (n t : _) → value_of (e.AggregateValue n t) ≡ spec.AggregateValue n (value_type_of t)
of_set_value n t = ap value_of (sym (w.rolls-AggregateValue n t)) ∙ folds.fold-roll-ValueExpr spec.ValueExpr OperandTree value_layer operand_layer (o.AggregateValue n t)

pub of_subquery : (b t s : _) → value_of (e.Subquery b t s) ≡ spec.Subquery b (value_type_of t)
of_subquery b t s = ap value_of (sym (w.rolls-Subquery b t s)) ∙ folds.fold-roll-ValueExpr spec.ValueExpr OperandTree value_layer operand_layer (o.Subquery b t s)

pub of_operand : (x : Operand) → operand_of x ≡ (operator_of x.operator, value_of x.value)
of_operand x = folds.fold_out-Operand spec.ValueExpr OperandTree value_layer operand_layer x ∙ ap (λ z. operand_layer (folds.map-Operand _ _ _ _ value_of operand_of z)) (v.outs-struct-Operand x)

-- ---- conditions

pub of_compare : (o a b : _) → condition_of (c.Compare o a b) ≡ spec.Compare (op_of o) (value_of a) (value_of b)
of_compare o a b = ap condition_of (sym (cw.rolls-Compare o a b)) ∙ cfolds.fold-roll-Condition spec.Condition condition_layer (co.Compare o a b)

pub of_quantified : (o q a b : _) → condition_of (c.Quantified o q a b) ≡ spec.Quantified (op_of o) (quantifier_of q) (value_of a) b
of_quantified o q a b = ap condition_of (sym (cw.rolls-Quantified o q a b)) ∙ cfolds.fold-roll-Condition spec.Condition condition_layer (co.Quantified o q a b)

pub of_is_null : (n a : _) → condition_of (c.IsNull n a) ≡ spec.IsNull n (value_of a)
of_is_null n a = ap condition_of (sym (cw.rolls-IsNull n a)) ∙ cfolds.fold-roll-Condition spec.Condition condition_layer (co.IsNull n a)

pub of_between : (n a l h : _) → condition_of (c.Between n a l h) ≡ spec.Between n (value_of a) (value_of l) (value_of h)
of_between n a l h = ap condition_of (sym (cw.rolls-Between n a l h)) ∙ cfolds.fold-roll-Condition spec.Condition condition_layer (co.Between n a l h)

pub of_like : (n a p : _) → condition_of (c.Like n a p) ≡ spec.Like n (value_of a) (string_bytes p)
of_like n a p = ap condition_of (sym (cw.rolls-Like n a p)) ∙ cfolds.fold-roll-Condition spec.Condition condition_layer (co.Like n a p)

pub of_in_list : (n a xs : _) → condition_of (c.InList n a xs) ≡ spec.InList n (value_of a) (map member_of xs.items)
of_in_list n a xs = ap condition_of (sym (cw.rolls-InList n a xs)) ∙ cfolds.fold-roll-Condition spec.Condition condition_layer (co.InList n a xs)

pub of_in_query : (n a b : _) → condition_of (c.InQuery n a b) ≡ spec.InQuery n (value_of a) b
of_in_query n a b = ap condition_of (sym (cw.rolls-InQuery n a b)) ∙ cfolds.fold-roll-Condition spec.Condition condition_layer (co.InQuery n a b)

pub of_exists : (b : _) → condition_of (c.Exists b) ≡ spec.Exists b
of_exists b = ap condition_of (sym (cw.rolls-Exists b)) ∙ cfolds.fold-roll-Condition spec.Condition condition_layer (co.Exists b)

pub of_not : (a : _) → condition_of (cv.Not a) ≡ spec.Not (condition_of a.value)
of_not a = ap condition_of (sym (cw.rolls-Not a)) ∙ cfolds.fold-roll-Condition spec.Condition condition_layer (co.Not a)

pub of_and : (xs : _) → condition_of (cv.And xs) ≡ spec.And (conditions (map condition_of xs.items))
of_and xs = ap condition_of (sym (cw.rolls-And xs)) ∙ cfolds.fold-roll-Condition spec.Condition condition_layer (co.And xs)

pub of_or : (xs : _) → condition_of (cv.Or xs) ≡ spec.Or (conditions (map condition_of xs.items))
of_or xs = ap condition_of (sym (cw.rolls-Or xs)) ∙ cfolds.fold-roll-Condition spec.Condition condition_layer (co.Or xs)
