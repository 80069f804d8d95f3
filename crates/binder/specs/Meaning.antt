-- What is bound so far, and what is answered where a part is bound or refused.
use Rattle.std.specs.Prelude.{ℕ, List, Option, Result, Ok, Err, map, option_map, IfSome}
use Rattle.std.specs.Global.{Vec, Box}
use Rattle.std.specs.Prelude.{◌≡◌, Bool}
use Rattle.definitions.specs.Binding.Faults.{is_logical}
use Rattle.definitions.specs.Grammar.{operands}
use Rattle.parse_tree.specs.Trees.{operand_of}
use Rattle.parse_tree.specs.declared.expr.Expr.{Expr as Expr'}
use Rattle.parse_tree.specs.declared.expr.Block.{Block as Query}
use Rattle.parse_tree.specs.declared.expr.Operand.{Operand}
use Rattle.parse_tree.specs.declared.leaf.Quantifier.{Quantifier}
use Rattle.sqlvalue.specs.declared.op.ComparisonOperator.{ComparisonOperator}
use Rattle.parse_tree.specs.declared.expr.Expr.TheViews as v
use Rattle.definitions.specs.Statement as t
use Rattle.definitions.specs.Statement.{Expr, Members}
use Rattle.definitions.specs.Table.{Database}
use Rattle.definitions.specs.Binding.Scopes.{Scopes}
use Rattle.definitions.specs.Queries.BoundBlock.{Blocks}
use Rattle.query_tree.specs.Bound.{block_of, bound_function_of, condition_of, member_of, value_of, value_type_of}
use Rattle.query_tree.specs.declared.block.Block.{Block}
use Rattle.query_tree.specs.declared.block.Aggregate.{Aggregate}
use Rattle.query_tree.specs.declared.condition.Condition.{Condition}
use Rattle.query_tree.specs.declared.value.ValueExpr.{ValueExpr}
use Rattle.query_tree.specs.declared.leaf.ValueType.{ValueType}
use Rattle.query_rules.specs.declared.fault.BindFault.{BindFault}
use Rattle.query_rules.specs.declared.clause.Clause.{Clause}
use Rattle.query_rules.specs.declared.leaf.Typed.{Typed}
use Rattle.query_rules.specs.Judging as j
use Rattle.query_rules.specs.Meaning.{bind_refusal, place_of}

abbrev pub progress_of : List Block → List Aggregate → j.Progress
progress_of blocks functions = record { blocks = map block_of blocks; functions = map bound_function_of functions }

-- what is answered where a value or a condition is bound in a clause, a subquery, or one of one column
abbrev pub ValueAnswer : Clause → (old new : j.Progress) → Expr → Result Typed BindFault → Type 0
ValueAnswer c old new e (Ok t) =
    j.BindsValue c.database.now c.scopes.now (place_of c.place) old new e (value_of t.value)
    (value_type_of t.value_type)
ValueAnswer c old new e (Err f) =
    IfSome (bind_refusal f) (j.RefusesValue c.database.now c.scopes.now (place_of c.place) old e)

abbrev pub ConditionAnswer : Clause → (old new : j.Progress) → Expr → Result Condition BindFault → Type 0
ConditionAnswer c old new e (Ok t) =
    j.BindsCondition c.database.now c.scopes.now (place_of c.place) old new e (condition_of t)
ConditionAnswer c old new e (Err f) =
    IfSome (bind_refusal f) (j.RefusesCondition c.database.now c.scopes.now (place_of c.place) old e)

abbrev pub MembersAnswer : Clause → (old new : j.Progress) → ValueType → Members
    → Result (Vec (Option ValueExpr)) BindFault → Type 0
MembersAnswer c old new type ms (Ok xs) =
    j.BindsMembers c.database.now c.scopes.now (place_of c.place) old new (value_type_of type) ms
    (map member_of xs.items)
MembersAnswer c old new type ms (Err f) =
    IfSome (bind_refusal f)
    (j.RefusesMembers c.database.now c.scopes.now (place_of c.place) old (value_type_of type) ms)

abbrev pub QueryAnswer : Clause → (old new : j.Progress) → t.QuerySpecification
    → Result (ℕ × Option ValueType) BindFault → Type 0
QueryAnswer c old new query (Ok x) =
    j.BindsQuery c.database.now c.scopes.now (place_of c.place) old new query x.0 (option_map value_type_of x.1)
QueryAnswer c old new query (Err f) =
    IfSome (bind_refusal f) (j.RefusesQuery c.database.now c.scopes.now (place_of c.place) old query)

abbrev pub ColumnAnswer : Clause → (old new : j.Progress) → t.QuerySpecification → Result (ℕ × ValueType) BindFault
    → Type 0
ColumnAnswer c old new query (Ok x) =
    j.BindsColumn c.database.now c.scopes.now (place_of c.place) old new query x.0 (value_type_of x.1)
ColumnAnswer c old new query (Err f) =
    IfSome (bind_refusal f) (j.RefusesColumn c.database.now c.scopes.now (place_of c.place) old query)

abbrev pub BlockAnswer : Database → Scopes → (old new : Blocks) → t.QuerySpecification
    → Result (Option ValueType) BindFault → Type 0
BlockAnswer db outer old new query (Ok only) = j.BindsBlock db outer old new query (option_map value_type_of only)
BlockAnswer db outer old new query (Err f) = IfSome (bind_refusal f) (j.RefusesBlock db outer old query)

-- a line of operands, under AND or OR or not; an IN list
abbrev pub IsLine : Expr' → Bool → Type 0
IsLine e logical = (first : Box Expr') × (others : Vec Operand) × (e ≡ v.Line first others)
    × (is_logical (operands (map operand_of others.items)) ≡ logical)

abbrev pub IsList : Expr' → Type 0
IsList e = (start : ℕ) × (negated : Bool) × (value : Box Expr') × (ms : Vec (Option Expr'))
    × (e ≡ v.InList start negated value ms)

-- a comparison of two values, or with all or any rows of a subquery; BETWEEN; IN with a subquery
abbrev pub IsComparison : Expr' → Type 0
IsComparison e = (start : ℕ) × (op : ComparisonOperator) × (left : Box Expr') × (right : Box Expr')
    × (e ≡ v.Compare start op left right)

abbrev pub IsBetween : Expr' → Type 0
IsBetween e = (start : ℕ) × (negated : Bool) × (value : Box Expr') × (low : Box Expr') × (high : Box Expr')
    × (e ≡ v.Between start negated value low high)

abbrev pub IsQuantified : Expr' → Type 0
IsQuantified e = (start : ℕ) × (op : ComparisonOperator) × (quantifier : Quantifier) × (left : Box Expr')
    × (query : Box Query) × (e ≡ v.CompareAll start op quantifier left query)

abbrev pub IsInQuery : Expr' → Type 0
IsInQuery e = (start : ℕ) × (negated : Bool) × (value : Box Expr') × (query : Box Query)
    × (e ≡ v.InQuery start negated value query)

-- the members of an IN list, of which other expressions have none
abbrev pub members_in : Expr → Members
members_in (t.InList negated e ms) = ms
members_in _ = t.NoMember
