-- What is answered where something is refused.
use Rattle.std.proofs.Common.{◌≡◌, ◌∙◌, refl, sym, ap, subst, inl, ℕ, ◌+◌, ◌<◌, ◌≤◌, ◌++◌, get_or, drop, List, [], ◌∷◌, length, map, Option, Some, None, Result, Ok, Err, arith}
use Rattle.std.specs.Prelude.{IfSome, IfOk, IfErr}
use Rattle.std.specs.Result.{IsErr, IsErrAnd}
use Rattle.definitions.specs.Refusal.{Refusal}
use Rattle.std.proofs.lemmas.List.{drop_more, drop_all}
use Rattle.definitions.specs.Grammar.{operands}
use Rattle.definitions.specs.Limits.{most_blocks}
use Rattle.definitions.specs.Statement as spec
use Rattle.parse_tree.specs.Trees.{operand_of, operator_of, expr_of}
use Rattle.parse_tree.specs.declared.expr.Operand.{Operand}
use Rattle.parse_tree.proofs.Views.{of_operand}
use Rattle.query_tree.specs.Bound.{operand_of as bound_operand_of, operator_of as bound_operator_of}
use Rattle.query_tree.specs.declared.value.Operand.{Operand as BoundOperand}
use Rattle.query_tree.proofs.Views.{of_operand as bound_operand}
use Rattle.definitions.specs.Statement.{Expr, ColumnReference, Column, Numeral}
use Rattle.definitions.specs.Table.{Database}
use Rattle.definitions.specs.Binding.Scopes.{Scopes}
use Rattle.query_tree.specs.Bound.{block_of, bound_function_of, value_of, value_type_of}
use Rattle.query_tree.specs.declared.block.Block.{Block}
use Rattle.query_tree.specs.declared.block.Aggregate.{Aggregate}
use Rattle.query_rules.specs.declared.fault.QueryFault.{QueryFault}
use Rattle.query_rules.specs.declared.fault.BindFault.{BindFault}
use Rattle.query_rules.specs.declared.fault.BindFault.TheVariants as f
use Rattle.query_rules.specs.declared.clause.Clause.{Clause}
use Rattle.query_rules.specs.declared.leaf.Typed.{Typed}
use Rattle.query_rules.specs.Judging.{ClauseKind, PartFaulty, Progress, RefusesValue, RefusesCondition, RefusesMembers, RefusesQuery, RefusesColumn}
use Rattle.query_rules.specs.Leaves.{BindsLeaf}
use Rattle.query_rules.specs.Meaning.{bind_refusal, query_refusal, place_of}
use Rattle.binder.specs.Meaning.{ValueAnswer, ConditionAnswer, MembersAnswer, QueryAnswer, ColumnAnswer}
use Rattle.std.specs.Global.{Vec, Box}
use Rattle.std.specs.Prelude.{Bool, true, false}
use Rattle.definitions.specs.ValueType.{TextType}
use Rattle.definitions.specs.Binding.BoundForm.{connected}
use Rattle.definitions.specs.Queries.BoundBlock as b
use Rattle.parse_tree.specs.declared.leaf.LineOperator.{LineOperator}
use Rattle.parse_tree.specs.declared.leaf.LineOperator.TheVariants as o
use Rattle.parse_tree.specs.declared.expr.Expr.TheViews as v
use Rattle.parse_tree.proofs.Views.{of_line}
use Rattle.query_tree.specs.declared.leaf.ValueType.TheVariants as bt
use Rattle.binder.specs.Meaning.{IsLine}
use Rattle.definitions.specs.Grammar.{member_list}
use Rattle.definitions.specs.Statement.{Members}
use Rattle.definitions.specs.Binding.Faults.{member_count, is_logical}
use Rattle.parse_tree.specs.Trees.{member_of as tree_member_of}
use Rattle.parse_tree.specs.declared.expr.Expr.{Expr as TreeExpr}
use Rattle.query_tree.specs.Bound.{condition_of, member_of, value_type_of}
use Rattle.query_tree.specs.declared.condition.Condition.{Condition}
use Rattle.query_tree.specs.declared.value.ValueExpr.{ValueExpr as BoundValue}
use Rattle.query_tree.specs.declared.leaf.ValueType.{ValueType as BoundType}
use Rattle.query_rules.proofs.Refused.{if_some}
use Rattle.binder.proofs.Bundles.{fault_here}
use Rattle.binder.proofs.Nodes.{binds_column}

pub is_refused : {X : Type 0} (result : Result X BindFault) (q : QueryFault) → IsErr result × IsErrAnd result (λ e. e ≡ f.Refused q) → result ≡ Err (f.Refused q)
is_refused (Err e) q h = ap Err h.1
is_refused (Ok x) q h = absurd cc

-- a fault that a question mark passes on
pub is_passed : {X : Type 0} {fault : BindFault} (result : Result X BindFault) → IsErrAnd result (λ e. e ≡ fault) → result ≡ Err fault
is_passed (Err e) h = ap Err h
is_passed (Ok x) h = absurd h

pub value_err : (c : Clause) (old new : Progress) (e : Expr) (result : Result Typed BindFault) (fault : BindFault) → result ≡ Err fault → IfSome (bind_refusal fault) (RefusesValue c.database.now c.scopes.now (place_of c.place) old e) → ValueAnswer c old new e result
value_err c old new e result fault is h = subst (ValueAnswer c old new e) (sym is) h

pub value_refused : (c : Clause) (old new : Progress) (e : Expr) (result : Result Typed BindFault) (q : QueryFault) (r : Refusal) → result ≡ Err (f.Refused q) → query_refusal q ≡ r → RefusesValue c.database.now c.scopes.now (place_of c.place) old e r → ValueAnswer c old new e result
value_refused c old new e result q r is same h = value_err c old new e result (f.Refused q) is (subst (RefusesValue c.database.now c.scopes.now (place_of c.place) old e) (sym same) h)

-- as many blocks, whatever they stand for
few_of : (blocks : List Block) → length blocks ≤ most_blocks → length (map block_of blocks) ≤ most_blocks
few_of blocks h = rw (same_length blocks) h
  where
    same_length : (xs : List Block) → length (map block_of xs) ≡ length xs
    same_length [] = refl
    same_length (x ∷ xs) = let h = same_length xs in omega (arith, h)

pub few_blocks : (blocks : List Block) → length blocks ≤ most_blocks → length (map block_of blocks) ≤ most_blocks
few_blocks = few_of

pub few_items : (blocks : List Block) → length (map block_of blocks) ≤ most_blocks → length blocks ≤ most_blocks
few_items blocks h = rw (← same_length blocks) h
  where
    same_length : (xs : List Block) → length (map block_of xs) ≡ length xs
    same_length [] = refl
    same_length (x ∷ xs) = let h = same_length xs in omega (arith, h)

pub column_refused : (db : Database) (scopes : Scopes) (place : ClauseKind) (s : Progress) (reference : ColumnReference) (r : Refusal) → PartFaulty db scopes place (Column reference) r → RefusesValue db scopes place s (Column reference) r
column_refused db scopes place s reference r h = inl (fault_here db scopes place (length s.blocks) (Column reference) [] [] r h)

pub numeral_refused : (db : Database) (scopes : Scopes) (place : ClauseKind) (s : Progress) (units digits scale : ℕ) (r : Refusal) → PartFaulty db scopes place (Numeral units digits scale) r → RefusesValue db scopes place s (Numeral units digits scale) r
numeral_refused db scopes place s units digits scale r h = inl (fault_here db scopes place (length s.blocks) (Numeral units digits scale) [] [] r h)

pub column_answer : (c : Clause) (s : Progress) (reference : ColumnReference) (result : Result Typed BindFault) → length s.blocks ≤ most_blocks
    → IfOk result (λ t. BindsLeaf c.database.now c.scopes.now (place_of c.place) (Column reference) (value_of t.value) (value_type_of t.value_type))
    → IfErr result (λ fault. IfSome (bind_refusal fault) (PartFaulty c.database.now c.scopes.now (place_of c.place) (Column reference))) → ValueAnswer c s s (Column reference) result
column_answer c s reference (Ok t) few h k = binds_column c.database.now c.scopes.now (place_of c.place) s reference (value_of t.value) (value_type_of t.value_type) few h
column_answer c s reference (Err fault) few h k = if_some (bind_refusal fault) _ _ (column_refused c.database.now c.scopes.now (place_of c.place) s reference) k

-- ---- the operands of a line, one after another

pub next_tree : (others : List Operand) (i : ℕ) (x : Operand) → i < length others → x ≡ get_or others i x → operands (map operand_of (drop i others)) ≡ spec.Operand (operator_of x.operator) (expr_of x.value) (operands (map operand_of (drop (i + 1) others)))
next_tree others i x h e =
    ap (λ xs. operands (map operand_of xs)) (drop_more others i x h ∙ ap (λ y. y ∷ drop (i + 1) others) (sym e))
    ∙ ap (λ (y : spec.LineOperator × spec.Expr). spec.Operand y.0 y.1 (operands (map operand_of (drop (i + 1) others)))) (of_operand x)

pub no_tree : (others : List Operand) (i : ℕ) → length others ≤ i → operands (map operand_of (drop i others)) ≡ spec.NoOperand
no_tree others i h = ap (λ xs. operands (map operand_of xs)) (drop_all i others h)

pub pushed_operand : (xs : List BoundOperand) (x : BoundOperand) → map bound_operand_of (xs ++ x ∷ []) ≡ map bound_operand_of xs ++ (bound_operator_of x.operator, value_of x.value) ∷ []
pushed_operand [] x = ap (λ y. y ∷ []) (bound_operand x)
pushed_operand (y ∷ xs) x = ap (λ ys. bound_operand_of y ∷ ys) (pushed_operand xs x)

-- ---- one more set function

pub pushed_function : (xs : List Aggregate) (x : Aggregate) → map bound_function_of (xs ++ x ∷ []) ≡ map bound_function_of xs ++ bound_function_of x ∷ []
pushed_function [] x = refl
pushed_function (y ∷ xs) x = ap (λ ys. bound_function_of y ∷ ys) (pushed_function xs x)

pub as_many_functions : (xs : List Aggregate) → length (map bound_function_of xs) ≡ length xs
as_many_functions [] = refl
as_many_functions (x ∷ xs) = let h = as_many_functions xs in omega (arith, h)

-- ---- what else is answered where something is refused

pub condition_err : (c : Clause) (old new : Progress) (e : Expr) (result : Result Condition BindFault) (fault : BindFault) → result ≡ Err fault → IfSome (bind_refusal fault) (RefusesCondition c.database.now c.scopes.now (place_of c.place) old e)
    → ConditionAnswer c old new e result
condition_err c old new e result fault is h = subst (ConditionAnswer c old new e) (sym is) h

pub condition_refused : (c : Clause) (old new : Progress) (e : Expr) (result : Result Condition BindFault) (q : QueryFault) (r : Refusal) → result ≡ Err (f.Refused q) → query_refusal q ≡ r
    → RefusesCondition c.database.now c.scopes.now (place_of c.place) old e r → ConditionAnswer c old new e result
condition_refused c old new e result q r is same h = condition_err c old new e result (f.Refused q) is (subst (RefusesCondition c.database.now c.scopes.now (place_of c.place) old e) (sym same) h)

pub members_err : (c : Clause) (old new : Progress) (type : BoundType) (ms : Members) (result : Result (Vec (Option BoundValue)) BindFault) (fault : BindFault) → result ≡ Err fault
    → IfSome (bind_refusal fault) (RefusesMembers c.database.now c.scopes.now (place_of c.place) old (value_type_of type) ms) → MembersAnswer c old new type ms result
members_err c old new type ms result fault is h = subst (MembersAnswer c old new type ms) (sym is) h

pub members_refused : (c : Clause) (old new : Progress) (type : BoundType) (ms : Members) (result : Result (Vec (Option BoundValue)) BindFault) (q : QueryFault) (r : Refusal) → result ≡ Err (f.Refused q) → query_refusal q ≡ r
    → RefusesMembers c.database.now c.scopes.now (place_of c.place) old (value_type_of type) ms r → MembersAnswer c old new type ms result
members_refused c old new type ms result q r is same h = members_err c old new type ms result (f.Refused q) is (subst (RefusesMembers c.database.now c.scopes.now (place_of c.place) old (value_type_of type) ms) (sym same) h)

pub column_err : (c : Clause) (old new : Progress) (query : spec.QuerySpecification) (result : Result (ℕ × BoundType) BindFault) (fault : BindFault) → result ≡ Err fault → IfSome (bind_refusal fault) (RefusesColumn c.database.now c.scopes.now (place_of c.place) old query)
    → ColumnAnswer c old new query result
column_err c old new query result fault is h = subst (ColumnAnswer c old new query) (sym is) h

pub query_err : (c : Clause) (old new : Progress) (query : spec.QuerySpecification) (result : Result (ℕ × Option BoundType) BindFault) (fault : BindFault) → result ≡ Err fault → IfSome (bind_refusal fault) (RefusesQuery c.database.now c.scopes.now (place_of c.place) old query)
    → QueryAnswer c old new query result
query_err c old new query result fault is h = subst (QueryAnswer c old new query) (sym is) h

-- ---- the members of a list, one after another

pub next_member_tree : (list : List (Option TreeExpr)) (i : ℕ) (x : Option TreeExpr) → i < length list → x ≡ get_or list i x → member_list (map tree_member_of (drop i list)) ≡ member_list (tree_member_of x ∷ map tree_member_of (drop (i + 1) list))
next_member_tree list i x h e = ap (λ xs. member_list (map tree_member_of xs)) (drop_more list i x h ∙ ap (λ y. y ∷ drop (i + 1) list) (sym e))

pub no_member_tree : (list : List (Option TreeExpr)) (i : ℕ) → length list ≤ i → member_list (map tree_member_of (drop i list)) ≡ spec.NoMember
no_member_tree list i h = ap (λ xs. member_list (map tree_member_of xs)) (drop_all i list h)

pub pushed_member : (xs : List (Option BoundValue)) (x : Option BoundValue) → map member_of (xs ++ x ∷ []) ≡ map member_of xs ++ member_of x ∷ []
pushed_member [] x = refl
pushed_member (y ∷ xs) x = ap (λ ys. member_of y ∷ ys) (pushed_member xs x)

pub pushed_condition : (xs : List Condition) (x : Condition) → map condition_of (xs ++ x ∷ []) ≡ map condition_of xs ++ condition_of x ∷ []
pushed_condition [] x = refl
pushed_condition (y ∷ xs) x = ap (λ ys. condition_of y ∷ ys) (pushed_condition xs x)

pub as_many_members : (list : List (Option TreeExpr)) → member_count (member_list (map tree_member_of list)) ≡ length list
as_many_members [] = refl
as_many_members (None ∷ xs) = let h = as_many_members xs in omega (arith, h)
as_many_members (Some x ∷ xs) = let h = as_many_members xs in omega (arith, h)

-- ---- AND or OR, by the first operator

pub first_operator : (others : List Operand) (x : Operand) → x ≡ get_or others 0 x → 0 < length others → operands (map operand_of others) ≡ spec.Operand (operator_of x.operator) (expr_of x.value) (operands (map operand_of (drop 1 others)))
first_operator others x e h = next_tree others 0 x h e

pub connected_and : (others : List Operand) (x : Operand) (parts : b.Conditions) → x ≡ get_or others 0 x → 0 < length others → x.operator ≡ o.And → connected (operands (map operand_of others)) parts ≡ b.And parts
connected_and others x parts e h k =
    ap (λ os. connected os parts) (first_operator others x e h)
    ∙ ap (λ op. connected (spec.Operand (operator_of op) (expr_of x.value) (operands (map operand_of (drop 1 others)))) parts) k

pub connected_or : (others : List Operand) (x : Operand) (parts : b.Conditions) → x ≡ get_or others 0 x → 0 < length others → (x.operator ≡ o.And → ⊥) → connected (operands (map operand_of others)) parts ≡ b.Or parts
connected_or others x parts e h k = ap (λ os. connected os parts) (first_operator others x e h) ∙ by_operator x.operator (expr_of x.value) (operands (map operand_of (drop 1 others))) k
  where
    by_operator : (op : LineOperator) (value : Expr) (rest : spec.LineOperands) → (op ≡ o.And → ⊥) → connected (spec.Operand (operator_of op) value rest) parts ≡ b.Or parts
    by_operator o.And value rest k = absurd (k refl)
    by_operator o.Or value rest k = refl
    by_operator o.Plus value rest k = refl
    by_operator o.Minus value rest k = refl
    by_operator o.Times value rest k = refl
    by_operator o.Divided value rest k = refl

-- ---- what kind of line it is, and what is no number

abbrev logical_of : Expr → Bool
logical_of (spec.Line first others) = is_logical others
logical_of _ = false

pub line_is : (e : TreeExpr) (logical : Bool) (first : Box TreeExpr) (others : Vec Operand) → IsLine e logical → e ≡ v.Line first others → is_logical (operands (map operand_of others.items)) ≡ logical
line_is e logical first others (f, xs, same, l) is = ap logical_of (sym (ap expr_of is ∙ of_line first others) ∙ ap expr_of same ∙ of_line f xs) ∙ l

pub is_text : (type : BoundType) → ((scale : ℕ) → type ≡ bt.Number scale → ⊥) → value_type_of type ≡ TextType
is_text (bt.Number scale) h = absurd (h scale refl)
is_text bt.Text h = refl

pub as_many_blocks : (blocks : List Block) → length (map block_of blocks) ≡ length blocks
as_many_blocks [] = refl
as_many_blocks (x ∷ xs) = let h = as_many_blocks xs in omega (arith, h)

pub nothing_more : {X : Type 0} (xs : List X) → xs ++ [] ≡ xs
nothing_more [] = refl
nothing_more (x ∷ xs) = ap (λ ys. x ∷ ys) (nothing_more xs)

pub others_there : (others : List Operand) → is_logical (operands (map operand_of others)) ≡ true → 0 < length others
others_there [] h = absurd cc
others_there (x ∷ xs) h = omega (arith)
