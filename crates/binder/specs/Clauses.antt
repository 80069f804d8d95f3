-- What is bound of the clauses of a block, and why one of them is not.
use Rattle.std.specs.Prelude.{ℕ, ◌+◌, List, [], ◌++◌, Option, length, map, option_map, IfSome, IsTrue, IsFalse, Result}
use Rattle.std.specs.Prelude.{Ok, Err}
use Rattle.definitions.specs.Lists.{AnyOf}
use Rattle.definitions.specs.Refusal.{Refusal, MisplacedCondition}
use Rattle.definitions.specs.Statement as t
use Rattle.definitions.specs.Table.{Database}
use Rattle.definitions.specs.ValueType.{ValueType}
use Rattle.definitions.specs.Binding.Scopes.{Scopes}
use Rattle.definitions.specs.Binding.Parts.{item_values, condition_values, list_blocks, condition_blocks}
use Rattle.definitions.specs.Binding.Faults.{is_condition, list_of, where_of, having_clause_of, where_parts}
use Rattle.definitions.specs.Binding.Faults.{shown_parts}
use Rattle.definitions.specs.Queries.BoundBlock as b
use Rattle.definitions.specs.Queries.BoundBlock.{Blocks, Aggregate}
use Rattle.query_tree.specs.Bound.{bound_function_of, condition_of, item_of, value_type_of}
use Rattle.binder.specs.declared.block.Clauses.{Clauses}
use Rattle.query_rules.specs.declared.fault.BindFault.{BindFault}
use Rattle.query_rules.specs.Judging.{ClauseKind, InWhere, Progress, Refuses}
use Rattle.binder.specs.Blocks.{BindsList, BindsOption}
use Rattle.query_rules.specs.Meaning.{bind_refusal}

-- the clauses of a block, one behind another in text order
pub record BoundClauses : Type 0 where
  pub items : List b.Item
  pub only : Option ValueType
  pub condition : Option b.Condition
  pub having : Option b.Condition
  pub functions : List Aggregate

module _ (db : Database) (scopes : Scopes) (shown : ClauseKind) where
  pub record BindsClauses (old new : Blocks) (query : t.QuerySpecification) (bound : BoundClauses) : Type 0 where
    pub listed : Progress
    pub kept : Progress
    pub columns : BindsList db scopes shown (record { blocks = old; functions = [] }) listed (list_of query) bound.items
        bound.only
    pub condition : BindsOption db scopes InWhere listed kept (where_of query) bound.condition
    pub having : BindsOption db scopes shown kept (record { blocks = new; functions = bound.functions })
        (having_clause_of query) bound.having

  pub data RefusesClauses (count : ℕ) (query : t.QuerySpecification) : Refusal → Type 0 where
    in_where : (r : Refusal)
        → Refuses db scopes InWhere count (where_parts query) (condition_blocks db scopes (where_of query)) r
        → RefusesClauses count query r
    in_shown : (r : Refusal)
        → Refuses db scopes shown (count + length (condition_blocks db scopes (where_of query))) (shown_parts query)
        (list_blocks db scopes (list_of query) ++ condition_blocks db scopes (having_clause_of query)) r
        → RefusesClauses count query r
    condition_for_item : AnyOf (λ e. IsTrue (is_condition e)) (item_values (list_of query))
        → RefusesClauses count query MisplacedCondition
    value_for_condition : AnyOf (λ e. IsFalse (is_condition e)) (condition_values (where_of query)
        ++ condition_values (having_clause_of query)) → RefusesClauses count query MisplacedCondition

abbrev pub clauses_of : Clauses → BoundClauses
clauses_of c = record {
  items = map item_of c.items.items;
  only = option_map value_type_of c.only;
  condition = option_map condition_of c.condition;
  having = option_map condition_of c.having;
  functions = map bound_function_of c.functions.items;
}

abbrev pub ClausesAnswer : Database → Scopes → ClauseKind → (old new : Blocks) → t.QuerySpecification
    → Result Clauses BindFault → Type 0
ClausesAnswer db scopes shown old new query (Ok x) = BindsClauses db scopes shown old new query (clauses_of x)
ClausesAnswer db scopes shown old new query (Err f) =
    IfSome (bind_refusal f) (RefusesClauses db scopes shown (length old) query)
