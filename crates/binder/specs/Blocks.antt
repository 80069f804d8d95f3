-- What is judged of the clauses of a block, and what is bound of them.
use Rattle.std.specs.Prelude.{ℕ, ◌≡◌, ◌⊎◌, List, [], ◌∷◌, Option, Some, None, length, map, flat_map, option_map}
use Rattle.std.specs.Prelude.{is_some, IfSome, IsTrue, IsFalse, ◌↔◌, Result, Ok, Err}
use Rattle.definitions.specs.Lists.{AnyOf}
use Rattle.definitions.specs.Refusal.{Refusal, MisplacedCondition}
use Rattle.definitions.specs.Statement as t
use Rattle.definitions.specs.Statement.{Asterisk, Listed, listed}
use Rattle.definitions.specs.Table.{Database}
use Rattle.definitions.specs.ValueType.{ValueType}
use Rattle.definitions.specs.Binding.Scopes.{Scopes, all_columns, own_scope}
use Rattle.definitions.specs.Binding.Types.{list_type, expr_type}
use Rattle.definitions.specs.Binding.Parts.{parts, item_values, condition_values, list_blocks, condition_blocks}
use Rattle.definitions.specs.Binding.BoundForm.{after_condition, after_list, bound_option, select_items}
use Rattle.definitions.specs.Binding.Faults.{is_condition}
use Rattle.definitions.specs.Queries.BoundBlock as b
use Rattle.query_tree.specs.Bound.{condition_of, item_of, value_type_of}
use Rattle.query_tree.specs.declared.condition.Condition.{Condition}
use Rattle.query_rules.specs.declared.clause.Clause.{Clause}
use Rattle.query_rules.specs.declared.fault.BindFault.{BindFault}
use Rattle.binder.specs.declared.items.ResultColumns.{ResultColumns}
use Rattle.query_rules.specs.Judging.{ClauseKind, Progress, next_of, Adds, Refuses, IsFine}
use Rattle.query_rules.specs.Meaning.{bind_refusal, place_of}

-- ---- a condition that may be absent

abbrev pub condition_parts : t.SearchClause → List t.Expr
condition_parts c = flat_map parts (condition_values c)

-- ---- result columns

abbrev pub list_parts : t.SelectList → List t.Expr
list_parts list = flat_map parts (item_values list)

abbrev pub list_length : Scopes → t.SelectList → ℕ
list_length scopes Asterisk = length (all_columns (own_scope scopes))
list_length scopes (Listed items) = length (listed items)

-- the type of the only one of some items
abbrev pub IsOnly : Database → Scopes → List t.DerivedColumn → Option ValueType → Type 0
IsOnly db scopes [] only = only ≡ None
IsOnly db scopes (i ∷ []) only = (type : ValueType) × (only ≡ Some type) × (expr_type db scopes i.value ≡ Some type)
    × IsFine type
IsOnly db scopes (i ∷ j ∷ is) only = only ≡ None

module _ (db : Database) (scopes : Scopes) (place : ClauseKind) where
  -- a condition is bound, if there is one
  pub record BindsOption (old new : Progress) (c : t.SearchClause) (bound : Option b.Condition) : Type 0 where
    pub adds : Adds db scopes place old new (condition_parts c) (condition_blocks db scopes c)
    pub are : bound ≡ bound_option db scopes (next_of old) c
    pub next : next_of new ≡ after_condition db scopes c (next_of old)
    pub conditions : AnyOf (λ e. IsFalse (is_condition e)) (condition_values c) → ⊥

  abbrev pub RefusesOption : Progress → t.SearchClause → Refusal → Type 0
  RefusesOption old c r =
      Refuses db scopes place (length old.blocks) (condition_parts c) (condition_blocks db scopes c) r
      ⊎ (AnyOf (λ e. IsFalse (is_condition e)) (condition_values c) × (r ≡ MisplacedCondition))

  -- result columns are bound, and the type of the only one is known if it is alone
  pub record BindsList (old new : Progress) (list : t.SelectList) (items : List b.Item) (only : Option ValueType) : Type
      0 where
    pub adds : Adds db scopes place old new (list_parts list) (list_blocks db scopes list)
    pub are : items ≡ select_items db scopes (next_of old) list
    pub next : next_of new ≡ after_list db scopes list (next_of old)
    pub values : AnyOf (λ e. IsTrue (is_condition e)) (item_values list) → ⊥
    pub typed : list_type db scopes list ≡ only
    pub one : (list_length scopes list ≡ 1) ↔ IsTrue (is_some only)
    pub fine : IfSome only IsFine

  abbrev pub RefusesList : Progress → t.SelectList → Refusal → Type 0
  RefusesList old list r =
      Refuses db scopes place (length old.blocks) (list_parts list) (list_blocks db scopes list) r
      ⊎ (AnyOf (λ e. IsTrue (is_condition e)) (item_values list) × (r ≡ MisplacedCondition))

-- what is answered for a clause that may be absent, and for a select list
abbrev pub OptionAnswer : Clause → (old new : Progress) → t.SearchClause → Result (Option Condition) BindFault → Type 0
OptionAnswer c old new condition (Ok bound) =
    BindsOption c.database.now c.scopes.now (place_of c.place) old new condition (option_map condition_of bound)
OptionAnswer c old new condition (Err f) =
    IfSome (bind_refusal f) (RefusesOption c.database.now c.scopes.now (place_of c.place) old condition)

abbrev pub ListAnswer : Clause → (old new : Progress) → t.SelectList → Result ResultColumns BindFault → Type 0
ListAnswer c old new list (Ok x) =
    BindsList c.database.now c.scopes.now (place_of c.place) old new list (map item_of x.items.items)
    (option_map value_type_of x.only)
ListAnswer c old new list (Err f) =
    IfSome (bind_refusal f) (RefusesList c.database.now c.scopes.now (place_of c.place) old list)
