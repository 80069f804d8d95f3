-- The bound form of a query. (Where a query has a fault, it is refused, and its bound form says nothing.)
use Rattle.std.specs.Prelude.{ℕ, zero, suc, ◌+◌, ◌-◌, Bool, false, List, [], ◌∷◌, ◌++◌, Option, Some, None, length, map}
use Rattle.std.specs.Prelude.{flat_map, codes, decimal, bytes_eq}
use Rattle.std.specs.List.{position_or_len}
use Rattle.definitions.specs.Statement.{Name}
use Rattle.definitions.specs.Table.{Database}
use Rattle.definitions.specs.Plans.Order.{BlockColumn}
use Rattle.definitions.specs.Binding.Scopes.{Scope, Scopes, NamedTable, Found, Resolution, Named, scope_of, all_columns}
use Rattle.definitions.specs.Binding.Scopes.{own_scope, resolve}
use Rattle.definitions.specs.ValueType.{ValueType, NumberType, TextType}
use Rattle.definitions.specs.Binding.Types.{expr_type, query_type, function_type}
use Rattle.definitions.specs.Statement as t
use Rattle.definitions.specs.Binding.Parts.{PlacedBlock, functions_in, item_values, condition_values, placed_blocks_in}
use Rattle.definitions.specs.Binding.Parts.{placed_blocks_of}
use Rattle.definitions.specs.Queries.BoundBlock as b
use Rattle.definitions.specs.Queries.BoundBlock.{ValueExpr, Operands, Condition, Conditions, Aggregate, Item, OrderKey}
use Rattle.definitions.specs.Queries.BoundBlock.{Block, Blocks}

-- what stands in place of what is refused
abbrev pub no_value : ValueExpr
no_value = b.String []

abbrev pub no_condition : Condition
no_condition = b.And b.NoPart

abbrev pub known_type : Option ValueType → ValueType
known_type (Some type) = type
known_type None = TextType

abbrev pub no_column : BlockColumn
no_column = record { table = 0; number = 0 }

-- a column of the block's own tables, or of a block around it (ISO/IEC 9075:1992, 6.4)
abbrev pub bound_column : Resolution → ValueExpr
bound_column (Named zero f) = b.Column f.column f.type
bound_column (Named (suc between) f) = b.Parameter between f.column f.type
bound_column _ = no_value

abbrev pub operator_of : t.LineOperator → b.Operator
operator_of t.Plus = b.Plus
operator_of t.Minus = b.Minus
operator_of t.Times = b.Times
operator_of _ = b.Over

-- AND or OR, by what joins the operands
abbrev pub connected : t.LineOperands → Conditions → Condition
connected (t.Operand t.And e others) parts = b.And parts
connected _ parts = b.Or parts

-- GROUP BY names own columns (7.7, syntax rule 1)
abbrev pub own_column : Resolution → BlockColumn
own_column (Named zero f) = f.column
own_column _ = no_column

-- ---- names of result columns

-- the name of a result column that has one: its AS name, or a plain column's own (7.9, syntax rule 9)
abbrev pub plain_name : t.Expr → Option Name
plain_name (t.Column reference) = Some reference.name
plain_name _ = None

abbrev pub result_name : t.Expr → Option Name → Option Name
result_name e (Some name) = Some name
result_name e None = plain_name e

-- the name in the header of the column of a number; one without a name is COLk (own)
abbrev pub header_name : ℕ → Option Name → Name
header_name k (Some name) = name
header_name k None = codes "COL" ++ decimal k

abbrev pub result_names : List t.DerivedColumn → List (Option Name)
result_names = map (λ (i : t.DerivedColumn). result_name i.value i.alias)

abbrev pub has_name : Name → Option Name → Bool
has_name name None = false
has_name name (Some other) = bytes_eq other name

-- a key of ORDER BY: a position from 1, or the name of a result column (13.1, syntax rules 3 to 5)
abbrev pub key_item : List (Option Name) → t.KeyName → ℕ
key_item names (t.ByName name) = position_or_len (has_name name) names
key_item names (t.ByPosition position) = position - 1

-- ---- expressions

-- the numbers of the next block and of the next set function in the text
pub record Next : Type 0 where
  pub block : ℕ
  pub function : ℕ

module _ (db : Database) (scopes : Scopes) where
  -- the numbers behind an expression
  abbrev pub after : t.Expr → Next → Next
  after e next =
      record {
        block = next.block + length (placed_blocks_in db scopes e);
        function = next.function + length (functions_in e);
      }

  abbrev mutual
    pub bound_value : Next → t.Expr → ValueExpr
    bound_value next (t.Column reference) = bound_column (resolve scopes reference)
    bound_value next (t.Numeral units digits scale) = b.Numeral units digits scale
    bound_value next (t.String codes) = b.String codes
    bound_value next (t.Signed minus e) = b.Signed minus (bound_value next e)
    bound_value next (t.Line first others) = b.Chain (bound_value next first) (bound_operands (after first next) others)
    bound_value next (t.Scalar query) = b.Subquery next.block (known_type (query_type db scopes query))
    bound_value next t.CountRows = b.AggregateValue next.function (NumberType 0)
    bound_value next (t.Function function distinct argument) =
        b.AggregateValue next.function (known_type (function_type function (expr_type db scopes argument)))
    bound_value next _ = no_value

    pub bound_operands : Next → t.LineOperands → Operands
    bound_operands next t.NoOperand = b.NoOperand
    bound_operands next (t.Operand operator e others) =
        b.Operand (operator_of operator) (bound_value next e) (bound_operands (after e next) others)

  abbrev pub bound_members : Next → t.Members → List (Option ValueExpr)
  bound_members next t.NoMember = []
  bound_members next (t.NullMember others) = None ∷ bound_members next others
  bound_members next (t.Member e others) = Some (bound_value next e) ∷ bound_members (after e next) others

  abbrev mutual
    pub bound_condition : Next → t.Expr → Condition
    bound_condition next (t.Line first others) =
        connected others (b.Part (bound_condition next first) (bound_parts (after first next) others))
    bound_condition next (t.Not e) = b.Not (bound_condition next e)
    bound_condition next (t.Compare op left right) =
        b.Compare op (bound_value next left) (bound_value (after left next) right)
    bound_condition next (t.CompareAll op quantifier e query) =
        b.Quantified op quantifier (bound_value next e) (after e next).block
    bound_condition next (t.IsNull negated e) = b.IsNull negated (bound_value next e)
    bound_condition next (t.Between negated e low high) =
        b.Between negated (bound_value next e) (bound_value (after e next) low)
        (bound_value (after low (after e next)) high)
    bound_condition next (t.Like negated e pattern) = b.Like negated (bound_value next e) pattern
    bound_condition next (t.InList negated e members) =
        b.InList negated (bound_value next e) (bound_members (after e next) members)
    bound_condition next (t.InQuery negated e query) = b.InQuery negated (bound_value next e) (after e next).block
    bound_condition next (t.Exists query) = b.Exists next.block
    bound_condition next _ = no_condition

    pub bound_parts : Next → t.LineOperands → Conditions
    bound_parts next t.NoOperand = b.NoPart
    bound_parts next (t.Operand operator e others) = b.Part (bound_condition next e) (bound_parts (after e next) others)

  abbrev pub bound_option : Next → t.SearchClause → Option Condition
  bound_option next t.Absent = None
  bound_option next (t.Present e) = Some (bound_condition next e)

  abbrev pub after_condition : t.SearchClause → Next → Next
  after_condition t.Absent next = next
  after_condition (t.Present e) next = after e next

  -- a set function; its argument holds no other one, and no subquery (6.5, syntax rules 3 to 5)
  abbrev pub bound_function : t.Expr → Aggregate
  bound_function (t.Function function distinct argument) =
      b.OfValues function distinct (bound_value (record { block = 0; function = 0 }) argument)
  bound_function _ = b.CountRows

  -- ---- result columns

  abbrev pub bound_items : Next → ℕ → List t.DerivedColumn → List Item
  bound_items next k [] = []
  bound_items next k (i ∷ is) =
      record { name = header_name k (result_name i.value i.alias); value = bound_value next i.value }
      ∷ bound_items (after i.value next) (k + 1) is

  abbrev pub after_items : List t.DerivedColumn → Next → Next
  after_items [] next = next
  after_items (i ∷ is) next = after_items is (after i.value next)

  -- SELECT * gives the columns of all tables, in the order of FROM (7.9, syntax rule 4)
  abbrev pub star_items : List Item
  star_items =
      map (λ (f : Found). record { name = f.name; value = b.Column f.column f.type }) (all_columns (own_scope scopes))

  abbrev pub select_items : Next → t.SelectList → List Item
  select_items next t.Asterisk = star_items
  select_items next (t.Listed items) = bound_items next 1 (t.listed items)

  abbrev pub after_list : t.SelectList → Next → Next
  after_list t.Asterisk next = next
  after_list (t.Listed items) next = after_items (t.listed items) next

  abbrev pub names_of_list : t.SelectList → List (Option Name)
  names_of_list t.Asterisk = map (λ (f : Found). Some f.name) (all_columns (own_scope scopes))
  names_of_list (t.Listed items) = result_names (t.listed items)

  abbrev pub bound_key : t.SelectList → t.SortSpecification → OrderKey
  bound_key list key = record { item = key_item (names_of_list list) key.named; descending = key.descending }

-- ---- blocks

-- the bound form of the block of a number; blocks and set functions are numbered in text order
abbrev pub bound_block : Database → ℕ → Scopes → t.QuerySpecification → List t.SortSpecification → Block
bound_block db number outer (t.Specification distinct list sources where' groups having) order =
    let scope : Scope = scope_of db sources in
    let scopes : Scopes = scope ∷ outer in
    let first : Next = record { block = number + 1; function = 0 } in
    let second : Next = after_list db scopes list first in
    let third : Next = after_condition db scopes where' second in
    record {
      tables = map (λ (t : NamedTable). t.number) scope;
      distinct = distinct;
      items = select_items db scopes first list;
      condition = bound_option db scopes second where';
      groups = map (λ reference. own_column (resolve scopes reference)) groups;
      having = bound_option db scopes third having;
      functions = map (bound_function db scopes) (flat_map functions_in (item_values list ++ condition_values having));
      order = map (bound_key db scopes list) order;
    }

abbrev pub bound_blocks : Database → ℕ → List PlacedBlock → List t.SortSpecification → Blocks
bound_blocks db number [] order = []
bound_blocks db number (p ∷ ps) order = bound_block db number p.outer p.block order ∷ bound_blocks db (number + 1) ps []

-- the blocks of a query, bound
abbrev pub bound_form : Database → t.Select → Blocks
bound_form db q = bound_blocks db 0 (placed_blocks_of db q.block) q.order
