-- Worked examples: queries whose names are bound, from trees; queries that are refused; and blocks that are well
-- formed.
use Rattle.std.specs.Prelude.{◌≡◌, ℕ, List, [], ◌∷◌, Some, None, true, false}
use Rattle.std.specs.Prelude.{pos, Option, codes, replicate}
use Rattle.definitions.specs.Value.{Value, Null, Number, Integer, Char}
use Rattle.definitions.specs.Table as table
use Rattle.definitions.specs.Binding.Formed as g
use Rattle.definitions.specs.Table.{Table, Database}
use Rattle.definitions.specs.Arithmetic as a
use Rattle.definitions.specs.Arithmetic.{Is, Raises}
use Rattle.definitions.specs.ValueType.{NumberType}
use Rattle.definitions.specs.Queries.BoundBlock as b
use Rattle.definitions.specs.Statement as t
use Rattle.definitions.specs.Statement.{Name, Expr, QuerySpecification, Select}
use Rattle.definitions.specs.Binding.BoundForm.{bound_form}
use Rattle.definitions.specs.Refusal as r
use Rattle.definitions.specs.Binding.Faults as f
use Rattle.definitions.specs.Binding.Faults.{QueryFaulty}
use Rattle.definitions.specs.Queries.Answer.{answer}

abbrev pub whole : ℕ → Value
whole n = Number (pos n) 0

-- T (X INTEGER, C CHAR(2)): 1, 'ab'; U (V INTEGER): 1 and 2
abbrev pub t_and_u : Database
t_and_u =
    record {
      name = codes "T";
      columns = record {
        name = codes "X";
        type = Integer;
        constraint = Rattle.definitions.specs.Statement.Nullable;
      } ∷ record {
        name = codes "C";
        type =
            Char 2;
        constraint = Rattle.definitions.specs.Statement.Nullable;
      } ∷ [];
      rows = (whole 1 ∷ Null ∷ []) ∷ [];
      indexes = [];
      statistics = record { rows = 0; pages = 1 };
    }
    ∷ record {
      name = codes "U";
      columns = record {
        name = codes "V";
        type = Integer;
        constraint = Rattle.definitions.specs.Statement.Nullable;
      } ∷ [];
      rows = (whole 1 ∷ []) ∷ (whole 2 ∷ []) ∷ [];
      indexes = [];
      statistics = record { rows = 0; pages = 1 };
    }
    ∷ []

abbrev pub column : Name → Expr
column name = t.Column (record { qualifier = None; name = name })

abbrev pub from : Name → List t.Source
from name = record { table = name; correlation = None } ∷ []

abbrev pub only : Expr → t.Items
only e = t.AddItem e None t.NoItem

abbrev pub item : Expr → t.SelectList
item e = t.Listed (only e)

abbrev pub plain : t.SelectList → List t.Source → t.SearchClause → QuerySpecification
plain items sources restriction = t.Specification false items sources restriction [] t.Absent

abbrev pub unordered : QuerySpecification → Select
unordered block = record { block = block; order = [] }

-- SELECT X FROM T WHERE X = (SELECT V FROM U)
abbrev pub two_rows : Select
two_rows =
    unordered (plain (item (column (codes "X"))) (from (codes "T"))
    (t.Present (t.Compare t.Equals (column (codes "X"))
    (t.Scalar (plain (item (column (codes "V"))) (from (codes "U")) t.Absent)))))

-- SELECT X FROM T WHERE EXISTS (SELECT * FROM U WHERE V = X)
abbrev pub correlated : Select
correlated =
    unordered (plain (item (column (codes "X"))) (from (codes "T"))
    (t.Present (t.Exists (plain t.Asterisk (from (codes "U"))
    (t.Present (t.Compare t.Equals (column (codes "V")) (column (codes "X"))))))))

-- SELECT X FROM T WHERE EXISTS (SELECT 1/0 FROM U)
abbrev pub dividing : Select
dividing =
    unordered (plain (item (column (codes "X"))) (from (codes "T"))
    (t.Present (t.Exists (plain (item (t.Line (t.Numeral 1 1 0) (t.Operand t.Divided (t.Numeral 0 1 0) t.NoOperand)))
    (from (codes "U")) t.Absent))))

pub record SubqueriesBind : Type 0 where
  pub scalar_subquery_raises : answer t_and_u (bound_form t_and_u two_rows) ≡ a.raised a.Cardinality
  pub exists_binds : answer t_and_u (bound_form t_and_u correlated) ≡ Is ((whole 1 ∷ []) ∷ [])
  pub exists_raises : answer t_and_u (bound_form t_and_u dividing) ≡ Raises a.DivisionByZero (a.DivisionByZero ∷ [])

-- ---- forms

abbrev pub own : ℕ → ℕ → b.ValueExpr
own table number = b.Column (record { table = table; number = number }) Integer

abbrev pub qualified : Name → Name → Expr
qualified qualifier name = t.Column (record { qualifier = Some qualifier; name = name })

-- SELECT A.X, B.X AS Y FROM T A, T B WHERE A.X = B.X ORDER BY 1, Y DESC
abbrev pub twice : Select
twice = record {
  block =
      t.Specification false (t.Listed
      (t.AddItem (qualified (codes "A") (codes "X")) None
      (t.AddItem (qualified (codes "B") (codes "X")) (Some (codes "Y")) t.NoItem)))
      (record { table = codes "T"; correlation = Some (codes "A") } ∷ record {
        table = codes "T";
        correlation = Some (codes "B");
      } ∷ [])
      (t.Present (t.Compare t.Equals (qualified (codes "A") (codes "X"))
      (qualified (codes "B") (codes "X")))) [] t.Absent;
  order =
      record { named = t.ByPosition 1; descending = false } ∷ record {
        named = t.ByName (codes "Y");
        descending = true;
      } ∷ [];
}

abbrev pub one : Expr
one = t.Numeral 1 1 0

abbrev pub bound_one : b.ValueExpr
bound_one = b.Numeral 1 1 0

abbrev pub plain_bound : List ℕ → List b.Item → Option b.Condition → b.Block
plain_bound tables items condition =
    record {
      tables = tables;
      distinct = false;
      items = items;
      condition = condition;
      groups = [];
      having = None;
      functions = [];
      order = [];
    }

-- SELECT 1 FROM T WHERE EXISTS (SELECT * FROM U WHERE EXISTS (SELECT * FROM U WHERE V = X)) AND X IN (SELECT V FROM U):
-- blocks are numbered in text order, and X is a column of the block that lies two outside the one where it is named
abbrev pub nested : Select
nested = unordered (plain (item one) (from (codes "T")) (t.Present (t.Line
    (t.Exists (plain t.Asterisk (from (codes "U"))
    (t.Present (t.Exists (plain t.Asterisk (from (codes "U"))
    (t.Present (t.Compare t.Equals (column (codes "V")) (column (codes "X")))))))))
    (t.Operand t.And (t.InQuery false (column (codes "X"))
    (plain (item (column (codes "V"))) (from (codes "U")) t.Absent)) t.NoOperand))))

abbrev pub v_item : b.Item
v_item = record { name = codes "V"; value = own 0 0 }

-- SELECT C, SUM(X) + COUNT(*) FROM T GROUP BY C HAVING MIN(DISTINCT X) > 1: set functions are numbered in text order
abbrev pub c_column : b.ValueExpr
c_column = b.Column (record { table = 0; number = 1 }) (Char 2)

abbrev pub grouped : Select
grouped = unordered (t.Specification false
    (t.Listed (t.AddItem (column (codes "C")) None
    (t.AddItem (t.Line (t.Function t.Sum false (column (codes "X")))
    (t.Operand t.Plus t.CountRows t.NoOperand)) None t.NoItem)))
    (from (codes "T")) t.Absent (record { qualifier = None; name = codes "C" } ∷ [])
    (t.Present (t.Compare t.GreaterThan (t.Function t.Min true (column (codes "X"))) one)))

pub record FormsOfQueries : Type 0 where
  pub one_table_twice : bound_form t_and_u twice ≡ record {
    tables = 0 ∷ 0 ∷ [];
    distinct = false;
    items = record { name = codes "X"; value = own 0 0 } ∷ record { name = codes "Y"; value = own 1 0 } ∷ [];
    condition = Some (b.Compare t.Equals (own 0 0) (own 1 0));
    groups = [];
    having = None;
    functions = [];
    order = record { item = 0; descending = false } ∷ record { item = 1; descending = true } ∷ [];
  } ∷ []
  pub blocks_in_text_order : bound_form t_and_u nested ≡
      plain_bound (0 ∷ []) (record {
        name = codes "COL1";
        value = bound_one;
      } ∷ []) (Some (b.And (b.Part (b.Exists 1) (b.Part (b.InQuery false (own 0 0) 3) b.NoPart))))
      ∷ plain_bound (1 ∷ []) (v_item ∷ []) (Some (b.Exists 2))
      ∷ plain_bound (1 ∷ []) (v_item ∷ []) (Some (b.Compare t.Equals (own 0 0) (b.Parameter 1 (record {
        table = 0;
        number = 0;
      }) Integer)))
      ∷ plain_bound (1 ∷ []) (v_item ∷ []) None
      ∷ []
  pub functions_in_text_order : bound_form t_and_u grouped ≡ record {
    tables = 0 ∷ [];
    distinct = false;
    items =
        record { name = codes "C"; value = c_column } ∷ record {
          name = codes "COL2";
          value = b.Chain (b.AggregateValue 0 (NumberType 0))
              (b.Operand b.Plus (b.AggregateValue 1 (NumberType 0)) b.NoOperand);
        } ∷ [];
    condition = None;
    groups = record { table = 0; number = 1 } ∷ [];
    having = Some (b.Compare t.GreaterThan (b.AggregateValue 2 (NumberType 0)) bound_one);
    functions = b.OfValues t.Sum false (own 0 0) ∷ b.CountRows ∷ b.OfValues t.Min true (own 0 0) ∷ [];
    order = [];
  } ∷ []

-- ---- refusals

abbrev pub select_where : t.SelectList → Expr → Select
select_where items e = unordered (plain items (from (codes "T")) (t.Present e))

abbrev pub select : t.SelectList → List t.Source → Select
select items sources = unordered (plain items sources t.Absent)

abbrev pub x : Expr
x = column (codes "X")

-- SELECT X FROM T WHERE X = 1 has no fault
abbrev pub faultless : Select
faultless = select_where (item x) (t.Compare t.Equals x one)

pub record RefusedQueries : Type 0 where
  -- SELECT 1 FROM T, T
  pub name_twice_in_from : QueryFaulty t_and_u (select (item one) (record {
    table = codes "T";
    correlation = None;
  } ∷ record { table = codes "T"; correlation = None } ∷ [])) r.NameTaken
  -- SELECT 1 FROM S
  pub no_such_table : QueryFaulty t_and_u (select (item one) (from (codes "S"))) r.NotFound
  -- SELECT 1.0000000000000000000 FROM T
  pub nineteen_digits_behind_the_point : QueryFaulty t_and_u
      (select (item (t.Numeral 10000000000000000000 20 19)) (from (codes "T"))) r.ScaleTooGreat
  -- SELECT Y FROM T
  pub unknown_column : QueryFaulty t_and_u (select (item (column (codes "Y"))) (from (codes "T"))) r.UnknownColumn
  -- SELECT 1 FROM T A, T B WHERE X = 1
  pub ambiguous_column : QueryFaulty t_and_u (unordered (plain (item one) (record {
    table = codes "T";
    correlation = Some (codes "A");
  } ∷ record {
    table = codes "T";
    correlation =
        Some (codes "B");
  } ∷ []) (t.Present (t.Compare t.Equals x one)))) r.UnknownColumn
  -- SELECT 1 FROM T WHERE X = C
  pub number_against_text : QueryFaulty t_and_u
      (select_where (item one) (t.Compare t.Equals x (column (codes "C")))) r.MixedKinds
  -- SELECT 1 FROM T WHERE X IN (SELECT * FROM T)
  pub two_columns_for_values : QueryFaulty t_and_u
      (select_where (item one) (t.InQuery false x (plain t.Asterisk (from (codes "T")) t.Absent))) r.MixedKinds
  -- SELECT 1 FROM T WHERE X
  pub value_for_condition : QueryFaulty t_and_u (select_where (item one) x) r.MisplacedCondition
  -- SELECT 1 FROM T WHERE COUNT(*) = 1
  pub count_in_where : QueryFaulty t_and_u
      (select_where (item one) (t.Compare t.Equals t.CountRows one)) r.MisplacedFunction
  -- SELECT X, COUNT(*) FROM T
  pub column_beside_count : QueryFaulty t_and_u
      (select (t.Listed (t.AddItem x None (only t.CountRows))) (from (codes "T"))) r.UngroupedColumn
  -- SELECT X FROM T ORDER BY 2
  pub no_such_position : QueryFaulty t_and_u (record {
    block = plain (item x) (from (codes "T")) t.Absent;
    order = record { named = t.ByPosition 2; descending = false } ∷ [];
  }) r.UnknownKey
  -- SELECT 1 FROM fifteen tables
  pub fifteen_tables : QueryFaulty t_and_u (select (item one) (replicate 15 (record {
    table = codes "T";
    correlation = None;
  }))) r.ManyTables
  -- SELECT (SELECT V FROM U) FROM T
  pub subquery_in_select_list : QueryFaulty t_and_u
      (select (item (t.Scalar (plain (item (column (codes "V"))) (from (codes "U")) t.Absent)))
      (from (codes "T"))) r.OverQueryLimit
  pub faultless_is_accepted : f.IsAcceptedQuery t_and_u faultless

-- ---- well-formed blocks: SELECT X FROM T WHERE EXISTS (SELECT * FROM U WHERE V = X)

abbrev pub x_column : table.Column
x_column = record { name = codes "X"; type = Integer; constraint = Rattle.definitions.specs.Statement.Nullable }

abbrev pub v_column : table.Column
v_column = record { name = codes "V"; type = Integer; constraint = Rattle.definitions.specs.Statement.Nullable }

abbrev pub t_table : Table
t_table =
    record {
      name = codes "T";
      columns = x_column ∷ record {
        name = codes "C";
        type = Char 2;
        constraint = Rattle.definitions.specs.Statement.Nullable;
      } ∷ [];
      rows = (whole 1 ∷ Null ∷ []) ∷ [];
      indexes = [];
      statistics = record { rows = 0; pages = 1 };
    }

abbrev pub u_table : Table
u_table =
    record {
      name = codes "U";
      columns = v_column ∷ [];
      rows = (whole 1 ∷ []) ∷ (whole 2 ∷ []) ∷ [];
      indexes = [];
      statistics = record { rows = 0; pages = 1 };
    }

abbrev pub outer_block : b.Block
outer_block = plain_bound (0 ∷ []) (record { name = codes "X"; value = own 0 0 } ∷ []) (Some (b.Exists 1))

abbrev pub inner_block : b.Block
inner_block =
    plain_bound (1 ∷ []) (v_item ∷ []) (Some (b.Compare t.Equals (own 0 0) (b.Parameter 0 (record {
      table = 0;
      number = 0;
    }) Integer)))

abbrev pub two_blocks : b.Blocks
two_blocks = outer_block ∷ inner_block ∷ []

pub record FormedBlocks : Type 0 where
  pub correlated_binds : bound_form t_and_u correlated ≡ two_blocks
  pub correlated_is_formed : g.AreFormed t_and_u two_blocks [] 0
  -- a block is not formed whose key is past its items, or whose inner block doesn't stand behind it
  pub key_past_items : g.IsFormedBlock t_and_u two_blocks [] 0 (record outer_block {
    order = record {
      item = 1;
      descending = false;
    } ∷ [];
  }) → ⊥
  pub inner_block_in_front : g.IsFormedBlock t_and_u two_blocks [] 0
      (record outer_block { condition = Some (b.Exists 0) }) → ⊥
  -- the law of formed blocks on SELECT X FROM T WHERE X = 1
  pub faultless_is_formed : g.AreFormed t_and_u (bound_form t_and_u faultless) [] 0
  -- a numeral of one digit that has the units 10 is none that can be written
  pub ten_of_one_digit : g.IsFormedValue t_and_u two_blocks [] 0 outer_block (b.Numeral 10 1 0) → ⊥
