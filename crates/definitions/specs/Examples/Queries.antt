-- Worked examples: queries on bound blocks. After each stands a variant to which the definitions say no.
use Rattle.std.specs.Prelude.{◌≡◌, ℕ, List, [], ◌∷◌, Some, None, true, false}
use Rattle.std.specs.Prelude.{◌^◌, pos, neg_ℤ, Bool, codes}
use Rattle.definitions.specs.Value.{Value, Null, Number, Text, Integer, Numeric, Char}
use Rattle.definitions.specs.Table.{Row, Table, Database}
use Rattle.definitions.specs.Statement as s
use Rattle.definitions.specs.Arithmetic as a
use Rattle.definitions.specs.Arithmetic.{over, plus, Is, Raises, raised}
use Rattle.definitions.specs.ValueType.{NumberType}
use Rattle.definitions.specs.Queries.BoundBlock as b
use Rattle.definitions.specs.Queries.BoundBlock.{ValueExpr, Condition, Block, Item, Blocks}
use Rattle.definitions.specs.Queries.CanRaise.{can_raise}
use Rattle.definitions.specs.Queries.Outcomes.{shown, Rows, Exception, names_of, AllowedOf}
use Rattle.definitions.specs.Queries.Answer.{answer}

-- ---- small words for tables and blocks

abbrev pub whole : ℕ → Value
whole n = Number (pos n) 0

-- a table; names don't matter here
abbrev pub table_of : List Row → Table
table_of rows =
    record { name = []; columns = []; rows = rows; indexes = []; statistics = record { rows = 0; pages = 1 } }

abbrev pub integer : (table column : ℕ) → ValueExpr
integer t c = b.Column (record { table = t; number = c }) Integer

abbrev pub numeral : ℕ → ValueExpr
numeral n = b.Numeral n 1 0

-- the set function of a number, with the scale of its values
abbrev pub number_of : ℕ → ℕ → ValueExpr
number_of n scale = b.AggregateValue n (NumberType scale)

abbrev pub item : List ℕ → ValueExpr → Item
item name value = record { name = name; value = value }

-- SELECT items FROM tables
abbrev pub select : List Item → List ℕ → Block
select items tables =
    record {
      tables = tables;
      distinct = false;
      items = items;
      condition = None;
      groups = [];
      having = None;
      functions = [];
      order = [];
    }

-- with WHERE
abbrev pub where' : Block → Condition → Block
where' block condition = record block { condition = Some condition }

abbrev pub over' : ValueExpr → ValueExpr → ValueExpr
over' x y = b.Chain x (b.Operand b.Over y b.NoOperand)

abbrev pub times' : ValueExpr → ValueExpr → ValueExpr
times' x y = b.Chain x (b.Operand b.Times y b.NoOperand)

abbrev pub both : Condition → Condition → Condition
both x y = b.And (b.Part x (b.Part y b.NoPart))

abbrev pub either : Condition → Condition → Condition
either x y = b.Or (b.Part x (b.Part y b.NoPart))

-- ---- T (A, B): 6, 2 and 5, 0

abbrev pub six_and_five : Database
six_and_five = table_of ((whole 6 ∷ whole 2 ∷ []) ∷ (whole 5 ∷ whole 0 ∷ []) ∷ []) ∷ []

abbrev pub a_over_b : Condition
a_over_b = b.Compare s.GreaterThan (over' (integer 0 0) (integer 0 1)) (numeral 2)

-- SELECT A FROM T WHERE B <> 0 AND A/B > 2: the early conjunct keeps the division from the zero
abbrev pub guarded : Blocks
guarded =
    where' (select (item (codes "A") (integer 0 0) ∷ []) (0 ∷
    [])) (both (b.Compare s.NotEquals (integer 0 1) (numeral 0)) a_over_b) ∷ []

-- SELECT A FROM T WHERE B = 0 OR A/B > 2: one conjunct, strictly evaluated
abbrev pub unguarded : Blocks
unguarded =
    where' (select (item (codes "A") (integer 0 0) ∷ []) (0 ∷
    [])) (either (b.Compare s.Equals (integer 0 1) (numeral 0)) a_over_b) ∷ []

pub record GuardedDivision : Type 0 where
  pub division_is_guarded : answer six_and_five guarded ≡ Is ((whole 6 ∷ []) ∷ [])
  pub division_raises : answer six_and_five unguarded ≡ raised a.DivisionByZero
  -- the exception is not the rows that lazy evaluation would give
  pub division_gives_no_rows : AllowedOf six_and_five unguarded (Rows ((whole 6 ∷ []) ∷ (whole 5 ∷ []) ∷ [])) → ⊥
  pub guarded_division_does_not_raise : AllowedOf six_and_five guarded (Exception a.DivisionByZero) → ⊥

-- ---- no rows: SELECT A, B FROM T, and SELECT COUNT(*), SUM(A) FROM T

abbrev pub empty : Database
empty = table_of [] ∷ []

abbrev pub count_and_sum : Blocks
count_and_sum =
    record (select (item (codes "COL1") (number_of 0 0) ∷ item (codes "COL2") (number_of 1 0) ∷ []) (0 ∷ [])) {
      functions = b.CountRows ∷ b.OfValues s.Sum false (integer 0 0) ∷ [];
    } ∷ []

pub record NoRows : Type 0 where
  pub no_rows_shown : shown (codes "A" ∷ codes "B" ∷ []) (Rows []) ≡ codes "A|B\n0 rows\n"
  pub one_group_of_nothing : answer empty count_and_sum ≡ Is ((whole 0 ∷ Null ∷ []) ∷ [])
  pub count_and_sum_shown : shown (names_of count_and_sum) (Rows ((whole 0 ∷ Null ∷ []) ∷ []))
      ≡ codes "COL1|COL2\n0|NULL\n1 rows\n"
  pub count_prints_a_row : AllowedOf empty count_and_sum (Rows []) → ⊥
  pub sum_of_nothing_is_not_zero : AllowedOf empty count_and_sum (Rows ((whole 0 ∷ whole 0 ∷ []) ∷ [])) → ⊥

-- ---- nulls in IN and NOT IN: X is 1, 2 and NULL

abbrev pub one_two_null : Database
one_two_null = table_of ((whole 1 ∷ []) ∷ (whole 2 ∷ []) ∷ (Null ∷ []) ∷ []) ∷ []

-- SELECT X FROM T WHERE X IN (1, NULL), or NOT IN
abbrev pub in_one_null : Bool → Blocks
in_one_null negated =
    where' (select (item (codes "X") (integer 0 0) ∷ []) (0 ∷ [])) (b.InList negated (integer 0 0) (Some (numeral 1) ∷
    None ∷ [])) ∷ []

pub record NullsInLists : Type 0 where
  pub not_in_with_null_is_never_true : answer one_two_null (in_one_null true) ≡ Is []
  pub in_with_null : answer one_two_null (in_one_null false) ≡ Is ((whole 1 ∷ []) ∷ [])
  pub two_is_not_in : AllowedOf one_two_null (in_one_null true) (Rows ((whole 2 ∷ []) ∷ [])) → ⊥

-- ---- texts: C CHAR(5) is 'ab   '

abbrev pub padded : Database
padded = table_of ((Text (codes "ab   ") ∷ []) ∷ []) ∷ []

abbrev pub text_column : ValueExpr
text_column = b.Column (record { table = 0; number = 0 }) (Char 5)

-- SELECT C FROM T WHERE ..
abbrev pub texts_where : Condition → Blocks
texts_where c = where' (select (item (codes "C") text_column ∷ []) (0 ∷ [])) c ∷ []

pub record PaddedTexts : Type 0 where
  pub equals_pads : answer padded (texts_where (b.Compare s.Equals text_column (b.String (codes "ab"))))
      ≡ Is ((Text (codes "ab   ") ∷ []) ∷ [])
  pub padded_text_shown : shown (codes "C" ∷ []) (Rows ((Text (codes "ab   ") ∷ []) ∷ []))
      ≡ codes "C\n'ab   '\n1 rows\n"
  pub like_counts_padding : answer padded (texts_where (b.Like false text_column (codes "ab"))) ≡ Is []
  pub like_any_ending : answer padded (texts_where (b.Like false text_column (codes "ab%")))
      ≡ Is ((Text (codes "ab   ") ∷ []) ∷ [])
  pub like_does_not_pad : AllowedOf padded (texts_where (b.Like false text_column (codes "ab")))
      (Rows ((Text (codes "ab   ") ∷ []) ∷ [])) → ⊥

-- ---- large numbers: A NUMERIC(18,0) is 999999999999999999, B NUMERIC(18,18) is 0.5

abbrev pub large : Value
large = whole 999999999999999999

abbrev pub large_and_half : Database
large_and_half = table_of ((large ∷ Number (pos 500000000000000000) 18 ∷ []) ∷ []) ∷ []

abbrev pub large_column : ValueExpr
large_column = b.Column (record { table = 0; number = 0 }) (Numeric 18 0)

abbrev pub half_column : ValueExpr
half_column = b.Column (record { table = 0; number = 1 }) (Numeric 18 18)

-- SELECT A*A FROM T WHERE A > B
abbrev pub squares : Blocks
squares =
    where' (select (item (codes "COL1") (times' large_column large_column) ∷ []) (0 ∷
    [])) (b.Compare s.GreaterThan large_column half_column) ∷ []

-- SELECT A*A*A FROM T
abbrev pub cubes : Blocks
cubes =
    select (item (codes "COL1")
    (b.Chain large_column (b.Operand b.Times large_column (b.Operand b.Times large_column b.NoOperand))) ∷ []) (0 ∷
    []) ∷ []

pub record LargeNumbers : Type 0 where
  pub square_is_exact : answer large_and_half squares ≡ Is ((whole 999999999999999998000000000000000001 ∷ []) ∷ [])
  pub square_shown : shown (names_of squares) (Rows ((whole 999999999999999998000000000000000001 ∷ []) ∷ []))
      ≡ codes "COL1\n999999999999999998000000000000000001\n1 rows\n"
  pub cube_raises : answer large_and_half cubes ≡ raised a.OutOfRange
  pub cube_raises_no_other : AllowedOf large_and_half cubes (Exception a.DivisionByZero) → ⊥
  pub exception_shown : shown [] (Exception a.OutOfRange) ≡ codes "exception 22003\n"

-- ---- SUM(A*A*C), A as above and C being 99, 99 and -99: the sum is judged at its end

abbrev pub minus_99 : Value
minus_99 = Number (neg_ℤ (pos 99)) 0

abbrev pub sum_of_products : Blocks
sum_of_products =
    record (select (item (codes "COL1") (number_of 0 0) ∷ []) (0 ∷ [])) {
      functions =
          b.OfValues s.Sum false (b.Chain large_column
          (b.Operand b.Times large_column (b.Operand b.Times (integer 0 1) b.NoOperand))) ∷ [];
    } ∷ []

abbrev pub three_products : Database
three_products = table_of ((large ∷ whole 99 ∷ []) ∷ (large ∷ whole 99 ∷ []) ∷ (large ∷ minus_99 ∷ []) ∷ []) ∷ []

abbrev pub two_products : Database
two_products = table_of ((large ∷ whole 99 ∷ []) ∷ (large ∷ whole 99 ∷ []) ∷ []) ∷ []

pub record LongSums : Type 0 where
  pub sum_is_judged_at_its_end : answer three_products sum_of_products
      ≡ Is ((whole 98999999999999999802000000000000000099 ∷ []) ∷ [])
  -- once for the function, once for the result column that shows it
  pub too_great_a_sum_raises : answer two_products sum_of_products ≡ Raises a.OutOfRange (a.OutOfRange ∷ [])
  pub sum_does_not_raise_midway : AllowedOf three_products sum_of_products (Exception a.OutOfRange) → ⊥

-- ---- subqueries: T (X) is 1, U (V) is 1 and 2

abbrev pub t_and_u : Database
t_and_u = table_of ((whole 1 ∷ []) ∷ []) ∷ table_of ((whole 1 ∷ []) ∷ (whole 2 ∷ []) ∷ []) ∷ []

-- SELECT X FROM T WHERE .., with an inner block
abbrev pub x_where : Condition → Block → Blocks
x_where c inner = where' (select (item (codes "X") (integer 0 0) ∷ []) (0 ∷ [])) c ∷ inner ∷ []

-- SELECT V FROM U
abbrev pub v_of_u : Block
v_of_u = select (item (codes "V") (integer 0 0) ∷ []) (1 ∷ [])

-- EXISTS (SELECT * FROM U WHERE V = X)
abbrev pub correlated : Block
correlated = where' v_of_u (b.Compare s.Equals (integer 0 0) (b.Parameter 0 (record { table = 0; number = 0 }) Integer))

-- EXISTS (SELECT 1/0 FROM U) raises where U has a row
abbrev pub one_over_zero : Block
one_over_zero = select (item (codes "COL1") (over' (numeral 1) (numeral 0)) ∷ []) (1 ∷ [])

pub record Subqueries : Type 0 where
  pub subquery_of_two_rows_raises : answer t_and_u
      (x_where (b.Compare s.Equals (integer 0 0) (b.Subquery 1 (NumberType 0))) v_of_u) ≡ raised a.Cardinality
  pub subquery_of_no_row_is_null : answer t_and_u
      (x_where (b.Compare s.Equals (integer 0 0) (b.Subquery 1 (NumberType 0)))
      (where' v_of_u (b.Compare s.GreaterThan (integer 0 0) (numeral 5)))) ≡ Is []
  pub exists_of_a_row : answer t_and_u (x_where (b.Exists 1) correlated) ≡ Is ((whole 1 ∷ []) ∷ [])
  pub exists_raises_what_its_rows_do : answer t_and_u (x_where (b.Exists 1) one_over_zero)
      ≡ Raises a.DivisionByZero (a.DivisionByZero ∷ [])
  pub exists_of_no_row_is_false : answer (table_of ((whole 1 ∷ []) ∷ []) ∷ table_of [] ∷
      []) (x_where (b.Exists 1) one_over_zero) ≡ Is []
  pub two_rows_are_not_one_value : AllowedOf t_and_u
      (x_where (b.Compare s.Equals (integer 0 0) (b.Subquery 1 (NumberType 0))) v_of_u) (Rows ((whole 1 ∷ []) ∷ [])) → ⊥

-- ---- T1 (X, P): 1, 10; NULL, 20; 1, 30. T2 (Y, Q): 1, 5; NULL, 6

abbrev pub t1_and_t2 : Database
t1_and_t2 =
    table_of ((whole 1 ∷ whole 10 ∷ []) ∷ (Null ∷ whole 20 ∷ []) ∷ (whole 1 ∷ whole 30 ∷ []) ∷ [])
    ∷ table_of ((whole 1 ∷ whole 5 ∷ []) ∷ (Null ∷ whole 6 ∷ []) ∷ [])
    ∷ []

-- SELECT P, Q FROM T1, T2 WHERE X = Y ORDER BY P DESC
abbrev pub joined : Blocks
joined =
    record (where' (select (item (codes "P") (integer 0 1) ∷ item (codes "Q") (integer 1 1) ∷ []) (0 ∷ 1 ∷
    [])) (b.Compare s.Equals (integer 0 0) (integer 1 0))) {
      order = record { item = 0; descending = true } ∷ [];
    } ∷ []

-- SELECT X, COUNT(*), AVG(P) FROM T1 GROUP BY X ORDER BY X
abbrev pub grouped : Blocks
grouped =
    record (select (item (codes "X") (integer 0 0) ∷ item (codes "COL2") (number_of 0 0) ∷
    item (codes "COL3") (number_of 1 6) ∷ []) (0 ∷ [])) {
      groups = record { table = 0; number = 0 } ∷ [];
      functions = b.CountRows ∷ b.OfValues s.Avg false (integer 0 1) ∷ [];
      order = record { item = 0; descending = false } ∷ [];
    } ∷ []

abbrev pub twenty : Value
twenty = Number (pos 20000000) 6

pub record JoinsAndGroups : Type 0 where
  pub nulls_do_not_join : answer t1_and_t2 joined ≡ Is ((whole 10 ∷ whole 5 ∷ []) ∷ (whole 30 ∷ whole 5 ∷ []) ∷ [])
  pub joined_in_order : AllowedOf t1_and_t2 joined (Rows ((whole 30 ∷ whole 5 ∷ []) ∷ (whole 10 ∷ whole 5 ∷ []) ∷ []))
  pub joined_out_of_order : AllowedOf t1_and_t2 joined (Rows ((whole 10 ∷ whole 5 ∷ []) ∷ (whole 30 ∷ whole 5 ∷ []) ∷
      [])) → ⊥
  pub joined_shown : shown (names_of joined) (Rows ((whole 30 ∷ whole 5 ∷ []) ∷ (whole 10 ∷ whole 5 ∷ []) ∷ []))
      ≡ codes "P|Q\n30|5\n10|5\n2 rows\n"
  -- the nulls are one group, and stand first
  pub nulls_are_one_group : AllowedOf t1_and_t2 grouped (Rows ((Null ∷ whole 1 ∷ twenty ∷ []) ∷
      (whole 1 ∷ whole 2 ∷ twenty ∷ []) ∷ []))
  pub nulls_are_not_left_out : AllowedOf t1_and_t2 grouped (Rows ((whole 1 ∷ whole 2 ∷ twenty ∷ []) ∷ [])) → ⊥
  pub groups_shown : shown (names_of grouped) (Rows ((Null ∷ whole 1 ∷ twenty ∷ []) ∷
      (whole 1 ∷ whole 2 ∷ twenty ∷ []) ∷ [])) ≡ codes "X|COL2|COL3\nNULL|1|20.000000\n1|2|20.000000\n2 rows\n"

-- ---- more of the rules

-- T (A, B): 6, 0. SELECT A FROM T WHERE A/3 > 9 AND A/B > 2: the second conjunct raises, though the first is false on
-- the row
abbrev pub late_and_late : Blocks
late_and_late =
    where' (select (item (codes "A") (integer 0 0) ∷ []) (0 ∷
    [])) (both (b.Compare s.GreaterThan (over' (integer 0 0) (numeral 3)) (numeral 9))
    (b.Compare s.GreaterThan (over' (integer 0 0) (integer 0 1)) (numeral 2))) ∷ []

-- T (A, B): 1, 0 and 999999999999999999, 1. SELECT A, 1/B, A*A*A: each row's exceptions may be told
abbrev pub two_exceptions : Blocks
two_exceptions =
    select (item (codes "COL1") (over' (numeral 1) (integer 0 1)) ∷
    item (codes "COL2") (b.Chain (integer 0 0)
    (b.Operand b.Times (integer 0 0) (b.Operand b.Times (integer 0 0) b.NoOperand))) ∷ []) (0 ∷ []) ∷ []

-- T (A NUMERIC(2,1)) is 1.0, 1.0, NULL, 2.0: COUNT(A), COUNT(DISTINCT A), SUM(DISTINCT A), AVG(A), MIN(A), MAX(A)
abbrev pub tenths : ℕ → Value
tenths n = Number (pos n) 1

abbrev pub functions_of_tenths : Blocks
functions_of_tenths =
    let tenth : ValueExpr = b.Column (record { table = 0; number = 0 }) (Numeric 2 1) in
    record (select (item [] (number_of 0 0) ∷ item [] (number_of 1 0) ∷ item [] (number_of 2 1) ∷
    item [] (number_of 3 6) ∷ item [] (number_of 4 1) ∷ item [] (number_of 5 1) ∷ []) (0 ∷ [])) {
      functions =
          b.OfValues s.Count false tenth ∷ b.OfValues s.Count true tenth ∷ b.OfValues s.Sum true tenth ∷
          b.OfValues s.Avg false tenth ∷ b.OfValues s.Min false tenth ∷ b.OfValues s.Max false tenth ∷ [];
    } ∷ []

-- T (A, B): 1, 0 and 2, 5. SELECT A, SUM(10/B) FROM T GROUP BY A HAVING A > 1: set functions are evaluated on every
-- group
abbrev pub grouped_having : ValueExpr → List b.Aggregate → Blocks
grouped_having shown_value functions =
    record (select (item [] shown_value ∷ []) (0 ∷ [])) {
      groups = record { table = 0; number = 0 } ∷ [];
      having = Some (b.Compare s.GreaterThan (integer 0 0) (numeral 1));
      functions = functions;
    } ∷ []

-- X > ALL (SELECT V FROM U WHERE V > 5) is true, as there is no such row; = ANY of it is false
abbrev pub none_of_u : Block
none_of_u = where' v_of_u (b.Compare s.GreaterThan (integer 0 0) (numeral 5))

pub record FurtherRules : Type 0 where
  pub late_conjuncts_do_not_guard : answer (table_of ((whole 6 ∷ whole 0 ∷ []) ∷ []) ∷ []) late_and_late
      ≡ raised a.DivisionByZero
  pub either_exception : answer (table_of ((whole 1 ∷ whole 0 ∷ []) ∷ (large ∷ whole 1 ∷ []) ∷ []) ∷ []) two_exceptions
      ≡ Raises a.DivisionByZero (a.OutOfRange ∷ [])
  pub set_functions_leave_nulls_out : answer (table_of ((tenths 10 ∷ []) ∷ (tenths 10 ∷ []) ∷ (Null ∷ []) ∷
      (tenths 20 ∷ []) ∷ []) ∷ []) functions_of_tenths
      ≡ Is ((whole 3 ∷ whole 2 ∷ tenths 30 ∷ Number (pos 1333333) 6 ∷ tenths 10 ∷ tenths 20 ∷ []) ∷ [])
  -- X + 1 - 2 associates to the left, and can raise only where it has more than 38 digits
  pub small_sum_cannot_raise : can_raise
      (b.Chain (integer 0 0) (b.Operand b.Plus (numeral 1) (b.Operand b.Minus (numeral 2) b.NoOperand))) ≡ false
  pub cube_can_raise : can_raise
      (b.Chain large_column (b.Operand b.Times large_column (b.Operand b.Times large_column b.NoOperand))) ≡ true
  pub functions_of_every_group : answer (table_of ((whole 1 ∷ whole 0 ∷ []) ∷ (whole 2 ∷ whole 5 ∷ []) ∷ []) ∷
      []) (grouped_having (number_of 0 6) (b.OfValues s.Sum false (over' (b.Numeral 10 2 0) (integer 0 1)) ∷ []))
      ≡ raised a.DivisionByZero
  -- T (A): 0 and 2. SELECT 10/A FROM T GROUP BY A HAVING A > 1: result columns only where HAVING is true
  pub columns_where_having_is_true : answer (table_of ((whole 0 ∷ []) ∷ (whole 2 ∷ []) ∷ []) ∷
      []) (grouped_having (over' (b.Numeral 10 2 0) (integer 0 0)) []) ≡ Is ((Number (pos 5000000) 6 ∷ []) ∷ [])
  -- SELECT DISTINCT X of 1, NULL, NULL and 1
  pub nulls_are_not_distinct : answer (table_of ((whole 1 ∷ []) ∷ (Null ∷ []) ∷ (Null ∷ []) ∷ (whole 1 ∷ []) ∷ []) ∷
      []) (record (select (item (codes "X") (integer 0 0) ∷ []) (0 ∷ [])) { distinct = true } ∷ [])
      ≡ Is ((whole 1 ∷ []) ∷ (Null ∷ []) ∷ [])
  pub all_of_no_row : answer t_and_u (x_where (b.Quantified s.GreaterThan s.All (integer 0 0) 1) none_of_u)
      ≡ Is ((whole 1 ∷ []) ∷ [])
  pub any_of_no_row : answer t_and_u (x_where (b.Quantified s.Equals s.Any (integer 0 0) 1) none_of_u) ≡ Is []
  -- quotients are cut towards zero
  pub quotient_is_cut : over (Number (neg_ℤ (pos 2)) 0) (whole 3) ≡ Is (Number (neg_ℤ (pos 666666)) 6)
  -- null divided by zero is null, and a zero divisor is told before a numerator that is too great
  pub null_over_zero : over Null (whole 0) ≡ Is Null
  pub zero_divisor_first : over (whole (10 ^ 37)) (whole 0) ≡ raised a.DivisionByZero
  pub numerator_too_great : over (whole (10 ^ 37)) (whole 1) ≡ raised a.OutOfRange
  -- an operand that doesn't fit at the scale of the sum
  pub operand_too_great : plus (whole (10 ^ 37)) (Number (pos 1) 2) ≡ raised a.OutOfRange
  -- "_" stands for one character, "%" for any run
  pub blanks_fit_underscores : answer padded (texts_where (b.Like false text_column (codes "a____")))
      ≡ Is ((Text (codes "ab   ") ∷ []) ∷ [])
  pub too_few_underscores : answer padded (texts_where (b.Like false text_column (codes "a_"))) ≡ Is []

-- ---- more of the printed text

pub record FurtherTexts : Type 0 where
  pub guarded_shown : shown (names_of guarded) (Rows ((whole 6 ∷ []) ∷ [])) ≡ codes "A\n6\n1 rows\n"
  pub division_shown : shown (names_of unguarded) (Exception a.DivisionByZero) ≡ codes "exception 22012\n"
  pub not_in_shown : shown (names_of (in_one_null true)) (Rows []) ≡ codes "X\n0 rows\n"
  pub in_shown : shown (names_of (in_one_null false)) (Rows ((whole 1 ∷ []) ∷ [])) ≡ codes "X\n1\n1 rows\n"
  pub sum_shown : shown (names_of sum_of_products) (Rows ((whole 98999999999999999802000000000000000099 ∷ []) ∷ []))
      ≡ codes "COL1\n98999999999999999802000000000000000099\n1 rows\n"
  pub cardinality_shown : shown (names_of (x_where (b.Exists 1) v_of_u)) (Exception a.Cardinality)
      ≡ codes "exception 21000\n"
  pub exists_shown : shown (names_of (x_where (b.Exists 1) correlated)) (Rows ((whole 1 ∷ []) ∷ []))
      ≡ codes "X\n1\n1 rows\n"
