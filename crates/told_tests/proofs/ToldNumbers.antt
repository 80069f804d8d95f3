use Rattle.std.proofs.Common.{◌≡◌, ◌∙◌, refl, sym, ap, ap₂, subst, ℕ, ◌-◌, ◌^◌, ◌<◌, ◌≤◌, List, [], ◌∷◌, ◌++◌, Bool, true, false, length, map, get_or, arith, inl, inr}
use Rattle.std.specs.Prelude.{ℤ, pos, ◌*ℤ◌, ◌&&◌, IfSome, Option, None, Some, option_map, slice_get, Ok, Err, Result}
use Rattle.std.specs.Ordering.{int_cmp}
use Rattle.definitions.specs.Arithmetic.{Is, Raise}
use Rattle.definitions.specs.Statement.{ComparisonOperator, Equals}
use Rattle.definitions.specs.Truth.{agrees, compared, compared_with_any, is_true, known, or, unless, Unknown}
use Rattle.definitions.specs.Value.{number_cmp, scale_of, Null, Number, SqlType, Value}
use Rattle.definitions.specs.Table.{Row}
use Rattle.definitions.specs.ValueType.{ValueType}
use Rattle.definitions.specs.Plans.Order as order
use Rattle.definitions.specs.Estimates.Paths.{turned, ByBounds, ByComparison, ColumnTerm}
use Rattle.predicates.specs.Membership as spec
use Rattle.predicates.specs.Membership.{column_membership}
use Rattle.predicates.specs.Terms.{first_of, listed, side_term, terms_of, SidedTerm}
use Rattle.predicates.specs.Views.{membership_of}
use Rattle.predicates.specs.declared.membership.Membership.{Membership}
use Rattle.told_tests.proofs.Turned.{compared_turned}
use Rattle.definitions.specs.Queries.BoundBlock.{Between, Column, Compare, Condition, InQuery, Subquery, ValueExpr}
use Rattle.definitions.specs.Queries.Combinations.{at, is_surely_true, raises_of}
use Rattle.definitions.specs.Queries.Evaluation.{and_then, cell, column_values, on_one, on_two, only_value, truth, Environment}
use Rattle.definitions.specs.Queries.Telling.{MayAnswer}
use Rattle.definitions_answers.specs.Told.{meaning_told, told_environment}
use Rattle.definitions_execution.proofs.BlockFits.{row_of}
use Rattle.std.proofs.lemmas.List.{get_or-map}
use Rattle.std.proofs.lemmas.Option.{slice_get-get_or}
use Rattle.std.proofs.lemmas.Bool.{ltb-true}
use Rattle.std.proofs.Math.Dec.{ltb}
use Rattle.definitions_execution.specs.OfBlock.{combination_of, rows_in}
use Rattle.definitions_execution.specs.Stored.{row_number, Composite}
use Rattle.definitions.specs.Queries.Evaluation.{Combination}
use Rattle.sqlvalue.specs.Meaning.{number_of, op_of}
use Rattle.sqlvalue.specs.declared.number.Num.{Num}
use Rattle.sqlvalue.specs.declared.op.ComparisonOperator as code
use Rattle.query_tree.specs.Bound.{column_of}
use Rattle.query_tree.specs.declared.leaf.BlockColumn.{BlockColumn}
use Rattle.told_tests.proofs.Scales.{common_scale}
use Rattle.filters.specs.Sources.{block_in, context_in, BlockSource}
use Rattle.subqueries.specs.Keeping.{told_by}
use Rattle.subqueries.specs.declared.kept_results.KeptResults.{KeptResults}
use Rattle.told_tests.specs.LateTests.{are_true_at, raised_at}
use Rattle.told_tests.specs.ToldTests.{is_unless, passes, ComparesWith, IsTestOf, IsTestOfAll, IsTestedAs, ListsValues}
use Rattle.told_tests.specs.declared.told_test.ToldTest.{ToldTest}

-- ---- what was told

first_values : (values : List Value) → values ≡ column_values (map (λ v. v ∷ []) values)
first_values [] = refl
first_values (v ∷ vs) = ap (λ l. v ∷ l) (first_values vs)

pub told_is : (told : Result (List Value) Raise) (values : List Value) → MayAnswer (on_one column_values (meaning_told told)) (Ok values) → told ≡ Ok values
told_is (Ok own) values h = ap Ok (first_values own ∙ sym h)
told_is (Err e) values h = absurd h

pub alone : {X : Type 0} (xs : List X) (x : X) → 1 ≤ length xs → length xs < 2 → x ≡ get_or xs 0 x → xs ≡ x ∷ []
alone [] x some few is = absurd (omega (arith, some))
alone (y ∷ []) x some few is = ap (λ z. z ∷ []) (sym is)
alone (y ∷ z ∷ zs) x some few is = absurd (omega (arith, few))

pub got_at : {X : Type 0} (xs : List X) (i : ℕ) (x : X) → true ≡ ltb i (length xs) → x ≡ get_or xs i x → slice_get xs i ≡ Some x
got_at xs i x inside is = slice_get-get_or xs i x (ltb-true i (length xs) (sym inside)) ∙ ap Some (sym is)

pub unless_known : (negated b : Bool) → unless negated (known b) ≡ known (is_unless negated b)
unless_known true true = refl
unless_known true false = refl
unless_known false b = refl

still_unknown : (negated : Bool) → unless negated Unknown ≡ Unknown
still_unknown true = refl
still_unknown false = refl

all_unknown : (value : Value) (values : List Value) → compared_with_any Equals Null (value ∷ values) ≡ Unknown
all_unknown value [] = refl
all_unknown value (v ∷ vs) = ap (or Unknown) (all_unknown v vs)

pub unknown_in_list : {X : Type 0} (f : X → Value) (xs : List X) → 0 < length xs → compared_with_any Equals Null (map f xs) ≡ Unknown
unknown_in_list f [] some = absurd (omega (arith, some))
unknown_in_list f (x ∷ xs) some = all_unknown (f x) (map f xs)

-- ---- the test of a comparison

pub compares_at : (op : ComparisonOperator) (factor units own : ℤ) (m n : ℕ) → factor ≡ pos (10 ^ (n - m)) → units ≡ own *ℤ pos (10 ^ (m - n))
    → (unit : ℤ) → agrees op (int_cmp (unit *ℤ factor) units) ≡ agrees op (number_cmp unit m own n)
compares_at op factor units own m n f u unit = ap (agrees op) (ap₂ (λ x y. int_cmp (unit *ℤ x) y) f u ∙ common_scale unit own m n)

-- what is said first of a column
abbrev pub said : List SidedTerm → Option (order.BlockColumn × ColumnTerm)
said terms = option_map (λ (sided : SidedTerm). (sided.column, sided.term)) (first_of terms)

module _ (told : ℕ → Result (List Value) Raise) (block : ℕ) where
  -- a condition compares what is in the test's column with a number
  abbrev Means : Condition → ToldTest → (code.ComparisonOperator × Num) → Type 0
  Means condition test asked = (env : Environment) → truth (told_environment env told) condition ≡ Is (compared (op_of asked.0) (cell env.combination (column_of test.column)) (number_of asked.1))

  compare_means : (type : ValueType) (env : Environment) (op : ComparisonOperator) (column : order.BlockColumn) (own : SqlType) (v : Value) → told block ≡ Ok (v ∷ [])
      → truth (told_environment env told) (Compare op (Column column own) (Subquery block type)) ≡ Is (compared op (cell env.combination column) v)
  compare_means type env op column own v e = ap (λ (r : Result (List Value) Raise). on_two (compared op) (Is (cell env.combination column)) (and_then only_value (meaning_told r))) e

  turned_means : (type : ValueType) (env : Environment) (op : ComparisonOperator) (column : order.BlockColumn) (own : SqlType) (v : Value) → told block ≡ Ok (v ∷ [])
      → truth (told_environment env told) (Compare op (Subquery block type) (Column column own)) ≡ Is (compared (turned op) (cell env.combination column) v)
  turned_means type env op column own v e =
      ap (λ (r : Result (List Value) Raise). on_two (compared op) (and_then only_value (meaning_told r)) (Is (cell env.combination column))) e
      ∙ ap Is (sym (compared_turned op (cell env.combination column) v))

  -- a condition that says of a column that it compares with a subquery is as true as the comparison with what that gave
  pub as_it_says : (type : ValueType) (op : ComparisonOperator) (column : order.BlockColumn) (v : Value) → told block ≡ Ok (v ∷ [])
      → (condition : Condition) → said (terms_of condition) ≡ Some (column, ByComparison op (Subquery block type))
      → (env : Environment) → truth (told_environment env told) condition ≡ Is (compared op (cell env.combination column) v)
  as_it_says type op column v e (Compare own (Column c t) b) h env =
      let own_pair : order.BlockColumn × ColumnTerm = (c, ByComparison own b) in
      let asked : order.BlockColumn × ColumnTerm = (column, ByComparison op (Subquery block type)) in
      let pairs : own_pair ≡ asked = cc in
      let columns : c ≡ column = ap (λ p. p.0) pairs in
      let terms : ByComparison own b ≡ ByComparison op (Subquery block type) = ap (λ p. p.1) pairs in
      let ops : own ≡ op = cc in
      let others : b ≡ Subquery block type = cc in
      ap₂ (λ o x. truth (told_environment env told) (Compare o (Column x t) b)) ops columns
      ∙ ap (λ y. truth (told_environment env told) (Compare op (Column column t) y)) others ∙ compare_means type env op column t v e
  as_it_says type op column v e (Compare own a (Column c t)) h env =
      let own_pair : order.BlockColumn × ColumnTerm = (c, ByComparison (turned own) a) in
      let asked : order.BlockColumn × ColumnTerm = (column, ByComparison op (Subquery block type)) in
      let pairs : own_pair ≡ asked = cc in
      let columns : c ≡ column = ap (λ p. p.0) pairs in
      let terms : ByComparison (turned own) a ≡ ByComparison op (Subquery block type) = ap (λ p. p.1) pairs in
      let ops : turned own ≡ op = cc in
      let others : a ≡ Subquery block type = cc in
      ap₂ (λ x y. truth (told_environment env told) (Compare own x (Column y t))) others columns ∙ turned_means type env own column t v e
      ∙ ap (λ o. Is (compared o (cell env.combination column) v)) ops
  as_it_says type op column v e (Between false a low high) h env = absurd (by_bounds a low high h)
    where
      by_bounds : (a low high : ValueExpr) → said (listed (side_term a (ByBounds low high))) ≡ Some (column, ByComparison op (Subquery block type)) → ⊥
      by_bounds (Column c t) low high h =
          let own_pair : order.BlockColumn × ColumnTerm = (c, ByBounds low high) in
          let asked : order.BlockColumn × ColumnTerm = (column, ByComparison op (Subquery block type)) in
          let pairs : own_pair ≡ asked = cc in
          let terms : ByBounds low high ≡ ByComparison op (Subquery block type) = ap (λ p. p.1) pairs in
          cc
      by_bounds _ low high h = cc
  as_it_says type op column v e _ h env = cc

  pub is_test : (test : ToldTest) (column : BlockColumn) (digits : ℕ) (op : code.ComparisonOperator) (number : Num) (condition : Condition)
      → ((env : Environment) → truth (told_environment env told) condition ≡ Is (compared (op_of op) (cell env.combination (column_of column)) (number_of number))) → ComparesWith column digits op number test
      → IsTestOf told test condition
  is_test test column digits op number condition means h = record {
    number = λ env unit there.
        let value_is : cell env.combination (column_of column) ≡ Number unit digits = ap (λ c. cell env.combination (column_of c)) (sym h.column) ∙ there ∙ ap (Number unit) h.scale in
        means env ∙ ap (λ v. Is (compared (op_of op) v (number_of number))) value_is
        ∙ ap (λ b. Is (known b)) (sym (h.compares unit));
    null = λ env there.
        let value_is : cell env.combination (column_of column) ≡ Null = ap (λ c. cell env.combination (column_of c)) (sym h.column) ∙ there in
        means env ∙ ap (λ v. Is (compared (op_of op) v (number_of number))) value_is;
    compares = subst (λ asked. IfSome asked (Means condition test)) (sym h.comparison)
        (λ env. means env ∙ ap (λ c. Is (compared (op_of op) (cell env.combination (column_of c)) (number_of number))) (sym h.column));
  }

  in_means : (env : Environment) (negated : Bool) (column : order.BlockColumn) (own : SqlType) (values : List Value) → told block ≡ Ok values
      → truth (told_environment env told) (InQuery negated (Column column own) block) ≡ Is (unless negated (compared_with_any Equals (cell env.combination column) values))
  in_means env negated column own values e =
      ap (λ (r : Result (List Value) Raise). on_one (unless negated) (on_two (compared_with_any Equals) (Is (cell env.combination column)) (on_one column_values (meaning_told r)))) e
      ∙ ap (λ vs. Is (unless negated (compared_with_any Equals (cell env.combination column) vs))) (sym (first_values values))

  in_query_test : (test : ToldTest) (column : BlockColumn) (own : SqlType) (digits : ℕ) (negated : Bool) (values : List Value) → told block ≡ Ok values → ListsValues column digits negated values test
      → IsTestOf told test (InQuery negated (Column (column_of column) own) block)
  in_query_test test column own digits negated values e h = record {
    number = λ env unit there.
        let value_is : cell env.combination (column_of column) ≡ Number unit digits = ap (λ c. cell env.combination (column_of c)) (sym h.column) ∙ there ∙ ap (Number unit) h.scale in
        in_means env negated (column_of column) own values e ∙ ap (λ v. Is (unless negated (compared_with_any Equals v values))) value_is ∙ ap Is (h.lists unit);
    null = λ env there.
        let value_is : cell env.combination (column_of column) ≡ Null = ap (λ c. cell env.combination (column_of c)) (sym h.column) ∙ there in
        in_means env negated (column_of column) own values e ∙ ap (λ v. Is (unless negated (compared_with_any Equals v values))) value_is ∙ ap (λ t. Is (unless negated t)) h.null
        ∙ ap Is (still_unknown negated);
    compares = subst (λ asked. IfSome asked (Means (InQuery negated (Column (column_of column) own) block) test)) (sym h.comparison) tt;
  }

-- a condition that is IN or NOT IN of a column and a subquery is as true as that of what the subquery gave
pub is_list_test : (told : ℕ → Result (List Value) Raise) (test : ToldTest) (asked : Membership) (values : List Value) → told asked.block ≡ Ok values → ListsValues asked.column asked.scale asked.negated values test
    → (condition : Condition) → Some (membership_of asked) ≡ column_membership condition → IsTestOf told test condition
is_list_test told test asked values e h (InQuery negated (Column column type) block) is =
    let own : spec.Membership = record { column = column; scale = scale_of type; negated = negated; block = block } in
    let same : membership_of asked ≡ own = cc in
    subst (IsTestOf told test) (ap (λ (m : spec.Membership). InQuery m.negated (Column m.column type) m.block) same)
    (in_query_test told asked.block test asked.column type asked.scale asked.negated values e h)
is_list_test told test asked values e h _ is = cc

-- ---- the value in a composite's column

pub value_at_place : (source : BlockSource) (column : order.BlockColumn) (items : List Composite) (place : ℕ) → place < length items → (rows : List ℕ) → rows ≡ map (λ composite. row_number composite column.table) items
    → (own : Value) → own ≡ get_or (get_or (rows_in source.database (block_in source) column.table) (get_or rows place 0) []) column.number Null
    → cell (combination_of source.database (block_in source) (get_or items place [])) column ≡ own
value_at_place source column items place within rows are own there =
    let table = λ (composite : Composite). row_number composite column.table in
    let row_is : get_or rows place 0 ≡ row_number (get_or items place []) column.table = ap (λ rs. get_or rs place 0) are ∙ get_or-map table items place [] 0 within in
    ap (λ (r : Row). get_or r column.number Null) (row_of source.database (block_in source) (get_or items place []) column.table)
    ∙ ap (λ n. get_or (get_or (rows_in source.database (block_in source) column.table) n []) column.number Null) (sym row_is) ∙ sym there

pub if_some : {X : Type 0} (P Q : X → Type 0) (found : Option X) → ((x : X) → P x → Q x) → IfSome found P → IfSome found Q
if_some P Q None h p = tt
if_some P Q (Some x) h p = h x p

-- ---- what it tells of a composite

only_known : (passed : Bool) → is_true (known passed) ≡ passed
only_known true = refl
only_known false = refl

pub only_one : (passed : Bool) → passed ≡ passed && true
only_one true = refl
only_one false = refl

module _ (source : BlockSource) (outer : List Combination) (results : List KeptResults) (composite : Composite) (test : ToldTest) (passed : Bool) (tested : IsTestedAs source composite test passed) where
  abbrev here : Environment
  here = at (context_in source outer) (combination_of source.database (block_in source) composite)

  abbrev env : Environment
  env = told_environment here (told_by results)

  means : (condition : Condition) → IsTestOf (told_by results) test condition → (is_surely_true (truth env condition) ≡ passed) × (raises_of (truth env condition) ≡ [])
  means condition h = by_value tested
    where
      by_value : IsTestedAs source composite test passed → (is_surely_true (truth env condition) ≡ passed) × (raises_of (truth env condition) ≡ [])
      by_value (inl (unit, there, is)) = let m = h.number here unit there in (ap is_surely_true m ∙ only_known (passes test unit) ∙ sym is, ap raises_of m)
      by_value (inr (there, is)) = let m = h.null here there in (ap is_surely_true m ∙ sym is, ap raises_of m)

  pub tested_truth : (conditions : List Condition) → IsTestOfAll (told_by results) test conditions → passed ≡ are_true_at source outer results conditions composite
  tested_truth [] h = absurd h
  tested_truth (condition ∷ []) h = only_one passed ∙ ap (λ b. b && true) (sym (means condition h).0)
  tested_truth (condition ∷ other ∷ others) h = absurd h

  pub tested_quiet : (conditions : List Condition) → IsTestOfAll (told_by results) test conditions → raised_at source outer results conditions composite ≡ []
  tested_quiet [] h = absurd h
  tested_quiet (condition ∷ []) h = ap (λ rs. rs ++ []) (means condition h).1
  tested_quiet (condition ∷ other ∷ others) h = absurd h
