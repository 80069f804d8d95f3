-- A matching scan opens a part of the run by the values of its conjuncts' other sides.
use Rattle.std.proofs.Common.{sym, ap, ap₂, ◌∙◌, ◌≡◌, ℕ, List, [], ◌∷◌, ◌++◌, append-nil, reverse, set, map, filter, Bool, true, false, ◌&&◌, not, cond, Option, Some, None, is_some, refl, true≢false}
use mathlib.Core.List.{reverse-cons}
use Rattle.std.specs.Prelude.{option_map, unwrap_or}
use Rattle.std.specs.Ordering.{ordering_reverse, is_eq, is_lt, is_gt, is_le, is_ge}
use Rattle.std.specs.declared.cmp.Ordering.{Ordering}
use Rattle.std.specs.declared.cmp.Ordering.TheVariants.{Less, Equal, Greater}
use Rattle.definitions.specs.Value.{Value, Null, Number, Text, compare, is_null}
use Rattle.definitions.specs.Statement.{ComparisonOperator, Equals, NotEquals, LessThan, GreaterThan, LessOrEquals, GreaterOrEquals}
use Rattle.definitions.specs.Table.{Row}
use Rattle.definitions.specs.Key.{Key}
use Rattle.definitions.specs.IndexRun.{Entry, Limit, is_true_of, begins_with, lies_in, entry_rows}
use Rattle.definitions.specs.Plans.Path.{MatchingScan}
use Rattle.definitions.specs.Arithmetic.{Is}
use Rattle.definitions.specs.Truth.{Truth, and, agrees, known, known_or_unknown, is_true, compared}
use Rattle.definitions.specs.Queries.BoundBlock.{Block}
use Rattle.definitions.specs.Queries.Evaluation.{cell, on_one, on_two}
use Rattle.definitions.specs.Truth.{unless}
use Rattle.definitions.specs.Queries.Combinations.{Context, is_surely_true}
use Rattle.definitions_execution.specs.Stored.{Composite, in_direction}
use Rattle.definitions_execution.specs.Running.{run}
use Rattle.std.specs.List.{list_all}
use Rattle.definitions_execution.specs.OfBlock.{rows_in, index_run, stored_of}
use Rattle.definitions_execution.specs.IndexRows.{run_of, keys_in}
use Rattle.definitions.specs.Estimates.BlockTables.{index_columns}
use Rattle.definitions.specs.Estimates.Paths.{turned}
use Rattle.definitions_execution.specs.Asking.{ScanKey, EqualTo, InRange, meets, asked_by, ComparisonAsks, TurnedComparisonAsks, BetweenAsks}
use Rattle.definitions_execution.specs.Matching.{AskInTurn, MatchIsEqualPart, MatchIsRangePart}
use Rattle.definitions_execution.proofs.KeyOrder.{key_at, entry_at, rows_by_key, run_is, run_rows}
use Rattle.definitions.proofs.Ranking.{rank_total}

-- ---- one conjunct

told : (op : ComparisonOperator) (o : Option Ordering) → is_true (known_or_unknown (option_map (agrees op) o)) ≡ is_true_of (agrees op) o
told op None = refl
told op (Some o) = of_bool (agrees op o)
  where
    of_bool : (b : Bool) → is_true (known b) ≡ b
    of_bool true = refl
    of_bool false = refl

-- where a comparison is true there is no null
no_null : (test : Ordering → Bool) (k v : Value) → (not (is_null k) && is_true_of test (compare k v)) ≡ is_true_of test (compare k v)
no_null test Null v = refl
no_null test (Number u s) v = refl
no_null test (Text t) v = refl

and_true : (a : Bool) → (a && true) ≡ a
and_true true = refl
and_true false = refl

op_asks : (op : ComparisonOperator) (k v : Value) (asked : ScanKey) → asked_by op v ≡ Some asked → is_true (compared op k v) ≡ meets asked k
op_asks Equals k v asked e = told Equals (compare k v) ∙ ap (λ a. meets (unwrap_or a asked) k) e
op_asks NotEquals k v asked e = absurd (true≢false (sym (ap is_some e)))
op_asks LessThan k v asked e = told LessThan (compare k v) ∙ sym (no_null is_lt k v) ∙ ap (λ b. b && is_true_of is_lt (compare k v)) (sym (and_true (not (is_null k)))) ∙ ap (λ a. meets (unwrap_or a asked) k) e
op_asks LessOrEquals k v asked e = told LessOrEquals (compare k v) ∙ sym (no_null is_le k v) ∙ ap (λ b. b && is_true_of is_le (compare k v)) (sym (and_true (not (is_null k)))) ∙ ap (λ a. meets (unwrap_or a asked) k) e
op_asks GreaterThan k v asked e = told GreaterThan (compare k v) ∙ sym (no_null is_gt k v) ∙ sym (and_true (not (is_null k) && is_true_of is_gt (compare k v))) ∙ ap (λ a. meets (unwrap_or a asked) k) e
op_asks GreaterOrEquals k v asked e = told GreaterOrEquals (compare k v) ∙ sym (no_null is_ge k v) ∙ sym (and_true (not (is_null k) && is_true_of is_ge (compare k v))) ∙ ap (λ a. meets (unwrap_or a asked) k) e

compare_turned : (a b : Value) → compare a b ≡ option_map ordering_reverse (compare b a)
compare_turned Null Null = refl
compare_turned Null (Number u s) = refl
compare_turned Null (Text t) = refl
compare_turned (Number u s) Null = refl
compare_turned (Number u s) (Number w r) = ap Some (rank_total.antisymm (Number u s) (Number w r))
compare_turned (Number u s) (Text t) = refl
compare_turned (Text t) Null = refl
compare_turned (Text t) (Number u s) = refl
compare_turned (Text t) (Text t') = ap Some (rank_total.antisymm (Text t) (Text t'))

agrees_turned : (op : ComparisonOperator) (o : Ordering) → agrees op (ordering_reverse o) ≡ agrees (turned op) o
agrees_turned Equals Less = refl
agrees_turned Equals Equal = refl
agrees_turned Equals Greater = refl
agrees_turned NotEquals Less = refl
agrees_turned NotEquals Equal = refl
agrees_turned NotEquals Greater = refl
agrees_turned LessThan Less = refl
agrees_turned LessThan Equal = refl
agrees_turned LessThan Greater = refl
agrees_turned GreaterThan Less = refl
agrees_turned GreaterThan Equal = refl
agrees_turned GreaterThan Greater = refl
agrees_turned LessOrEquals Less = refl
agrees_turned LessOrEquals Equal = refl
agrees_turned LessOrEquals Greater = refl
agrees_turned GreaterOrEquals Less = refl
agrees_turned GreaterOrEquals Equal = refl
agrees_turned GreaterOrEquals Greater = refl

compared_turned : (op : ComparisonOperator) (a b : Value) → compared op a b ≡ compared (turned op) b a
compared_turned op a b = ap (λ o. known_or_unknown (option_map (agrees op) o)) (compare_turned a b) ∙ of_option (compare b a)
  where
    of_option : (o : Option Ordering) → known_or_unknown (option_map (agrees op) (option_map ordering_reverse o)) ≡ known_or_unknown (option_map (agrees (turned op)) o)
    of_option None = refl
    of_option (Some o) = ap known (agrees_turned op o)

pub comparison : ComparisonAsks
comparison context c column type op e v asked h a = ap (λ m. is_surely_true (on_two (compared op) (Is (cell c column)) m)) h ∙ op_asks op (cell c column) v asked a

pub turned_comparison : TurnedComparisonAsks
turned_comparison context c column type op e v asked h a = ap (λ m. is_surely_true (on_two (compared op) m (Is (cell c column)))) h ∙ ap is_true (compared_turned op v (cell c column)) ∙ op_asks (turned op) (cell c column) v asked a

both_true : (a b : Truth) → is_true (and a b) ≡ (is_true a && is_true b)
both_true Rattle.definitions.specs.Truth.False b = refl
both_true Rattle.definitions.specs.Truth.Unknown Rattle.definitions.specs.Truth.False = refl
both_true Rattle.definitions.specs.Truth.Unknown Rattle.definitions.specs.Truth.Unknown = refl
both_true Rattle.definitions.specs.Truth.Unknown Rattle.definitions.specs.Truth.True = refl
both_true Rattle.definitions.specs.Truth.True b = refl

pub between : BetweenAsks
between context c column type e f v w h l =
    let k : Value = cell c column in
    ap₂ (λ m n. is_surely_true (on_one (unless false) (on_two and (on_two (compared GreaterOrEquals) (Is k) m) (on_two (compared LessOrEquals) (Is k) n)))) h l
    ∙ both_true (compared GreaterOrEquals k v) (compared LessOrEquals k w)
    ∙ ap₂ (λ a b. a && b) (told GreaterOrEquals (compare k v) ∙ sym (no_null is_ge k v)) (told LessOrEquals (compare k w))

-- ---- a list of them

abbrev keys_meet : List ScanKey → Key → Bool
keys_meet [] key = true
keys_meet (asked ∷ others) [] = false
keys_meet (asked ∷ others) (k ∷ ks) = meets asked k && keys_meet others ks

equal_values : (values : List Value) (key : Key) → keys_meet (map EqualTo values) key ≡ begins_with values key
equal_values [] key = refl
equal_values (v ∷ vs) [] = refl
equal_values (v ∷ vs) (k ∷ ks) = ap (λ b. is_true_of is_eq (compare k v) && b) (equal_values vs ks)

ranged_values : (values : List Value) (low high : Limit) (key : Key) → keys_meet (map EqualTo values ++ InRange low high ∷ []) key ≡ lies_in values low high key
ranged_values [] low high [] = refl
ranged_values [] low high (k ∷ ks) = and_true (meets (InRange low high) k)
ranged_values (v ∷ vs) low high [] = refl
ranged_values (v ∷ vs) low high (k ∷ ks) = ap (λ b. is_true_of is_eq (compare k v) && b) (ranged_values vs low high ks)

filter_alike : {X : Type 0} → (p r : X → Bool) (xs : List X) → ((x : X) → p x ≡ r x) → filter p xs ≡ filter r xs
filter_alike p r [] h = refl
filter_alike p r (x ∷ xs) h = ap₂ (λ b ys. cond b (x ∷ ys) ys) (h x) (filter_alike p r xs h)

filter_append : {X : Type 0} → (p : X → Bool) (xs ys : List X) → filter p (xs ++ ys) ≡ filter p xs ++ filter p ys
filter_append p [] ys = refl
filter_append {X} p (x ∷ xs) ys = by_test (p x) (filter_append p xs ys)
  where
    by_test : (b : Bool) → filter p (xs ++ ys) ≡ filter p xs ++ filter p ys → cond b (x ∷ filter p (xs ++ ys)) (filter p (xs ++ ys)) ≡ cond b (x ∷ filter p xs) (filter p xs) ++ filter p ys
    by_test true e = ap (λ zs. x ∷ zs) e
    by_test false e = e

filter_reverse : {X : Type 0} → (p : X → Bool) (xs : List X) → filter p (reverse xs) ≡ reverse (filter p xs)
filter_reverse p [] = refl
filter_reverse {X} p (x ∷ xs) = ap (filter p) (reverse-cons x xs) ∙ filter_append p (reverse xs) (x ∷ []) ∙ ap (λ zs. zs ++ filter p (x ∷ [])) (filter_reverse p xs) ∙ by_test (p x)
  where
    by_test : (b : Bool) → reverse (filter p xs) ++ cond b (x ∷ []) [] ≡ reverse (cond b (x ∷ filter p xs) (filter p xs))
    by_test true = sym (reverse-cons x (filter p xs))
    by_test false = append-nil (reverse (filter p xs))

filter_read : (p : ℕ → Bool) (backward : Bool) (xs : List ℕ) → filter p (in_direction backward xs) ≡ in_direction backward (filter p xs)
filter_read p true xs = filter_reverse p xs
filter_read p false xs = refl

-- entries whose keys pass, and the rows whose keys do
entries_pass : (columns : List ℕ) (rows : List Row) (test : Key → Bool) (numbers : List ℕ)
    → entry_rows (filter (λ (e : Entry). test e.key) (map (entry_at columns rows) numbers)) ≡ filter (λ row. test (key_at columns rows row)) numbers
entries_pass columns rows test [] = refl
entries_pass columns rows test (n ∷ ns) = by_test (test (key_at columns rows n)) (entries_pass columns rows test ns)
  where
    by_test : (b : Bool) → entry_rows (filter (λ (e : Entry). test e.key) (map (entry_at columns rows) ns)) ≡ filter (λ row. test (key_at columns rows row)) ns
        → entry_rows (cond b (entry_at columns rows n ∷ filter (λ (e : Entry). test e.key) (map (entry_at columns rows) ns)) (filter (λ (e : Entry). test e.key) (map (entry_at columns rows) ns)))
        ≡ cond b (n ∷ filter (λ row. test (key_at columns rows row)) ns) (filter (λ row. test (key_at columns rows row)) ns)
    by_test true e = ap (λ zs. n ∷ zs) e
    by_test false e = e

run_passes : (columns : List ℕ) (rows : List Row) (test : Key → Bool)
    → filter (λ row. test (key_at columns rows row)) (entry_rows (run_of (keys_in columns rows))) ≡ entry_rows (filter (λ (e : Entry). test e.key) (run_of (keys_in columns rows)))
run_passes columns rows test =
    ap (filter (λ row. test (key_at columns rows row))) (run_rows columns rows)
    ∙ sym (entries_pass columns rows test (rows_by_key columns rows))
    ∙ sym (ap (λ es. entry_rows (filter (λ (e : Entry). test e.key) es)) (run_is columns rows))

module _ (context : Context) (block : Block) (composite : Composite) (table : ℕ) where
  asked_of_key : (columns numbers : List ℕ) (asked : List ScanKey) → AskInTurn (stored_of context block) composite table columns numbers asked → (row : ℕ) → list_all (λ number. (stored_of context block).holds number (set composite table row)) numbers ≡ keys_meet asked (key_at columns (rows_in context.database block table) row)
  asked_of_key [] [] [] h row = refl
  asked_of_key (c ∷ cs) [] [] h row = refl
  asked_of_key [] [] (a ∷ as') h row = absurd h
  asked_of_key (c ∷ cs) [] (a ∷ as') h row = absurd h
  asked_of_key [] (g ∷ gs) [] h row = absurd h
  asked_of_key (c ∷ cs) (g ∷ gs) [] h row = absurd h
  asked_of_key [] (g ∷ gs) (a ∷ as') h row = absurd h
  asked_of_key (c ∷ cs) (g ∷ gs) (a ∷ as') h row = ap₂ (λ x y. x && y) (h.0 row) (asked_of_key cs gs as' h.1 row)

  part : (index : ℕ) (numbers : List ℕ) (backward : Bool) (asked : List ScanKey) (test : Key → Bool) → AskInTurn (stored_of context block) composite table (index_columns context.database block table index) numbers asked → ((key : Key) → keys_meet asked key ≡ test key)
      → run (stored_of context block) (MatchingScan table index numbers backward) composite ≡ in_direction backward (entry_rows (filter (λ (e : Entry). test e.key) (index_run context.database block table index)))
  part index numbers backward asked test h is =
      let columns : List ℕ = index_columns context.database block table index in
      let rows : List Row = rows_in context.database block table in
      filter_alike (λ row. list_all (λ number. (stored_of context block).holds number (set composite table row)) numbers) (λ row. test (key_at columns rows row)) (in_direction backward ((stored_of context block).index_rows table index)) (λ row. asked_of_key columns numbers asked h row ∙ is (key_at columns rows row))
      ∙ filter_read (λ row. test (key_at columns rows row)) backward ((stored_of context block).index_rows table index)
      ∙ ap (in_direction backward) (run_passes columns rows test)

pub equal_match : MatchIsEqualPart
equal_match context block composite table index numbers backward values h = part context block composite table index numbers backward (map EqualTo values) (begins_with values) h (equal_values values)

pub ranged_match : MatchIsRangePart
ranged_match context block composite table index numbers backward values low high h = part context block composite table index numbers backward (map EqualTo values ++ InRange low high ∷ []) (lies_in values low high) h (ranged_values values low high)
