-- A block means what it does by its tables, its parameters and the blocks that it asks for; and so its plans work.
use Rattle.std.proofs.Common.{ap, ap₂, ◌∙◌, ◌≡◌, ℕ, ◌+◌, List, [], ◌∷◌, ◌++◌, map, filter, flat_map, slice_get, Bool, true, false, Option, Some, None, refl}
use Rattle.std.proofs.Math.Path.{fun_ext}
use Rattle.std.proofs.lemmas.List.Elements.{recursion_from_All, All-contains_itself}
use Rattle.definitions.specs.Binding.Formed.{blocks_of_option}
use Rattle.std.specs.Prelude.{Contains, get_or, length, not, sum_by, if◌then◌else◌}
use Rattle.std.specs.List.{AllByRecursion}
use Rattle.definitions.specs.Value.{Value, Null}
use Rattle.definitions.specs.Table.{Row, Database}
use Rattle.definitions.specs.IndexRun as index
use Rattle.definitions.specs.Arithmetic.{Raise, Meaning}
use Rattle.definitions.specs.Plans.Plan.{Plan}
use Rattle.definitions.specs.Plans.Cost.{saturated}
use Rattle.definitions.specs.Queries.BoundBlock.{ValueExpr, Condition, Aggregate, CountRows, OfValues, Item, Block}
use Rattle.definitions.specs.Queries.Conjuncts.{conjuncts, conjuncts_of_option, is_late, early_conjuncts, late_conjuncts, tested_blocks, values_of, blocks_in, blocks_of}
use Rattle.definitions.specs.Queries.Evaluation.{Combination, Environment, and_then, on_one, value, truth}
use Rattle.definitions.specs.Queries.Combinations.{Context, at, at_group, is_surely_true, all_hold, all_combinations, passing, raises_of, raises_of_late, raises_of_where, kept}
use Rattle.definitions.specs.Queries.Grouping.{aggregate, taken, all_results, results, unless_raised, function_value, groups_of}
use Rattle.definitions.specs.Queries.Answer.{is_grouped, row_at, row_of_combination, row_of_group, having_of, chosen_row, rows_of_kept, distinct_rows, answer_after_where, block_answer}
use Rattle.definitions.specs.Estimates.Version.{Version}
use Rattle.definitions.specs.Estimates.BlockSpace.{space_of}
use Rattle.definitions_execution.specs.Running.{work}
use Rattle.definitions_execution.specs.Stored.{Composite, Stored}
use Rattle.definitions_execution.specs.OfBlock.{combination_of, rows_in, index_run, is_true_at, stored_of}
use Rattle.definitions_execution.specs.BlockRuns.{plan_work}
use Rattle.definitions_execution.specs.Total.{BlockWork, subqueries, inner_work, block_total}
use Rattle.definitions_answers.specs.Parameters.{parameters_in, values_of_option, tested_of_option, arguments_of, values_in_block, tested_in_block, asked_blocks, own_parameters}
use Rattle.definitions_answers.proofs.Elements.{all_first, all_joined, all_flat, all_made, all_mapped, all_weaker, all_both, all_filtered, all_at, list_all_alike, flat_alike, map_alike, sum_alike}
use Rattle.definitions_answers.proofs.Sight.{SameColumn, Seen, value_seen, truth_seen, OfCondition, of_conjuncts}

chosen_alike : (t : Bool) (env env' : Environment) (items : List Item) → row_at env items ≡ row_at env' items → chosen_row t env items ≡ chosen_row t env' items
chosen_alike true env env' items e = ap (λ r. r ∷ []) e
chosen_alike false env env' items e = refl

module _ (db : Database) (outer outer' : List Combination) (inner inner' : ℕ → List Combination → Meaning (List Row)) where
  abbrev here : Context
  here = record { database = db; outer = outer; inner = inner }

  abbrev there : Context
  there = record { database = db; outer = outer'; inner = inner' }

  -- the block of a number means the same, whatever combination of the block it is evaluated at
  abbrev pub SameInner : ℕ → Type 0
  SameInner n = (c : Combination) → inner n (c ∷ outer) ≡ inner' n (c ∷ outer')

  -- and so do a value, and a condition
  abbrev pub SameValue : ValueExpr → Type 0
  SameValue e = (functions : List (Meaning Value)) (c : Combination) → value (at_group here functions c) e ≡ value (at_group there functions c) e

  abbrev pub SameTruth : Condition → Type 0
  SameTruth d = (functions : List (Meaning Value)) (c : Combination) → truth (at_group here functions c) d ≡ truth (at_group there functions c) d

  pub same_value : (e : ValueExpr) → AllByRecursion (SameColumn outer outer') (parameters_in e) → AllByRecursion SameInner (blocks_in e) → SameValue e
  same_value e h k functions c =
      value_seen c functions outer outer' (λ n. inner n (c ∷ outer)) (λ n. inner' n (c ∷ outer')) e h (all_weaker SameInner (λ n. inner n (c ∷ outer) ≡ inner' n (c ∷ outer')) (λ n f. f c) (blocks_in e) k)

  pub same_truth : (d : Condition) → AllByRecursion SameValue (values_of d) → AllByRecursion SameInner (tested_blocks d) → SameTruth d
  same_truth d h k functions c =
      truth_seen c functions outer outer' (λ n. inner n (c ∷ outer)) (λ n. inner' n (c ∷ outer')) d
      (all_weaker SameValue (Seen c functions outer outer' (λ n. inner n (c ∷ outer)) (λ n. inner' n (c ∷ outer'))) (λ e f. f functions c) (values_of d) h)
      (all_weaker SameInner (λ n. inner n (c ∷ outer) ≡ inner' n (c ∷ outer')) (λ n f. f c) (tested_blocks d) k)

  conjuncts_same : (o : Option Condition) → AllByRecursion SameValue (values_of_option o) → AllByRecursion SameInner (tested_of_option o) → AllByRecursion (OfCondition SameValue SameInner) (conjuncts_of_option o)
  conjuncts_same None h k = tt
  conjuncts_same (Some d) h k = of_conjuncts SameValue SameInner d (record { values = h; tested = k })

  truth_of_parts : (d : Condition) → OfCondition SameValue SameInner d → SameTruth d
  truth_of_parts d h = same_truth d h.values h.tested

  -- ---- the combinations

  all_hold_same : (ds : List Condition) → AllByRecursion SameTruth ds → all_hold here ds ≡ all_hold there ds
  all_hold_same ds h =
      fun_ext (λ c. list_all_alike (λ d. is_surely_true (truth (at here c) d)) (λ d. is_surely_true (truth (at there c) d)) ds (all_weaker SameTruth (λ d. is_surely_true (truth (at here c) d) ≡ is_surely_true (truth (at there c) d)) (λ d f. ap is_surely_true (f [] c)) ds h))

  raises_same : (ds : List Condition) → AllByRecursion SameTruth ds → raises_of_late here ds ≡ raises_of_late there ds
  raises_same ds h =
      fun_ext (λ c. flat_alike (λ d. raises_of (truth (at here c) d)) (λ d. raises_of (truth (at there c) d)) ds (all_weaker SameTruth (λ d. raises_of (truth (at here c) d) ≡ raises_of (truth (at there c) d)) (λ d f. ap raises_of (f [] c)) ds h))

  module _ (b : Block) where
    pub passing_same : AllByRecursion SameTruth (early_conjuncts b) → passing here b ≡ passing there b
    passing_same h = ap (λ p. filter p (all_combinations here b)) (all_hold_same (early_conjuncts b) h)

    -- ---- the answer

    rows_same : (items : List Item) → AllByRecursion (λ (i : Item). SameValue i.value) items → (functions : List (Meaning Value)) (c : Combination) → row_at (at_group here functions c) items ≡ row_at (at_group there functions c) items
    rows_same items h functions c =
        ap all_results (map_alike (λ (i : Item). value (at_group here functions c) i.value) (λ (i : Item). value (at_group there functions c) i.value) items
        (all_weaker (λ (i : Item). SameValue i.value) (λ (i : Item). value (at_group here functions c) i.value ≡ value (at_group there functions c) i.value) (λ i f. f functions c) items h))

    having_same : (o : Option Condition) → AllByRecursion SameValue (values_of_option o) → AllByRecursion SameInner (tested_of_option o) → (functions : List (Meaning Value)) (c : Combination) → having_of (at_group here functions c) o ≡ having_of (at_group there functions c) o
    having_same None h k functions c = refl
    having_same (Some d) h k functions c = same_truth d h k functions c

    functions_same : (fs : List Aggregate) → AllByRecursion SameValue (arguments_of fs) → (group : List Combination) → map (function_value here group) fs ≡ map (function_value there group) fs
    functions_same [] h group = refl
    functions_same (CountRows ∷ fs) h group = ap (λ ms. function_value here group CountRows ∷ ms) (functions_same fs h group)
    functions_same (OfValues kind distinct argument ∷ fs) h group =
        ap₂ (λ m ms. m ∷ ms)
        (ap (λ (f : Combination → Meaning Value). and_then (λ vs. aggregate kind (taken distinct vs)) (all_results (map f group))) (fun_ext (λ c. h.0 [] c)))
        (functions_same fs h.1 group)

    module _ (items : AllByRecursion (λ (i : Item). SameValue i.value) b.items) (having : AllByRecursion SameValue (values_of_option b.having)) (tested : AllByRecursion SameInner (tested_of_option b.having)) (arguments : AllByRecursion SameValue (arguments_of b.functions)) (all : AllByRecursion SameTruth (conjuncts b)) where
      abbrev early : AllByRecursion SameTruth (early_conjuncts b)
      early = all_filtered SameTruth (λ c. not (is_late c)) (conjuncts b) all

      abbrev late : AllByRecursion SameTruth (late_conjuncts b)
      late = all_filtered SameTruth is_late (conjuncts b) all

      combination_same : row_of_combination here b ≡ row_of_combination there b
      combination_same = fun_ext (λ c. ap (on_one (λ row. row ∷ [])) (rows_same b.items items [] c))

      abbrev of_group : Context → List (Meaning Value) → List Combination → Meaning (List Row)
      of_group context functions group =
          let env : Environment = at_group context functions (get_or group 0 []) in
          unless_raised (flat_map raises_of functions ++ raises_of (having_of env b.having) ++ flat_map raises_of (chosen_row (is_surely_true (having_of env b.having)) env b.items)) (results (chosen_row (is_surely_true (having_of env b.having)) env b.items))

      with_functions : (functions : List (Meaning Value)) (group : List Combination) → of_group here functions group ≡ of_group there functions group
      with_functions functions group =
          let c : Combination = get_or group 0 [] in
          let e = having_same b.having having tested functions c in
          let r = ap (λ t. chosen_row (is_surely_true t) (at_group here functions c) b.items) e ∙ chosen_alike (is_surely_true (having_of (at_group there functions c) b.having)) (at_group here functions c) (at_group there functions c) b.items (rows_same b.items items functions c) in
          ap₂ (λ h row. unless_raised (flat_map raises_of functions ++ raises_of h ++ flat_map raises_of row) (results row)) e r

      group_same : row_of_group here b ≡ row_of_group there b
      group_same = fun_ext (λ group. ap (λ fs. of_group here fs group) (functions_same b.functions arguments group) ∙ with_functions (map (function_value there group) b.functions) group)

      kept_same : kept here b ≡ kept there b
      kept_same = ap₂ filter (all_hold_same (late_conjuncts b) late) (passing_same early)

      rows_of_kept_same : rows_of_kept here b ≡ rows_of_kept there b
      rows_of_kept_same =
          ap (λ cs. if is_grouped b then map (row_of_group here b) (groups_of b.groups cs) else map (row_of_combination here b) cs) kept_same
          ∙ ap₂ (λ f g. if is_grouped b then map f (groups_of b.groups (kept there b)) else map g (kept there b)) group_same combination_same

      after_where : (rs : List Raise) → answer_after_where rs here b ≡ answer_after_where rs there b
      after_where [] = ap (λ ms. on_one (λ lists. distinct_rows b.distinct (flat_map (λ rows. rows) lists)) (all_results ms)) rows_of_kept_same
      after_where (r ∷ rs) = refl

      pub answer_same : block_answer here b ≡ block_answer there b
      answer_same = ap (λ rs. answer_after_where rs here b) (ap₂ flat_map (raises_same (late_conjuncts b) late) (passing_same early)) ∙ after_where (raises_of_where there b)

    -- ---- the work

    module _ (all : AllByRecursion SameTruth (conjuncts b)) where
      at_option : (o : Option Condition) (c : Combination) → ((d : Condition) → o ≡ Some d → SameTruth d) → is_true_at here o c ≡ is_true_at there o c
      at_option None c f = refl
      at_option (Some d) c f = ap is_surely_true (f d refl [] c)

      abbrev with_holds : (ℕ → Composite → Bool) → Stored
      with_holds h = record {
        row_count = λ table. length (rows_in db b table);
        value_in = λ column row. get_or (get_or (rows_in db b column.table) row []) column.number Null;
        index_rows = λ table number. index.entry_rows (index_run db b table number);
        holds = h;
      }

      stored_same : stored_of here b ≡ stored_of there b
      stored_same = ap with_holds (fun_ext (λ number. fun_ext (λ composite. at_option (slice_get (conjuncts b) number) (combination_of db b composite) (λ d e. all_at SameTruth (conjuncts b) number d all e))))

      pub work_same : (version : Version) (plan : Plan) → plan_work version here b plan ≡ plan_work version there b plan
      work_same version plan = ap (λ stored. work (space_of version db b) stored plan) stored_same

      pub total_same : (version : Version) (plan : Plan) (total total' : ℕ → BlockWork) → AllByRecursion (λ n. (c : Combination) → total n (c ∷ outer) ≡ total' n (c ∷ outer')) (subqueries b)
          → block_total version here b plan total ≡ block_total version there b plan total'
      total_same version plan total total' h =
          let inner_same : inner_work here b total ≡ inner_work there b total' =
          fun_ext (λ c. sum_alike (λ n. total n (c ∷ outer)) (λ n. total' n (c ∷ outer')) (subqueries b) (all_weaker (λ n. (d : Combination) → total n (d ∷ outer) ≡ total' n (d ∷ outer')) (λ n. total n (c ∷ outer) ≡ total' n (c ∷ outer')) (λ n f. f c) (subqueries b) h)) in
          ap₂ (λ w s. saturated (w + s)) (work_same version plan)
          (ap₂ sum_by inner_same (passing_same (all_filtered SameTruth (λ c. not (is_late c)) (conjuncts b) all)))

    -- ---- by parameters and blocks

    pub record SeenAlike : Type 0 where
      pub values : AllByRecursion SameValue (values_in_block b)
      pub conditions : AllByRecursion (OfCondition SameValue SameInner) (conjuncts b)
      pub having : AllByRecursion SameInner (tested_of_option b.having)

    pub seen_alike : AllByRecursion (SameColumn outer outer') (own_parameters b) → AllByRecursion SameInner (asked_blocks b) → SeenAlike
    seen_alike h k =
        let w = all_first SameInner (flat_map blocks_in (values_in_block b)) (tested_in_block b) k in
        let t = all_first SameInner (tested_of_option b.condition) (tested_of_option b.having) w.1 in
        let values : AllByRecursion SameValue (values_in_block b) =
        all_both (λ e. AllByRecursion (SameColumn outer outer') (parameters_in e)) (λ e. AllByRecursion SameInner (blocks_in e)) SameValue (λ e p q. same_value e p q) (values_in_block b)
        (all_flat (SameColumn outer outer') parameters_in (values_in_block b) h) (all_flat SameInner blocks_in (values_in_block b) w.0) in
        let v = all_first SameValue (map (λ (i : Item). i.value) b.items) (values_of_option b.condition ++ (values_of_option b.having ++ arguments_of b.functions)) values in
        let u = all_first SameValue (values_of_option b.condition) (values_of_option b.having ++ arguments_of b.functions) v.1 in
        record { values = values; conditions = conjuncts_same b.condition u.0 t.0; having = t.1 }

    pub answer_seen : SeenAlike → block_answer here b ≡ block_answer there b
    answer_seen s =
        let v = all_first SameValue (map (λ (i : Item). i.value) b.items) (values_of_option b.condition ++ (values_of_option b.having ++ arguments_of b.functions)) s.values in
        let u = all_first SameValue (values_of_option b.condition) (values_of_option b.having ++ arguments_of b.functions) v.1 in
        let x = all_first SameValue (values_of_option b.having) (arguments_of b.functions) u.1 in
        answer_same (all_mapped SameValue (λ (i : Item). i.value) b.items v.0) x.0 s.having x.1 (all_weaker (OfCondition SameValue SameInner) SameTruth truth_of_parts (conjuncts b) s.conditions)

    pub truths_seen : SeenAlike → AllByRecursion SameTruth (conjuncts b)
    truths_seen s = all_weaker (OfCondition SameValue SameInner) SameTruth truth_of_parts (conjuncts b) s.conditions

-- what holds of all blocks that a block asks for holds of its subqueries
module _ (P : ℕ → Type 0) (b : Block) where
  asked_in : (d : Condition) → OfCondition (λ e. AllByRecursion P (blocks_in e)) P d → AllByRecursion P (blocks_of d)
  asked_in d h = all_joined P (tested_blocks d) (flat_map blocks_in (values_of d)) h.tested (all_made P blocks_in (values_of d) h.values)

  parts_of : (o : Option Condition) → AllByRecursion (λ e. AllByRecursion P (blocks_in e)) (values_of_option o) → AllByRecursion P (tested_of_option o) → AllByRecursion (OfCondition (λ e. AllByRecursion P (blocks_in e)) P) (conjuncts_of_option o)
  parts_of None h k = tt
  parts_of (Some d) h k = of_conjuncts (λ e. AllByRecursion P (blocks_in e)) P d (record { values = h; tested = k })

  pub subqueries_are : AllByRecursion P (asked_blocks b) → AllByRecursion P (subqueries b)
  subqueries_are k =
      let w = all_first P (flat_map blocks_in (values_in_block b)) (tested_in_block b) k in
      let t = all_first P (tested_of_option b.condition) (tested_of_option b.having) w.1 in
      let v = all_first (λ e. AllByRecursion P (blocks_in e)) (map (λ (i : Item). i.value) b.items) (values_of_option b.condition ++ (values_of_option b.having ++ arguments_of b.functions)) (all_flat P blocks_in (values_in_block b) w.0) in
      let u = all_first (λ e. AllByRecursion P (blocks_in e)) (values_of_option b.condition) (values_of_option b.having ++ arguments_of b.functions) v.1 in
      all_made P blocks_of (late_conjuncts b)
      (all_weaker (OfCondition (λ e. AllByRecursion P (blocks_in e)) P) (λ d. AllByRecursion P (blocks_of d)) asked_in (late_conjuncts b)
      (all_filtered (OfCondition (λ e. AllByRecursion P (blocks_in e)) P) is_late (conjuncts b) (parts_of b.condition u.0 t.0)))

-- the subqueries of late conjuncts are among the blocks that the condition asks for
parts_asked : (o : Option Condition) → AllByRecursion (OfCondition (λ e. AllByRecursion (Contains (blocks_of_option o)) (blocks_in e)) (Contains (blocks_of_option o))) (conjuncts_of_option o)
parts_asked None = tt
parts_asked (Some d) =
    let all : AllByRecursion (Contains (blocks_of d)) (blocks_of d) = recursion_from_All (Contains (blocks_of d)) (blocks_of d) (All-contains_itself (blocks_of d)) in
    let w = all_first (Contains (blocks_of d)) (tested_blocks d) (flat_map blocks_in (values_of d)) all in
    of_conjuncts (λ e. AllByRecursion (Contains (blocks_of d)) (blocks_in e)) (Contains (blocks_of d)) d (record { values = all_flat (Contains (blocks_of d)) blocks_in (values_of d) w.1; tested = w.0 })

pub asked_by_condition : (b : Block) → AllByRecursion (Contains (blocks_of_option b.condition)) (subqueries b)
asked_by_condition b =
    let P : ℕ → Type 0 = Contains (blocks_of_option b.condition) in
    let Q : Condition → Type 0 = OfCondition (λ e. AllByRecursion P (blocks_in e)) P in
    all_made P blocks_of (late_conjuncts b)
    (all_weaker Q (λ d. AllByRecursion P (blocks_of d)) (λ d h. all_joined P (tested_blocks d) (flat_map blocks_in (values_of d)) h.tested (all_made P blocks_in (values_of d) h.values)) (late_conjuncts b)
    (all_filtered Q is_late (conjuncts b) (parts_asked b.condition)))
