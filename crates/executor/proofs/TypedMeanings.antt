-- What a block means has the type of its only result column.
use Rattle.std.proofs.Common.{◌≡◌, sym, subst, ℕ, List, [], ◌∷◌, ◌++◌, Bool, true, false, Some, map, get_or}
use Rattle.std.specs.Prelude.{⊤, flat_map, if◌then◌else◌}
use Rattle.std.specs.List.{AllByRecursion}
use Rattle.definitions.specs.Value.{Value, Null}
use Rattle.definitions.specs.Arithmetic.{Raise, Meaning, Is, Raises}
use Rattle.definitions.specs.ValueType.{ValueType, HasValueType}
use Rattle.definitions.specs.Table.{Row}
use Rattle.definitions.specs.Invariant.{IsDatabase}
use Rattle.definitions.specs.Binding.Answerable.{IsAnswerable, IsRightFunction}
use Rattle.definitions.specs.Binding.Formed.{only_type, IsFormedFunction, IsFormedValue, AreFormedOperands, IsTypedValue, IsFormedBlock}
use Rattle.definitions.specs.Queries.BoundBlock.{ValueExpr, Column, Parameter, Numeral, String, Signed, Chain, AggregateValue, Subquery, Operands, NoOperand, Operand, Item, Block, Blocks}
use Rattle.definitions.specs.Queries.Conjuncts.{blocks_in, operand_blocks}
use Rattle.definitions.specs.Queries.Evaluation.{Combination, Environment, on_one, value}
use Rattle.definitions.specs.Queries.Laws.{FitsTypes, AllFitTypes, MeansOne, MeansRows}
use Rattle.definitions.specs.Queries.Combinations.{Context, at, at_group, is_surely_true, kept, raises_of, raises_of_where}
use Rattle.definitions.specs.Queries.Grouping.{all_results, function_value, groups_of, results, same_values, unless_raised}
use Rattle.definitions.specs.Queries.Answer.{answer_after_where, block_answer, chosen_row, distinct_rows, having_of, is_grouped, row_at, row_of_combination, row_of_group, rows_of_kept}
use Rattle.definitions.proofs.QueryTheory.Lemmas.{groups_are_all}
use Rattle.definitions.proofs.QueryTheory.TypedValues.{values_have_their_types}
use Rattle.definitions_execution.specs.TypedCombinations.{AreTypedAround, IsTypedCombination}
use Rattle.definitions_answers.proofs.Reordered.{reordered}
use Rattle.definitions_answers.proofs.Taken.{all_arranged, all_joined, all_left, all_split}
use Rattle.definitions_answers.proofs.TypedKept.{kept_are_typed}
use Rattle.definitions_answers.proofs.ValueShapes.{function_values_have_their_types}
use Rattle.block_answers.proofs.Blind.{no_left, no_right}
use Rattle.block_answers.proofs.Formed.{all_at, made_at, own_type}

-- a row that is made has the type in its first column
abbrev HasFirst : ValueType → Row → Type 0
HasFirst type row = HasValueType type (get_or row 0 Null)

abbrev MeansFirst : ValueType → Meaning Row → Type 0
MeansFirst type (Is row) = HasFirst type row
MeansFirst type (Raises r rs) = ⊤

module _ (type : ValueType) where
  one_value : (m : Meaning Value) → MeansOne type m → MeansFirst type (all_results (m ∷ []))
  one_value (Is v) h = h
  one_value (Raises r rs) h = tt

  one_row : (m : Meaning Row) → MeansFirst type m → MeansRows type (on_one (λ row. row ∷ []) m)
  one_row (Is row) h = (h, tt)
  one_row (Raises r rs) h = tt

  results_first : (ms : List (Meaning Row)) → AllByRecursion (MeansFirst type) ms → AllByRecursion (HasFirst type) (results ms)
  results_first [] h = tt
  results_first (Is row ∷ ms) h = (h.0, results_first ms h.1)
  results_first (Raises r rs ∷ ms) h = results_first ms h.1

  if_chosen : (chosen : Bool) (env : Environment) (items : List Item) → MeansFirst type (row_at env items) → AllByRecursion (MeansFirst type) (chosen_row chosen env items)
  if_chosen true env items h = (h, tt)
  if_chosen false env items h = tt

  unless_typed : (rs : List Raise) (rows : List Row) → AllByRecursion (HasFirst type) rows → MeansRows type (unless_raised rs rows)
  unless_typed [] rows h = h
  unless_typed (r ∷ rs) rows h = tt

  results_rows : (ms : List (Meaning (List Row))) → AllByRecursion (MeansRows type) ms → AllByRecursion (HasFirst type) (flat_map (λ rows. rows) (results ms))
  results_rows [] h = tt
  results_rows (Is rows ∷ ms) h = all_joined (HasFirst type) rows (flat_map (λ rs. rs) (results ms)) h.0 (results_rows ms h.1)
  results_rows (Raises r rs ∷ ms) h = results_rows ms h.1

  distinct_first : (distinct : Bool) (rows : List Row) → AllByRecursion (HasFirst type) rows → AllByRecursion (HasFirst type) (distinct_rows distinct rows)
  distinct_first true rows h = all_left same_values (HasFirst type) rows h
  distinct_first false rows h = h

  all_typed : (distinct : Bool) (rs : List Raise) (lists : List (List Row)) → AllByRecursion (HasFirst type) (flat_map (λ rows. rows) lists) → MeansRows type (on_one (λ ls. distinct_rows distinct (flat_map (λ rows. rows) ls)) (unless_raised rs lists))
  all_typed distinct [] lists h = distinct_first distinct (flat_map (λ rows. rows) lists) h
  all_typed distinct (r ∷ rs) lists h = tt

  mapped_typed : {X : Type 0} (P : X → Type 0) (f : X → Meaning (List Row)) → ((x : X) → P x → MeansRows type (f x)) → (xs : List X) → AllByRecursion P xs → AllByRecursion (MeansRows type) (map f xs)
  mapped_typed P f g [] h = tt
  mapped_typed P f g (x ∷ xs) h = (g x h.0, mapped_typed P f g xs h.1)

each_joined : {X : Type 0} (P : X → Type 0) (groups : List (List X)) → AllByRecursion P (flat_map (λ group. group) groups) → AllByRecursion (AllByRecursion P) groups
each_joined P [] h = tt
each_joined P (g ∷ gs) h = let (here, there) = all_split P g (flat_map (λ group. group) gs) h in (here, each_joined P gs there)

module _ (context : Context) (blocks around : Blocks) (n : ℕ) (b : Block) (valid : IsDatabase context.database) (typed : AreTypedAround context.database around context.outer) (is : IsFormedBlock context.database blocks around n b) (answerable : IsAnswerable b) where
  abbrev Formed : ValueExpr → Type 0
  Formed = IsFormedValue context.database blocks around n b

  abbrev IsTyped : Combination → Type 0
  IsTyped = IsTypedCombination context.database b

  module _ (functions : List (Meaning Value)) (sets : (number : ℕ) (type : ValueType) → Formed (AggregateValue number type) → MeansOne type (get_or functions number (Is Null))) (c : Combination) (own : IsTyped c) where
    abbrev env : Environment
    env = at_group context functions c

    mutual
      fitting : (e : ValueExpr) → Formed e → blocks_in e ≡ [] → FitsTypes env e
      fitting (Column column type) f k = (own_type context.database b column type valid f, own column type f)
      fitting (Parameter between column type) f k = (own_type context.database f.0 column type valid f.2, typed between f.0 f.1 column type f.2)
      fitting (Numeral units digits scale) f k = f.0
      fitting (String codes) f k = tt
      fitting (Signed minus operand) f k = fitting operand f k
      fitting (Chain first others) f k = (fitting first f.0 (no_left (blocks_in first) (operand_blocks others) k), all_fitting others f.1 (no_right (blocks_in first) (operand_blocks others) k))
      fitting (AggregateValue number type) f k = sets number type f
      fitting (Subquery number type) f k = absurd cc

      all_fitting : (others : Operands) → AreFormedOperands context.database blocks around n b others → operand_blocks others ≡ [] → AllFitTypes env others
      all_fitting NoOperand f k = tt
      all_fitting (Operand operator operand others) f k = (fitting operand f.0 (no_left (blocks_in operand) (operand_blocks others) k), all_fitting others f.1 (no_right (blocks_in operand) (operand_blocks others) k))

    only_typed : (type : ValueType) (items : List Item) → AllByRecursion (λ (i : Item). IsTypedValue context.database blocks around n b i.value) items → AllByRecursion (λ (i : Item). blocks_in i.value ≡ []) items → only_type items ≡ Some type → MeansFirst type (row_at env items)
    only_typed type [] f k e = absurd cc
    only_typed type (i ∷ []) f k e = one_value type (value env i.value) (values_have_their_types env i.value type (fitting i.value f.0.0 k.0) e)
    only_typed type (i ∷ j ∷ items) f k e = absurd cc

  module _ (type : ValueType) (column : only_type b.items ≡ Some type) where
    of_combination : (c : Combination) → IsTyped c → MeansRows type (row_of_combination context b c)
    of_combination c own = one_row type (row_at (at context c) b.items) (only_typed [] (λ number t f. tt) c own type b.items is.items answerable.items column)

    sets_typed : (group : List Combination) → AllByRecursion IsTyped group → (number : ℕ) (t : ValueType) → Formed (AggregateValue number t) → MeansOne t (get_or (map (function_value context group) b.functions) number (Is Null))
    sets_typed group members number t (f, there, kind) =
        subst (MeansOne t) (sym (made_at (function_value context group) b.functions number f (Is Null) there))
        (function_values_have_their_types context blocks around n b f t group (valid, typed) (all_at (IsFormedFunction context.database blocks around n b) b.functions number f is.functions there) (all_at IsRightFunction b.functions number f answerable.functions there) members kind)

    first_typed : (group : List Combination) → AllByRecursion IsTyped group → IsTyped (get_or group 0 [])
    first_typed [] h = λ column' type' f. tt
    first_typed (c ∷ group) h = h.0

    of_group : (group : List Combination) → AllByRecursion IsTyped group → MeansRows type (row_of_group context b group)
    of_group group members =
        let functions : List (Meaning Value) = map (function_value context group) b.functions in
        let env : Environment = at_group context functions (get_or group 0 []) in
        let row = chosen_row (is_surely_true (having_of env b.having)) env b.items in
        unless_typed type (flat_map raises_of functions ++ raises_of (having_of env b.having) ++ flat_map raises_of row) (results row)
        (results_first type row (if_chosen type (is_surely_true (having_of env b.having)) env b.items (only_typed functions (sets_typed group members) (get_or group 0 []) (first_typed group members) type b.items is.items answerable.items column)))

    groups_typed : AllByRecursion (AllByRecursion IsTyped) (groups_of b.groups (kept context b))
    groups_typed =
        each_joined IsTyped (groups_of b.groups (kept context b))
        (all_arranged IsTyped (kept context b) (flat_map (λ group. group) (groups_of b.groups (kept context b))) (reordered (kept context b) (flat_map (λ group. group) (groups_of b.groups (kept context b))) (groups_are_all b.groups (kept context b))) (kept_are_typed context b valid))

    by_kind : (grouped : Bool) → AllByRecursion (MeansRows type) (if grouped then map (row_of_group context b) (groups_of b.groups (kept context b)) else map (row_of_combination context b) (kept context b))
    by_kind true = mapped_typed type (AllByRecursion IsTyped) (row_of_group context b) of_group (groups_of b.groups (kept context b)) groups_typed
    by_kind false = mapped_typed type IsTyped (row_of_combination context b) of_combination (kept context b) (kept_are_typed context b valid)

    after_where : (rs : List Raise) → MeansRows type (answer_after_where rs context b)
    after_where [] = all_typed type b.distinct (flat_map raises_of (rows_of_kept context b)) (results (rows_of_kept context b)) (results_rows type (rows_of_kept context b) (by_kind (is_grouped b)))
    after_where (r ∷ rs) = tt

    pub answer_typed : MeansRows type (block_answer context b)
    answer_typed = after_where (raises_of_where context b)
