-- Result columns, HAVING and set functions ask for no inner block: rows are the same whatever these mean.
use Rattle.std.proofs.Common.{◌≡◌, refl, sym, ap, ap₂, subst, ℕ, List, [], ◌∷◌, ◌++◌, Option, Some, None, map}
use Rattle.std.proofs.Math.Path.{fun_ext}
use Rattle.std.specs.Prelude.{flat_map, get_or, if◌then◌else◌}
use Rattle.std.specs.List.{AllByRecursion}
use Rattle.definitions.specs.Value.{Value}
use Rattle.definitions.specs.Table.{Row}
use Rattle.definitions.specs.Arithmetic.{Raise, Meaning, Is}
use Rattle.definitions.specs.Truth.{is_true}
use Rattle.definitions.specs.Binding.Answerable.{IsAnswerable, IsRightFunction}
use Rattle.definitions.specs.Binding.Formed.{blocks_of_option}
use Rattle.definitions.specs.Queries.BoundBlock.{ValueExpr, Condition, Aggregate, CountRows, OfValues, Item, Block}
use Rattle.definitions.specs.Queries.Conjuncts.{blocks_in, tested_blocks, values_of}
use Rattle.definitions.specs.Queries.Evaluation.{Combination, and_then, on_one, value}
use Rattle.definitions.specs.Queries.Combinations.{Context, at_group, raises_of}
use Rattle.definitions.specs.Queries.Grouping.{aggregate, all_results, function_value, results, taken}
use Rattle.definitions.specs.Queries.Answer.{having_of}
use Rattle.definitions_answers.specs.GroupRows.{group_raises, group_rows, row_of_values, rows_in, short_row}
use Rattle.definitions_answers.specs.Parameters.{OuterColumn, parameters_in}
use Rattle.definitions_answers.specs.PlainRows.{plain_raises, plain_row, values_at}
use Rattle.definitions_answers.proofs.BlockSight.{same_truth, same_value, SameInner, SameValue}
use Rattle.definitions_answers.proofs.Elements.{all_weaker, map_alike}
use Rattle.definitions_answers.proofs.Sight.{SameColumn}
use Rattle.filters.specs.Sources.{BlockSource, block_in, context_in}
use Rattle.block_answers.specs.Telling.{context_with}

pub no_left : (xs ys : List ℕ) → xs ++ ys ≡ [] → xs ≡ []
no_left [] ys e = refl
no_left (x ∷ xs) ys e = absurd cc

pub no_right : (xs ys : List ℕ) → xs ++ ys ≡ [] → ys ≡ []
no_right [] ys e = e
no_right (x ∷ xs) ys e = absurd cc

each_none : (es : List ValueExpr) → flat_map blocks_in es ≡ [] → AllByRecursion (λ e. blocks_in e ≡ []) es
each_none [] h = tt
each_none (e ∷ es) h = (no_left (blocks_in e) (flat_map blocks_in es) h, each_none es (no_right (blocks_in e) (flat_map blocks_in es) h))

module _ (source : BlockSource) (outer : List Combination) (inner : ℕ → List Combination → Meaning (List Row)) where
  abbrev alone : Context
  alone = context_in source outer

  abbrev among : Context
  among = context_with source outer inner

  abbrev nothing : ℕ → List Combination → Meaning (List Row)
  nothing = λ block combinations. Is []

  abbrev Same : ValueExpr → Type 0
  Same = SameValue source.database outer outer nothing inner

  columns_same : (cs : List OuterColumn) → AllByRecursion (SameColumn outer outer) cs
  columns_same [] = tt
  columns_same (c ∷ cs) = (refl, columns_same cs)

  value_same : (e : ValueExpr) → blocks_in e ≡ [] → Same e
  value_same e none = same_value source.database outer outer nothing inner e (columns_same (parameters_in e)) (subst (AllByRecursion (SameInner source.database outer outer nothing inner)) (sym none) tt)

  having_same : (o : Option Condition) → blocks_of_option o ≡ [] → (functions : List (Meaning Value)) (c : Combination) → having_of (at_group alone functions c) o ≡ having_of (at_group among functions c) o
  having_same None none functions c = refl
  having_same (Some d) none functions c =
      same_truth source.database outer outer nothing inner d
      (all_weaker (λ e. blocks_in e ≡ []) Same (λ e n. value_same e n) (values_of d) (each_none (values_of d) (no_right (tested_blocks d) (flat_map blocks_in (values_of d)) none)))
      (subst (AllByRecursion (SameInner source.database outer outer nothing inner)) (sym (no_left (tested_blocks d) (flat_map blocks_in (values_of d)) none)) tt)
      functions c

  row_same : (items : List Item) → AllByRecursion (λ (i : Item). blocks_in i.value ≡ []) items → (functions : List (Meaning Value)) (c : Combination) → map (λ (i : Item). value (at_group alone functions c) i.value) items ≡ map (λ (i : Item). value (at_group among functions c) i.value) items
  row_same items none functions c =
      map_alike (λ (i : Item). value (at_group alone functions c) i.value) (λ (i : Item). value (at_group among functions c) i.value) items
      (all_weaker (λ (i : Item). blocks_in i.value ≡ []) (λ (i : Item). value (at_group alone functions c) i.value ≡ value (at_group among functions c) i.value) (λ i n. value_same i.value n functions c) items none)

  functions_same : (fs : List Aggregate) → AllByRecursion IsRightFunction fs → (group : List Combination) → map (function_value alone group) fs ≡ map (function_value among group) fs
  functions_same [] right group = refl
  functions_same (CountRows ∷ fs) right group = ap (λ ms. function_value alone group CountRows ∷ ms) (functions_same fs right.1 group)
  functions_same (OfValues kind distinct argument ∷ fs) right group =
      ap₂ (λ m ms. m ∷ ms)
      (ap (λ (f : Combination → Meaning Value). and_then (λ vs. aggregate kind (taken distinct vs)) (all_results (map f group))) (fun_ext (λ c. value_same argument right.0.1 [] c)))
      (functions_same fs right.1 group)

  module _ (answerable : IsAnswerable (block_in source)) where
    abbrev b : Block
    b = block_in source

    values_are_same : (c : Combination) → values_at alone b c ≡ values_at among b c
    values_are_same c = row_same b.items answerable.items [] c

    pub plain_row_same : plain_row alone b ≡ plain_row among b
    plain_row_same = fun_ext (λ c. ap results (values_are_same c))

    raises_at : Context → Combination → List Raise
    raises_at context c = flat_map raises_of (values_at context b c)

    pub plain_raises_same : (cs : List Combination) → plain_raises alone b cs ≡ plain_raises among b cs
    plain_raises_same cs = ap (λ (f : Combination → List Raise). flat_map f cs) (fun_ext (λ c. ap (flat_map raises_of) (values_are_same c)))

    of_values : (first : Combination) → row_of_values alone b first ≡ row_of_values among b first
    of_values first = fun_ext (λ values.
        ap₂ (λ h (ms : List (Meaning Value)). and_then (λ t. if is_true t then on_one (λ row. row ∷ []) (all_results ms) else Is []) h) (having_same b.having answerable.having (map Is values) first) (row_same b.items answerable.items (map Is values) first))

    short_row_same : short_row alone b ≡ short_row among b
    short_row_same = fun_ext (λ group. ap₂ and_then (of_values (get_or group 0 [])) (ap all_results (functions_same b.functions answerable.functions group)))

    pub group_raises_same : (groups : List (List Combination)) → group_raises alone b groups ≡ group_raises among b groups
    group_raises_same groups = ap (λ (f : List Combination → Meaning (List Row)). flat_map (λ group. raises_of (f group)) groups) short_row_same

    pub group_rows_same : (groups : List (List Combination)) → group_rows alone b groups ≡ group_rows among b groups
    group_rows_same groups = ap (λ (f : List Combination → Meaning (List Row)). flat_map (λ group. rows_in (f group)) groups) short_row_same
