-- The rows of a grouped block have shapes: each set function has one, whatever group it is of.
use Rattle.std.proofs.Common.{◌≡◌, refl, sym, ap, subst, ℕ, zero, suc, List, [], ◌∷◌, Bool, true, false, Option, Some, get_or, map}
use Rattle.std.specs.Prelude.{cond, flat_map, slice_get, unwrap_or, if◌then◌else◌}
use Rattle.std.specs.Ordering.{is_lt}
use Rattle.std.specs.List.{AllByRecursion}
use Rattle.definitions.specs.Value.{rank, Value, Null}
use Rattle.definitions.specs.Table.{Row}
use Rattle.definitions.specs.Truth.{Truth, is_true}
use Rattle.definitions.specs.ValueType.{ValueType, NumberType, TextType}
use Rattle.definitions.specs.Invariant.{IsDatabase}
use Rattle.definitions.specs.Arithmetic.{Raise, Meaning, Is, Raises}
use Rattle.definitions.specs.Statement.{SetFunction, Count, Sum, Avg, Min, Max}
use Rattle.definitions.specs.Queries.BoundBlock.{AggregateValue, Aggregate, CountRows, OfValues, Item, Block, Blocks}
use Rattle.definitions.specs.Queries.BoundTypes.{value_type}
use Rattle.definitions.specs.Queries.Evaluation.{Combination, and_then, on_one, value}
use Rattle.definitions.specs.Queries.Combinations.{Context, at, at_group, raises_of}
use Rattle.definitions.specs.Queries.Grouping.{aggregate, results, taken, unless_raised, function_value}
use Rattle.definitions.specs.Queries.Answer.{row_at, having_of}
use Rattle.definitions.specs.Queries.Laws.{MeansOne}
use Rattle.definitions.specs.Binding.Formed.{IsFormedBlock, IsFormedFunction, IsFormedValue, kind_type, set_function_type}
use Rattle.definitions.specs.Binding.Answerable.{IsRightFunction, IsAnswerable}
use Rattle.definitions_execution.specs.TypedCombinations.{IsTypedCombination, AreTypedAround}
use Rattle.definitions_answers.specs.Formed.{IsInPlace}
use Rattle.definitions_answers.specs.GroupRows.{MeansShape, row_of_values, rows_in, short_row}
use Rattle.definitions_answers.specs.Shapes.{Shape, HasShape, HasShapes}
use Rattle.definitions_answers.proofs.GroupRows.{shapes_of_results, all_results_quiet}
use Rattle.definitions_answers.proofs.ValueShapes.{some_type, plain_shape, items_shapes, least_has, taken_has, function_values_have_their_types}

all_at : {X : Type 0} (P : X → Type 0) (xs : List X) (i : ℕ) (x : X) → AllByRecursion P xs → slice_get xs i ≡ Some x → P x
all_at P [] i x h e = absurd cc
all_at {X} P (y ∷ ys) zero x h e = subst P (ap (λ (o : Option X). unwrap_or o y) e) h.0
all_at P (y ∷ ys) (suc i) x h e = all_at P ys i x h.1 e

made_at : {X Y : Type 0} (g : X → Y) (xs : List X) (i : ℕ) (x : X) (d : Y) → slice_get xs i ≡ Some x → get_or (map g xs) i d ≡ g x
made_at g [] i x d e = absurd cc
made_at {X} g (y ∷ ys) zero x d e = ap (λ (o : Option X). g (unwrap_or o y)) e
made_at g (y ∷ ys) (suc i) x d e = made_at g ys i x d e

after_shaped : (shape : Shape) (k : List Value → Meaning Value) (rs : List Raise) (vs : List Value) → MeansShape shape (k vs) → MeansShape shape (and_then k (unless_raised rs vs))
after_shaped shape k [] vs h = h
after_shaped shape k (r ∷ rs) vs h = tt

-- a set function whose values are texts is MIN or MAX
aggregate_shaped : (kind : SetFunction) (distinct : Bool) (own : ValueType) (shape : Shape) (vs : List Value) → kind_type kind (Some own) ≡ Some TextType → AllByRecursion (HasShape shape) vs → MeansShape shape (aggregate kind (taken distinct vs))
aggregate_shaped Count distinct own shape vs e h = absurd cc
aggregate_shaped Sum distinct (NumberType scale) shape vs e h = absurd cc
aggregate_shaped Sum distinct TextType shape vs e h = absurd cc
aggregate_shaped Avg distinct (NumberType scale) shape vs e h = absurd cc
aggregate_shaped Avg distinct TextType shape vs e h = absurd cc
aggregate_shaped Min distinct own shape vs e h = least_has (HasShape shape) tt (λ b a. is_lt (rank b a)) (taken distinct vs) (taken_has (HasShape shape) distinct vs h)
aggregate_shaped Max distinct own shape vs e h = least_has (HasShape shape) tt (λ b a. is_lt (rank a b)) (taken distinct vs) (taken_has (HasShape shape) distinct vs h)

module _ (context : Context) (blocks around : Blocks) (n : ℕ) (b : Block) (valid : IsDatabase context.database) (typed_around : AreTypedAround context.database around context.outer)
    (formed : AllByRecursion (IsFormedFunction context.database blocks around n b) b.functions) (right : AllByRecursion IsRightFunction b.functions) where
  abbrev Typed : Combination → Type 0
  Typed = IsTypedCombination context.database b

  abbrev Group : Type 0
  Group = (members : List Combination) × AllByRecursion Typed members

  abbrev functions_over : Group → List (Meaning Value)
  functions_over g = map (function_value context g.0) b.functions

  abbrev first_of : Group → Combination
  first_of g = get_or g.0 0 []

  first_typed : (g : Group) → Typed (first_of g)
  first_typed ([], h) = λ column type has. tt
  first_typed (c ∷ cs, h) = h.0

  text_function : (f : Aggregate) → IsFormedFunction context.database blocks around n b f → IsRightFunction f → set_function_type f ≡ Some TextType → (shape : Shape) × ((g : Group) → MeansShape shape (function_value context g.0 f))
  text_function CountRows formed right e = absurd cc
  text_function (OfValues kind distinct argument) formed right e =
      let (own, is) = some_type (value_type argument) formed.1 in
      let (shape, has) = plain_shape context blocks around n b valid typed_around argument formed.0 right.1 own is in
      let f : Combination → Meaning Value = λ c. value (at context c) argument in (
        shape,
        λ g. after_shaped shape (λ vs. aggregate kind (taken distinct vs)) (flat_map raises_of (map f g.0)) (results (map f g.0))
            (aggregate_shaped kind distinct own shape (results (map f g.0)) (subst (λ o. kind_type kind o ≡ Some TextType) is e) (shapes_of_results context b shape f has g.0 g.1)),
      )

  typed_at : (number : ℕ) (type : ValueType) → IsFormedValue context.database blocks around n b (AggregateValue number type) → (g : Group) → MeansOne type (get_or (functions_over g) number (Is Null))
  typed_at number type (f, there, is) g =
      subst (MeansOne type) (sym (made_at (function_value context g.0) b.functions number f (Is Null) there))
      (function_values_have_their_types context blocks around n b f type g.0 (valid, typed_around) (all_at _ b.functions number f formed there) (all_at IsRightFunction b.functions number f right there) g.1 is)

  shaped_at : (number : ℕ) → IsFormedValue context.database blocks around n b (AggregateValue number TextType) → (shape : Shape) × ((g : Group) → MeansShape shape (get_or (functions_over g) number (Is Null)))
  shaped_at number (f, there, is) =
      let (shape, has) = text_function f (all_at _ b.functions number f formed there) (all_at IsRightFunction b.functions number f right there) is in
      (shape, λ g. subst (MeansShape shape) (sym (made_at (function_value context g.0) b.functions number f (Is Null) there)) (has g))

  -- ---- the row of a group

  module _ (shapes : List Shape) where
    abbrev AreShaped : List Row → Type 0
    AreShaped rows = AllByRecursion (HasShapes shapes) rows

    made_row : (ms : List (Meaning Value)) (rs : List Raise) → flat_map raises_of ms ≡ rs → (flat_map raises_of ms ≡ [] → HasShapes shapes (results ms)) → AreShaped (rows_in (on_one (λ row. row ∷ []) (unless_raised rs (results ms))))
    made_row ms [] e has = (has e, tt)
    made_row ms (r ∷ rs) e has = tt

    chosen : (t : Bool) (m : Meaning (List Row)) → AreShaped (rows_in m) → AreShaped (rows_in (cond t m (Is [])))
    chosen true m h = h
    chosen false m h = tt

    after_having : (m : Meaning (List Row)) → AreShaped (rows_in m) → (having : Meaning Truth) → AreShaped (rows_in (and_then (λ t. if is_true t then m else Is []) having))
    after_having m h (Is t) = chosen (is_true t) m h
    after_having m h (Raises r rs) = tt

    short : (g : Group) → (flat_map raises_of (map (λ (i : Item). value (at_group context (functions_over g) (first_of g)) i.value) b.items) ≡ [] → HasShapes shapes (results (map (λ (i : Item). value (at_group context (functions_over g) (first_of g)) i.value) b.items)))
        → AreShaped (rows_in (short_row context b g.0))
    short g has = step (flat_map raises_of (functions_over g)) refl
      where
        row : List (Meaning Value) → Meaning (List Row)
        row fs = and_then (λ t. if is_true t then on_one (λ v. v ∷ []) (row_at (at_group context fs (first_of g)) b.items) else Is []) (having_of (at_group context fs (first_of g)) b.having)

        step : (rs : List Raise) → flat_map raises_of (functions_over g) ≡ rs → AreShaped (rows_in (and_then (row_of_values context b (first_of g)) (unless_raised rs (results (functions_over g)))))
        step (r ∷ rs) e = tt
        step [] e =
            subst (λ fs. AreShaped (rows_in (row fs))) (all_results_quiet context b (functions_over g) e)
            (after_having (on_one (λ v. v ∷ []) (row_at (at_group context (functions_over g) (first_of g)) b.items))
            (made_row (map (λ (i : Item). value (at_group context (functions_over g) (first_of g)) i.value) b.items) _ refl has) (having_of (at_group context (functions_over g) (first_of g)) b.having))

pub grouped_rows_have_shapes : (context : Context) (blocks around : Blocks) (n : ℕ) (b : Block) → IsInPlace context blocks around b → IsFormedBlock context.database blocks around n b → IsAnswerable b
    → (shapes : List Shape) × ((group : List Combination) → AllByRecursion (IsTypedCombination context.database b) group → AllByRecursion (HasShapes shapes) (rows_in (short_row context b group)))
grouped_rows_have_shapes context blocks around n b (valid, typed_around) formed answerable =
    let (shapes, has) = items_shapes context blocks around n b valid typed_around (Group context blocks around n b valid typed_around formed.functions answerable.functions)
    (functions_over context blocks around n b valid typed_around formed.functions answerable.functions) (first_of context blocks around n b valid typed_around formed.functions answerable.functions)
    (first_typed context blocks around n b valid typed_around formed.functions answerable.functions) (typed_at context blocks around n b valid typed_around formed.functions answerable.functions)
    (shaped_at context blocks around n b valid typed_around formed.functions answerable.functions) b.items formed.items answerable.items in
    (shapes, λ group typed. short context blocks around n b valid typed_around formed.functions answerable.functions shapes (group, typed) (has (group, typed)))
