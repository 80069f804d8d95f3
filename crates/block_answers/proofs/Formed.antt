-- The values of a formed block can be evaluated: on any composite, and over a group of them.
use Rattle.std.proofs.Common.{◌≡◌, refl, ap, subst, ℕ, zero, suc, List, [], ◌∷◌, Bool, true, false, cond, get_or, map, Option, Some, None, is_some, true≢false, sym}
use Rattle.std.specs.Prelude.{filter, slice_get, unwrap_or, IsTrue}
use Rattle.std.specs.List.{AllByRecursion}
use Rattle.definitions.specs.Value.{Value, Null, SqlType, IsType}
use Rattle.definitions.specs.Arithmetic.{Meaning, Is}
use Rattle.definitions.specs.ValueType.{ValueType}
use Rattle.definitions.specs.Table.{Database}
use Rattle.definitions.specs.Invariant.{IsDatabase}
use Rattle.definitions.specs.Plans.Order.{BlockColumn}
use Rattle.definitions.specs.Queries.BoundBlock.{ValueExpr, Column, Parameter, Numeral, String, Signed, Chain, AggregateValue, Subquery, Operands, NoOperand, Operand, Condition, Aggregate, CountRows, Item, Block, Blocks}
use Rattle.definitions.specs.Queries.BoundBlock as q
use Rattle.definitions.specs.Queries.BoundTypes.{value_type}
use Rattle.definitions.specs.Queries.Conjuncts.{conjuncts, is_late, late_conjuncts, values_of}
use Rattle.definitions.specs.Queries.Evaluation.{Combination, Environment}
use Rattle.definitions.specs.Queries.Combinations.{at_group}
use Rattle.definitions.specs.Queries.Grouping.{function_value}
use Rattle.definitions.specs.Queries.Laws.{FitsTypes, AllFitTypes, MeansOne}
use Rattle.definitions.specs.Binding.Formed.{HasColumn, IsFormedValue, AreFormedOperands, IsTypedValue, IfCondition, IsFormedFunction, IsFormedBlock}
use Rattle.definitions.specs.Binding.Answerable.{IsRightFunction}
use Rattle.expr.specs.Answers.{IsTyped}
use Rattle.definitions_execution.specs.Stored.{Composite}
use Rattle.definitions_execution.specs.TypedCombinations.{AreTypedAround, IsTypedCombination}
use Rattle.definitions_execution.specs.OfBlock.{combination_of}
use Rattle.definitions_execution.proofs.FormedNames.{OfValues, typed_conjuncts}
use Rattle.definitions_execution.proofs.TypedRows.{rows_typed, column_type, composites_typed}
use Rattle.filters.specs.Evaluable.{CanEvaluate}
use Rattle.filters.specs.Sources.{BlockSource, block_in, context_in, environment_at, IsSurrounded}
use Rattle.definitions_answers.proofs.ValueShapes.{function_values_have_their_types}
use Rattle.result_lines.specs.RowAt.{CanGive}
use Rattle.grouping.specs.Functions.{CanTake}
use Rattle.block_answers.specs.Having.{CanHave}

pub own_type : (db : Database) (block : Block) (column : BlockColumn) (type : SqlType) → IsDatabase db → HasColumn db block column type → IsType type
own_type db block column type valid (n, t, c, at, there, own, is) = subst IsType is (column_type t.columns column.number c (rows_typed db n t valid.each there).0.types own)

pub some_type : (o : Option ValueType) → IsTrue (is_some o) → (type : ValueType) × (o ≡ Some type)
some_type None h = absurd (true≢false (sym h))
some_type (Some type) h = (type, refl)

one_chosen : {X : Type 0} (P : X → Type 0) (b : Bool) (x : X) (xs : List X) → P x → AllByRecursion P xs → AllByRecursion P (cond b (x ∷ xs) xs)
one_chosen P true x xs h all = (h, all)
one_chosen P false x xs h all = all

chosen : {X : Type 0} (P : X → Type 0) (p : X → Bool) (xs : List X) → AllByRecursion P xs → AllByRecursion P (filter p xs)
chosen P p [] h = tt
chosen P p (x ∷ xs) h = one_chosen P (p x) x (filter p xs) h.0 (chosen P p xs h.1)

weaker : {X : Type 0} (P Q : X → Type 0) → ((x : X) → P x → Q x) → (xs : List X) → AllByRecursion P xs → AllByRecursion Q xs
weaker P Q f [] h = tt
weaker P Q f (x ∷ xs) h = (f x h.0, weaker P Q f xs h.1)

pub made_at : {X Y : Type 0} (g : X → Y) (xs : List X) (i : ℕ) (x : X) (d : Y) → slice_get xs i ≡ Some x → get_or (map g xs) i d ≡ g x
made_at g [] i x d e = absurd cc
made_at {X} g (y ∷ ys) zero x d e = ap (λ (o : Option X). g (unwrap_or o y)) e
made_at g (y ∷ ys) (suc i) x d e = made_at g ys i x d e

pub all_at : {X : Type 0} (P : X → Type 0) (xs : List X) (i : ℕ) (x : X) → AllByRecursion P xs → slice_get xs i ≡ Some x → P x
all_at P [] i x h e = absurd cc
all_at {X} P (y ∷ ys) zero x h e = subst P (ap (λ (o : Option X). unwrap_or o y) e) h.0
all_at P (y ∷ ys) (suc i) x h e = all_at P ys i x h.1 e

module _ (source : BlockSource) (outer : List Combination) (valid : IsDatabase source.database) (blocks around : Blocks) (n : ℕ) (typed : AreTypedAround source.database around outer) where
  abbrev Formed : ValueExpr → Type 0
  Formed = IsFormedValue source.database blocks around n (block_in source)

  abbrev TypedIn : ValueExpr → Type 0
  TypedIn = IsTypedValue source.database blocks around n (block_in source)

  -- on a combination, with the values of set functions; no inner block is asked for
  module _ (functions : List (Meaning Value)) (sets : (number : ℕ) (type : ValueType) → Formed (AggregateValue number type) → MeansOne type (get_or functions number (Is Null)))
      (c : Combination) (own : IsTypedCombination source.database (block_in source) c) where
    abbrev env : Environment
    env = at_group (context_in source outer) functions c

    mutual
      fitting : (e : ValueExpr) → Formed e → FitsTypes env e
      fitting (Column column type) f = (own_type source.database (block_in source) column type valid f, own column type f)
      fitting (Parameter between column type) f = (own_type source.database f.0 column type valid f.2, typed between f.0 f.1 column type f.2)
      fitting (Numeral units digits scale) f = f.0
      fitting (String codes) f = tt
      fitting (Signed minus operand) f = fitting operand f
      fitting (Chain first others) f = (fitting first f.0, all_fitting others f.1)
      fitting (AggregateValue number type) f = sets number type f
      fitting (Subquery number type) f = tt

      all_fitting : (others : Operands) → AreFormedOperands source.database blocks around n (block_in source) others → AllFitTypes env others
      all_fitting NoOperand f = tt
      all_fitting (Operand operator operand others) f = (fitting operand f.0, all_fitting others f.1)

    can_evaluate : (condition : Condition) → OfValues TypedIn condition → CanEvaluate env condition
    can_evaluate condition h = record {
      fits = weaker TypedIn (FitsTypes env) (λ e t. fitting e t.0) (values_of condition) h;
      typed = weaker TypedIn IsTyped (λ e t. some_type (value_type e) t.1) (values_of condition) h;
    }

    can_have : (having : Option Condition) → IfCondition source.database blocks around n (block_in source) having → CanHave env having
    can_have None h = tt
    can_have (Some condition) h = can_evaluate condition h.0

    can_give : (item : Item) → TypedIn item.value → CanGive env item
    can_give item h = record { fits = fitting item.value h.0; typed = some_type (value_type item.value) h.1 }

    can_take : (f : Aggregate) → IsFormedFunction source.database blocks around n (block_in source) f → CanTake env f
    can_take CountRows h = tt
    can_take (q.OfValues kind distinct argument) h = (fitting argument h.0, some_type (value_type argument) h.1)

  no_sets : (number : ℕ) (type : ValueType) → Formed (AggregateValue number type) → MeansOne type (get_or [] number (Is Null))
  no_sets number type f = tt

-- ---- on any composite, without set functions

module _ (source : BlockSource) (outer : List Combination) (composite : Composite) (valid : IsDatabase source.database) (surrounded : IsSurrounded source outer) where
  abbrev here : Combination
  here = combination_of source.database (block_in source) composite

  pub late_can : AllByRecursion (CanEvaluate (environment_at source outer composite)) (late_conjuncts (block_in source))
  late_can =
      let (blocks, around, n, formed, typed) = surrounded in
      let Typed : ValueExpr → Type 0 = IsTypedValue source.database blocks around n (block_in source) in
      chosen (CanEvaluate (environment_at source outer composite)) is_late (conjuncts (block_in source))
      (weaker (OfValues Typed) (CanEvaluate (environment_at source outer composite)) (can_evaluate source outer valid blocks around n typed [] (no_sets source outer valid blocks around n typed) here (composites_typed source.database (block_in source) composite valid))
      (conjuncts (block_in source)) (typed_conjuncts source.database blocks around n (block_in source) formed))

  pub items_can : AllByRecursion (CanGive (environment_at source outer composite)) (block_in source).items
  items_can =
      let (blocks, around, n, formed, typed) = surrounded in
      let Typed : ValueExpr → Type 0 = IsTypedValue source.database blocks around n (block_in source) in
      weaker (λ (i : Item). Typed i.value) (CanGive (environment_at source outer composite)) (can_give source outer valid blocks around n typed [] (no_sets source outer valid blocks around n typed) here (composites_typed source.database (block_in source) composite valid)) (block_in source).items formed.items

  pub functions_can : AllByRecursion (CanTake (environment_at source outer composite)) (block_in source).functions
  functions_can =
      let (blocks, around, n, formed, typed) = surrounded in
      weaker (IsFormedFunction source.database blocks around n (block_in source)) (CanTake (environment_at source outer composite)) (can_take source outer valid blocks around n typed [] (no_sets source outer valid blocks around n typed) here (composites_typed source.database (block_in source) composite valid))
      (block_in source).functions formed.functions

-- ---- over a group, at any combination that has types

module _ (source : BlockSource) (outer : List Combination) (valid : IsDatabase source.database) (surrounded : IsSurrounded source outer) (right : AllByRecursion IsRightFunction (block_in source).functions)
    (members : List Combination) (own : AllByRecursion (IsTypedCombination source.database (block_in source)) members)
    (vs : List Value) (are : map (function_value (context_in source outer) members) (block_in source).functions ≡ map Is vs)
    (c : Combination) (at_c : IsTypedCombination source.database (block_in source) c) where
  abbrev over : Environment
  over = at_group (context_in source outer) (map Is vs) c

  sets_typed : (blocks around : Blocks) (n : ℕ) → IsFormedBlock source.database blocks around n (block_in source) → AreTypedAround source.database around outer
      → (number : ℕ) (type : ValueType) → IsFormedValue source.database blocks around n (block_in source) (AggregateValue number type) → MeansOne type (get_or (map Is vs) number (Is Null))
  sets_typed blocks around n formed typed number type (f, there, kind) =
      let fs = (block_in source).functions in
      let value = function_value (context_in source outer) members in
      subst (λ ms. MeansOne type (get_or ms number (Is Null))) are
      (subst (MeansOne type) (sym (made_at value fs number f (Is Null) there))
      (function_values_have_their_types (context_in source outer) blocks around n (block_in source) f type members (valid, typed) (all_at (IsFormedFunction source.database blocks around n (block_in source)) fs number f formed.functions there) (all_at IsRightFunction fs number f right there) own kind))

  pub group_items_can : AllByRecursion (CanGive over) (block_in source).items
  group_items_can =
      let (blocks, around, n, formed, typed) = surrounded in
      let Typed : ValueExpr → Type 0 = IsTypedValue source.database blocks around n (block_in source) in
      weaker (λ (i : Item). Typed i.value) (CanGive over) (can_give source outer valid blocks around n typed (map Is vs) (sets_typed blocks around n formed typed) c at_c) (block_in source).items formed.items

  pub group_having_can : CanHave over (block_in source).having
  group_having_can =
      let (blocks, around, n, formed, typed) = surrounded in
      can_have source outer valid blocks around n typed (map Is vs) (sets_typed blocks around n formed typed) c at_c (block_in source).having formed.having
