-- The values of a formed expression have one shape, on whatever combination.
use Rattle.std.proofs.Common.{ℤ, pos, not, nat_abs, ◌≡◌, refl, sym, ap, subst, ℕ, List, [], ◌∷◌, Bool, true, false, Option, Some, None, is_some, get_or, map, length, true≢false}
use Rattle.std.specs.Prelude.{cond, ◌*ℤ◌, ◌^◌, ◌-◌, nat_le, ◌+◌, ◌==◌, IsTrue, filter, flat_map, int_div, unwrap_or}
use Rattle.std.specs.Ordering.{is_lt}
use Rattle.std.specs.List.{AllByRecursion}
use Rattle.definitions.specs.Value.{rank, Value, Null, Number, Text, SqlType, Smallint, Integer, Numeric, Char, HasType, IsType, is_null}
use Rattle.definitions.specs.ValueType.{ValueType, NumberType, TextType, type_of, HasValueType}
use Rattle.definitions.specs.Table.{Database}
use Rattle.definitions.specs.Invariant.{IsDatabase}
use Rattle.definitions.specs.Arithmetic.{DivisionByZero, OutOfRange, Raise, Meaning, Is, Raises, is_in_bounds, judged, over, quotient, quotient_scale, raised}
use Rattle.definitions.specs.Statement.{SetFunction, Count, Sum, Avg, Min, Max}
use Rattle.definitions.specs.Plans.Order.{BlockColumn}
use Rattle.definitions.specs.Queries.BoundBlock.{Operator, Plus, Minus, Times, Over, ValueExpr, Column, Parameter, Numeral, String, Signed, Chain, AggregateValue, Subquery, Operands, NoOperand, Operand, Aggregate, CountRows, OfValues, Item, Block, Blocks}
use Rattle.definitions.specs.Queries.BoundTypes.{value_type, operands_type, type_of_two, arithmetic_type, signed_type}
use Rattle.definitions.specs.Queries.Conjuncts.{blocks_in, operand_blocks}
use Rattle.definitions.specs.Queries.Evaluation.{Combination, Environment, and_then, cell, value}
use Rattle.definitions.specs.Queries.Combinations.{Context, at, at_group, raises_of}
use Rattle.definitions.specs.Queries.Grouping.{aggregate, among, counted, greater, lesser, results, same_value, sum_value, taken, unless_raised}
use Rattle.definitions.specs.Queries.Laws.{FitsTypes, AllFitTypes, MeansOne}
use Rattle.definitions.specs.Binding.Formed.{HasColumn, IsFormedFunction, IsFormedValue, AreFormedOperands, IsTypedValue, kind_type}
use Rattle.definitions.proofs.QueryTheory.TypedValues.{values_have_their_types}
use Rattle.definitions_execution.specs.TypedCombinations.{IsTypedCombination, AreTypedAround}
use Rattle.definitions_execution.proofs.TypedRows.{rows_typed, column_type}
use Rattle.definitions.specs.Binding.Answerable.{IsRightFunction}
use Rattle.definitions_answers.specs.Formed.{FunctionValuesHaveTheirTypes, ArgumentsHaveShapes, PlainRowsHaveShapes}
use Rattle.definitions_answers.specs.GroupRows.{HasArgumentShape, MeansShape}
use Rattle.definitions_answers.specs.Shapes.{Shape, Numbers, Texts, HasShape, HasShapes, Sums}
use Rattle.definitions_answers.specs.GroupTotals.{total_of}
use Rattle.definitions_answers.proofs.Aggregates.{sum_by_total, sum_by_units}
use Rattle.definitions_answers.proofs.Taken.{all_filtered, all_left, taken_there}
use Rattle.definitions_answers.proofs.GroupRows.{none_first, none_second}

own_type : (db : Database) (block : Block) (column : BlockColumn) (type : SqlType) → IsDatabase db → HasColumn db block column type → IsType type
own_type db block column type valid (n, t, c, at, there, own, is) = subst IsType is (column_type t.columns column.number c (rows_typed db n t valid.each there).0.types own)

pub some_type : (o : Option ValueType) → IsTrue (is_some o) → (type : ValueType) × (o ≡ Some type)
some_type None h = absurd (true≢false (sym h))
some_type (Some type) h = (type, refl)

-- the shape of a text column
text_column : (type : SqlType) → type_of type ≡ TextType → (shape : Shape) × ((w : Value) → HasType type w → HasShape shape w)
text_column Smallint e = absurd cc
text_column Integer e = absurd cc
text_column (Numeric p s) e = absurd cc
text_column (Char n) e = (Texts n, of_char)
  where
    of_char : (w : Value) → HasType (Char n) w → HasShape (Texts n) w
    of_char Null h = tt
    of_char (Number u s) h = absurd h.1
    of_char (Text codes) h = h.0

number_shape : (scale : ℕ) (m : Meaning Value) → MeansOne (NumberType scale) m → MeansShape (Numbers scale) m
number_shape scale (Is Null) h = tt
number_shape scale (Is (Number u s)) h = h
number_shape scale (Is (Text t)) h = absurd h
number_shape scale (Raises r rs) h = tt

signed_is_number : (o : Option ValueType) → signed_type o ≡ Some TextType → ⊥
signed_is_number None e = cc
signed_is_number (Some (NumberType s)) e = cc
signed_is_number (Some TextType) e = cc

-- a chain of arithmetic is no text
joined_is_number : (operator : Operator) (a c : Option ValueType) → type_of_two operator a c ≡ Some TextType → ⊥
joined_is_number operator None c e = cc
joined_is_number operator (Some a) None e = cc
joined_is_number Plus (Some (NumberType m)) (Some (NumberType n)) e = cc
joined_is_number Minus (Some (NumberType m)) (Some (NumberType n)) e = cc
joined_is_number Times (Some (NumberType m)) (Some (NumberType n)) e = by_limit (nat_le (m + n) 18) e
  where
    by_limit : (t : Bool) → cond t (Some (NumberType (m + n))) None ≡ Some TextType → ⊥
    by_limit true k = cc
    by_limit false k = cc
joined_is_number Over (Some (NumberType m)) (Some (NumberType n)) e = cc
joined_is_number operator (Some TextType) (Some c) e = text_first operator c e
  where
    text_first : (o : Operator) (t : ValueType) → arithmetic_type o TextType t ≡ Some TextType → ⊥
    text_first Plus t k = cc
    text_first Minus t k = cc
    text_first Times t k = cc
    text_first Over t k = cc
joined_is_number operator (Some (NumberType m)) (Some TextType) e = text_second operator e
  where
    text_second : (o : Operator) → arithmetic_type o (NumberType m) TextType ≡ Some TextType → ⊥
    text_second Plus k = cc
    text_second Minus k = cc
    text_second Times k = cc
    text_second Over k = cc

no_text_from : (o : Option ValueType) (others : Operands) → (o ≡ Some TextType → ⊥) → operands_type o others ≡ Some TextType → ⊥
no_text_from o NoOperand none e = none e
no_text_from o (Operand operator operand others) none e = no_text_from (type_of_two operator o (value_type operand)) others (joined_is_number operator o (value_type operand)) e

module _ (context : Context) (blocks around : Blocks) (n : ℕ) (b : Block) (valid : IsDatabase context.database) (typed_around : AreTypedAround context.database around context.outer) where
  abbrev Typed : Combination → Type 0
  Typed = IsTypedCombination context.database b

  abbrev Formed : ValueExpr → Type 0
  Formed = IsFormedValue context.database blocks around n b

  -- ---- on combinations, each with values of the set functions that are of their types; texts among these have one shape

  module _ (Place : Type 0) (functions : Place → List (Meaning Value)) (combination : Place → Combination) (typed : (p : Place) → Typed (combination p))
      (typed_functions : (number : ℕ) (type : ValueType) → Formed (AggregateValue number type) → (p : Place) → MeansOne type (get_or (functions p) number (Is Null)))
      (shaped_functions : (number : ℕ) → Formed (AggregateValue number TextType) → (shape : Shape) × ((p : Place) → MeansShape shape (get_or (functions p) number (Is Null)))) where
    abbrev there : Place → Environment
    there p = at_group context (functions p) (combination p)

    mutual
      fitting : (p : Place) (e : ValueExpr) → Formed e → blocks_in e ≡ [] → FitsTypes (there p) e
      fitting p (Column column type) f k = (own_type context.database b column type valid f, typed p column type f)
      fitting p (Parameter between column type) f k = (own_type context.database f.0 column type valid f.2, typed_around between f.0 f.1 column type f.2)
      fitting p (Numeral units digits scale) f k = f.0
      fitting p (String codes) f k = tt
      fitting p (Signed minus operand) f k = fitting p operand f k
      fitting p (Chain first others) f k = (fitting p first f.0 (none_first (blocks_in first) (operand_blocks others) k), all_fitting p others f.1 (none_second (blocks_in first) (operand_blocks others) k))
      fitting p (AggregateValue number type) f k = typed_functions number type f p
      fitting p (Subquery number type) f k = absurd cc

      all_fitting : (p : Place) (others : Operands) → AreFormedOperands context.database blocks around n b others → operand_blocks others ≡ [] → AllFitTypes (there p) others
      all_fitting p NoOperand f k = tt
      all_fitting p (Operand operator operand others) f k = (fitting p operand f.0 (none_first (blocks_in operand) (operand_blocks others) k), all_fitting p others f.1 (none_second (blocks_in operand) (operand_blocks others) k))

    abbrev HasOneShape : ValueExpr → Type 0
    HasOneShape e = (shape : Shape) × ((p : Place) → MeansShape shape (value (there p) e))

    text_shape : (e : ValueExpr) → Formed e → blocks_in e ≡ [] → value_type e ≡ Some TextType → HasOneShape e
    text_shape (Column column type) f k e =
        let (shape, has) = text_column type (ap (λ o. unwrap_or o TextType) e) in
        (shape, λ p. has (cell (combination p) column) (typed p column type f))
    text_shape (Parameter between column type) f k e =
        let (shape, has) = text_column type (ap (λ o. unwrap_or o TextType) e) in
        (shape, λ p. has (cell (get_or context.outer between []) column) (typed_around between f.0 f.1 column type f.2))
    text_shape (Numeral units digits scale) f k e = absurd cc
    text_shape (String codes) f k e = (Texts (length codes), λ p. refl)
    text_shape (Signed minus operand) f k e = absurd (signed_is_number (value_type operand) e)
    text_shape (Chain first NoOperand) f k e = text_shape first f.0 (none_first (blocks_in first) [] k) e
    text_shape (Chain first (Operand operator operand others)) f k e = absurd (no_text_from (type_of_two operator (value_type first) (value_type operand)) others (joined_is_number operator (value_type first) (value_type operand)) e)
    text_shape (AggregateValue number type) f k e = shaped_functions number (subst (λ t. Formed (AggregateValue number t)) (ap (λ o. unwrap_or o TextType) e) f)
    text_shape (Subquery number type) f k e = absurd cc

    pub one_shape : (e : ValueExpr) → Formed e → blocks_in e ≡ [] → (type : ValueType) → value_type e ≡ Some type → HasOneShape e
    one_shape e f k (NumberType scale) is = (Numbers scale, λ p. number_shape scale (value (there p) e) (values_have_their_types (there p) e (NumberType scale) (fitting p e f k) is))
    one_shape e f k TextType is = text_shape e f k is

    -- rows
    pub items_shapes : (items : List Item) → AllByRecursion (λ (i : Item). IsTypedValue context.database blocks around n b i.value) items → AllByRecursion (λ (i : Item). blocks_in i.value ≡ []) items
        → (shapes : List Shape) × ((p : Place) → flat_map raises_of (map (λ (i : Item). value (there p) i.value) items) ≡ [] → HasShapes shapes (results (map (λ (i : Item). value (there p) i.value) items)))
    items_shapes [] f k = ([], λ p e. tt)
    items_shapes (i ∷ items) f k =
        let (type, is) = some_type (value_type i.value) f.0.1 in
        let (shape, has) = one_shape i.value f.0.0 k.0 type is in
        let (shapes, have) = items_shapes items f.1 k.1 in
        (shape ∷ shapes, λ p e. both shape shapes (value (there p) i.value) (map (λ (j : Item). value (there p) j.value) items) (has p) (have p) e)
      where
        both : (shape : Shape) (shapes : List Shape) (m : Meaning Value) (ms : List (Meaning Value)) → MeansShape shape m → (flat_map raises_of ms ≡ [] → HasShapes shapes (results ms)) → flat_map raises_of (m ∷ ms) ≡ [] → HasShapes (shape ∷ shapes) (results (m ∷ ms))
        both shape shapes (Is w) ms h r e = (h, r e)
        both shape shapes (Raises q qs) ms h r e = absurd cc

  -- ---- on combinations alone

  abbrev Alone : Type 0
  Alone = (c : Combination) × Typed c

  plain_fitting : (c : Combination) → Typed c → (e : ValueExpr) → Formed e → blocks_in e ≡ [] → FitsTypes (at context c) e
  plain_fitting c t e f k = fitting Alone (λ p. []) (λ p. p.0) (λ p. p.1) (λ number type g p. tt) (λ number g. (Texts 0, λ p. tt)) (c, t) e f k

  pub plain_shape : (e : ValueExpr) → Formed e → blocks_in e ≡ [] → (type : ValueType) → value_type e ≡ Some type → (shape : Shape) × ((c : Combination) → Typed c → MeansShape shape (value (at context c) e))
  plain_shape e f k type is =
      let (shape, has) = one_shape Alone (λ p. []) (λ p. p.0) (λ p. p.1) (λ number type g p. tt) (λ number g. (Texts 0, λ p. tt)) e f k type is in
      (shape, λ c t. has (c, t))

  argument_shape : (function : Aggregate) → IsFormedFunction context.database blocks around n b function → IsRightFunction function → HasArgumentShape context b function
  argument_shape CountRows f r = tt
  argument_shape (OfValues kind distinct argument) f (sound, alone) =
      let (type, is) = some_type (value_type argument) f.1 in
      by_type type is (plain_shape argument f.0 alone type is)
    where
      number_first : (scale : ℕ) → Sums kind (Numbers scale)
      number_first scale = of_kind kind
        where
          of_kind : (k : SetFunction) → Sums k (Numbers scale)
          of_kind Count = tt
          of_kind Sum = tt
          of_kind Avg = tt
          of_kind Min = tt
          of_kind Max = tt

      by_type : (type : ValueType) → value_type argument ≡ Some type → ((shape : Shape) × ((c : Combination) → Typed c → MeansShape shape (value (at context c) argument))) → (shape : Shape) × Sums kind shape × ((c : Combination) → Typed c → MeansShape shape (value (at context c) argument))
      by_type type is (Numbers scale, has) = (Numbers scale, number_first scale, has)
      by_type (NumberType scale) is (Texts l, has) = (Numbers scale, number_first scale, λ c t. number_shape scale (value (at context c) argument) (values_have_their_types (at context c) argument (NumberType scale) (plain_fitting c t argument f.0 alone) is))
      by_type TextType is (Texts l, has) = (Texts l, of_text kind (subst (λ o. IsTrue (is_some (kind_type kind o))) is sound), has)
        where
          of_text : (k : SetFunction) → IsTrue (is_some (kind_type k (Some TextType))) → Sums k (Texts l)
          of_text Count h = tt
          of_text Sum h = absurd (true≢false (sym h))
          of_text Avg h = absurd (true≢false (sym h))
          of_text Min h = tt
          of_text Max h = tt

  arguments_shapes : (functions : List Aggregate) → AllByRecursion (IsFormedFunction context.database blocks around n b) functions → AllByRecursion IsRightFunction functions → AllByRecursion (HasArgumentShape context b) functions
  arguments_shapes [] f r = tt
  arguments_shapes (function ∷ functions) f r = (argument_shape function f.0 r.0, arguments_shapes functions f.1 r.1)

pub arguments_have_shapes : ArgumentsHaveShapes
arguments_have_shapes context blocks around n b (valid, typed) formed right = arguments_shapes context blocks around n b valid typed b.functions formed.functions right

pub plain_rows_have_shapes : PlainRowsHaveShapes
plain_rows_have_shapes context blocks around n b (valid, typed) formed alone =
    let (shapes, have) = items_shapes context blocks around n b valid typed (Alone context blocks around n b valid typed) (λ p. []) (λ p. p.0) (λ p. p.1) (λ number type g p. tt) (λ number g. (Texts 0, λ p. tt)) b.items formed.items alone in
    (shapes, λ c t e. have (c, t) e)

-- ---- values of set functions

after_typed : (type : ValueType) (k : List Value → Meaning Value) (rs : List Raise) (vs : List Value) → MeansOne type (k vs) → MeansOne type (and_then k (unless_raised rs vs))
after_typed type k [] vs h = h
after_typed type k (r ∷ rs) vs h = tt

judged_typed : (scale : ℕ) (units : ℤ) → MeansOne (NumberType scale) (judged units scale)
judged_typed scale units = step (is_in_bounds units)
  where
    step : (t : Bool) → MeansOne (NumberType scale) (cond t (Is (Number units scale)) (raised OutOfRange))
    step true = refl
    step false = tt

total_typed : (scale : ℕ) (vs : List Value) → MeansOne (NumberType scale) (sum_by_total scale vs)
total_typed scale [] = tt
total_typed scale (v ∷ vs) = judged_typed scale (total_of (v ∷ vs))

quotient_typed : (numerator divisor : ℤ) (scale : ℕ) → MeansOne (NumberType scale) (quotient numerator divisor scale)
quotient_typed numerator divisor scale = step (nat_abs divisor == 0) (is_in_bounds numerator)
  where
    step : (t u : Bool) → MeansOne (NumberType scale) (cond t (raised DivisionByZero) (cond u (Is (Number (int_div numerator divisor) scale)) (raised OutOfRange)))
    step true u = tt
    step false true = refl
    step false false = tt

over_typed : (scale : ℕ) (m : Meaning Value) (count : ℤ) → MeansOne (NumberType scale) m → MeansOne (NumberType (quotient_scale scale)) (and_then (λ total. over total (Number count 0)) m)
over_typed scale (Raises r rs) count h = tt
over_typed scale (Is Null) count h = tt
over_typed scale (Is (Text t)) count h = absurd h
over_typed scale (Is (Number u s)) count h = subst (λ k. MeansOne (NumberType (quotient_scale k)) (over (Number u s) (Number count 0))) h (quotient_typed (u *ℤ pos (10 ^ ((quotient_scale s + 0) - s))) count (quotient_scale s))

pub least_has : (P : Value → Type 0) → P Null → (before : Value → Value → Bool) (vs : List Value) → AllByRecursion P vs → P (among (λ a b. cond (before b a) b a) vs)
least_has P none before [] h = none
least_has P none before (v ∷ []) h = h.0
least_has P none before (v ∷ w ∷ ws) h = step (before (among (λ a b. cond (before b a) b a) (w ∷ ws)) v) (least_has P none before (w ∷ ws) h.1)
  where
    step : (t : Bool) → P (among (λ a b. cond (before b a) b a) (w ∷ ws)) → P (cond t (among (λ a b. cond (before b a) b a) (w ∷ ws)) v)
    step true r = r
    step false r = h.0

shape_of_number : (scale : ℕ) (w : Value) → HasValueType (NumberType scale) w → HasShape (Numbers scale) w
shape_of_number scale Null h = tt
shape_of_number scale (Number u s) h = h
shape_of_number scale (Text t) h = absurd h

number_shapes : (scale : ℕ) (vs : List Value) → AllByRecursion (HasValueType (NumberType scale)) vs → AllByRecursion (HasShape (Numbers scale)) vs
number_shapes scale [] h = tt
number_shapes scale (w ∷ ws) h = (shape_of_number scale w h.0, number_shapes scale ws h.1)

pub taken_has : (P : Value → Type 0) (distinct : Bool) (vs : List Value) → AllByRecursion P vs → AllByRecursion P (taken distinct vs)
taken_has P false vs h = all_filtered P (λ w. not (is_null w)) vs h
taken_has P true vs h = all_left same_value P (filter (λ w. not (is_null w)) vs) (all_filtered P (λ w. not (is_null w)) vs h)

sum_typed : (scale : ℕ) (distinct : Bool) (vs : List Value) → AllByRecursion (HasValueType (NumberType scale)) vs → MeansOne (NumberType scale) (sum_value (taken distinct vs))
sum_typed scale distinct vs h = subst (MeansOne (NumberType scale)) (sym (sum_by_units scale (taken distinct vs) (taken_there distinct (Numbers scale) vs (number_shapes scale vs h)))) (total_typed scale (taken distinct vs))

aggregate_typed : (kind : SetFunction) (distinct : Bool) (own type : ValueType) (vs : List Value) → AllByRecursion (HasValueType own) vs → kind_type kind (Some own) ≡ Some type → MeansOne type (aggregate kind (taken distinct vs))
aggregate_typed Count distinct own type vs h e = subst (λ o. MeansOne (unwrap_or o type) (Is (counted (taken distinct vs)))) e refl
aggregate_typed Sum distinct (NumberType scale) type vs h e = subst (λ o. MeansOne (unwrap_or o type) (sum_value (taken distinct vs))) e (sum_typed scale distinct vs h)
aggregate_typed Sum distinct TextType type vs h e = absurd (true≢false (sym (ap is_some e)))
aggregate_typed Avg distinct (NumberType scale) type vs h e =
    subst (λ o. MeansOne (unwrap_or o type) (aggregate Avg (taken distinct vs))) e (over_typed scale (sum_value (taken distinct vs)) (pos (length (taken distinct vs))) (sum_typed scale distinct vs h))
aggregate_typed Avg distinct TextType type vs h e = absurd (true≢false (sym (ap is_some e)))
aggregate_typed Min distinct own type vs h e = subst (λ o. HasValueType (unwrap_or o type) (among lesser (taken distinct vs))) e (least_has (HasValueType own) tt (λ b a. is_lt (rank b a)) (taken distinct vs) (taken_has (HasValueType own) distinct vs h))
aggregate_typed Max distinct own type vs h e = subst (λ o. HasValueType (unwrap_or o type) (among greater (taken distinct vs))) e (least_has (HasValueType own) tt (λ b a. is_lt (rank a b)) (taken distinct vs) (taken_has (HasValueType own) distinct vs h))

results_typed : {X : Type 0} (type : ValueType) (f : X → Meaning Value) (P : X → Type 0) → ((x : X) → P x → MeansOne type (f x)) → (xs : List X) → AllByRecursion P xs → AllByRecursion (HasValueType type) (results (map f xs))
results_typed type f P has [] h = tt
results_typed {X} type f P has (x ∷ xs) h = step (f x) (has x h.0) (results_typed type f P has xs h.1)
  where
    step : (m : Meaning Value) → MeansOne type m → AllByRecursion (HasValueType type) (results (map f xs)) → AllByRecursion (HasValueType type) (results (m ∷ map f xs))
    step (Is w) k r = (k, r)
    step (Raises q qs) k r = r

pub function_values_have_their_types : FunctionValuesHaveTheirTypes
function_values_have_their_types context blocks around n b CountRows type group place formed right typed e = subst (λ o. MeansOne (unwrap_or o type) (Is (counted group))) e refl
function_values_have_their_types context blocks around n b (OfValues kind distinct argument) type group (valid, typed_around) formed (sound, alone) typed e =
    let (own, is) = some_type (value_type argument) formed.1 in
    let f : Combination → Meaning Value = λ c. value (at context c) argument in
    let vs = results_typed own f (IsTypedCombination context.database b) (λ c t. values_have_their_types (at context c) argument own (plain_fitting context blocks around n b valid typed_around c t argument formed.0 alone) is) group typed in
    after_typed type (λ ws. aggregate kind (taken distinct ws)) (flat_map raises_of (map f group)) (results (map f group))
    (aggregate_typed kind distinct own type (results (map f group)) vs (subst (λ o. kind_type kind o ≡ Some type) is e))
