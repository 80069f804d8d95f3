-- Values have the types that are known before any row is read.
use Rattle.std.proofs.Common.{◌≡◌, refl, ap, ap₂, subst, ℕ, ◌+◌, List, [], ◌∷◌, Some, true, false}
use Rattle.std.specs.Prelude.{ℤ, pos, ◌+ℤ◌, ◌*ℤ◌, ◌-◌, ◌^◌, Bool, Option, None, nat_le, nat_abs, ◌==◌, max, get_or, if◌then◌else◌, unwrap_or, int_div, ◌&&◌}
use Rattle.definitions.specs.Value.{Value, Null, Number, Text, SqlType, Smallint, Integer, Numeric, Char, HasType}
use Rattle.definitions.specs.Table.{Row}
use Rattle.definitions.specs.ValueType.{ValueType, NumberType, TextType, HasValueType, type_of}
use Rattle.definitions.specs.Arithmetic.{Meaning, Is, Raises, raised, OutOfRange, DivisionByZero, judged, is_in_bounds, at_scale, negative, plus, minus, times, over, quotient, quotient_scale}
use Rattle.definitions.specs.Queries.BoundBlock as b
use Rattle.definitions.specs.Queries.BoundBlock.{ValueExpr, Operands, Operator}
use Rattle.definitions.specs.Queries.Evaluation.{Environment, value, chained, cell, operation, signed, only_value, on_one, and_then, and_then_two}
use Rattle.definitions.specs.Queries.BoundTypes.{value_type, operands_type, type_of_two, arithmetic_type, signed_type}
use Rattle.definitions.specs.Queries.Laws.{FitsTypes, AllFitTypes, MeansOne, MeansRows, ValuesHaveTheirTypes}

column_typed : (type : SqlType) (v : Value) → HasType type v → HasValueType (type_of type) v
column_typed type Null h = tt
column_typed Smallint (Number u s) h = h.0
column_typed Integer (Number u s) h = h.0
column_typed (Numeric p q) (Number u s) h = h.0
column_typed (Char n) (Number u s) h = absurd h.1
column_typed (Char n) (Text c) h = tt
column_typed Smallint (Text c) h = absurd h
column_typed Integer (Text c) h = absurd h
column_typed (Numeric p q) (Text c) h = absurd h

either_means : (type : ValueType) (chosen : Bool) (m n : Meaning Value) → MeansOne type m → MeansOne type n → MeansOne type (if chosen then m else n)
either_means type true m n h l = h
either_means type false m n h l = l

judged_means : (u : ℤ) (s : ℕ) → MeansOne (NumberType s) (judged u s)
judged_means u s = either_means (NumberType s) (is_in_bounds u) (Is (Number u s)) (raised OutOfRange) refl tt

sum_typed : (m n : ℕ) (v w : Value) → HasValueType (NumberType m) v → HasValueType (NumberType n) w → MeansOne (NumberType (max m n)) (plus v w)
sum_typed m n (Number a s) (Number c r) h l =
    subst (λ k. MeansOne (NumberType k) (plus (Number a s) (Number c r))) (ap₂ max h l)
    (either_means (NumberType (max s r)) (is_in_bounds (at_scale (max s r) a s) && is_in_bounds (at_scale (max s r) c r)) (judged (at_scale (max s r) a s +ℤ at_scale (max s r) c r) (max s r)) (raised OutOfRange)
    (judged_means (at_scale (max s r) a s +ℤ at_scale (max s r) c r) (max s r)) tt)
sum_typed m n Null w h l = tt
sum_typed m n (Number a s) Null h l = tt
sum_typed m n (Text t) w h l = absurd h
sum_typed m n (Number a s) (Text t) h l = absurd l

product_typed : (m n : ℕ) (v w : Value) → HasValueType (NumberType m) v → HasValueType (NumberType n) w → MeansOne (NumberType (m + n)) (times v w)
product_typed m n (Number a s) (Number c r) h l = subst (λ k. MeansOne (NumberType k) (times (Number a s) (Number c r))) (ap₂ ◌+◌ h l) (judged_means (a *ℤ c) (s + r))
product_typed m n Null w h l = tt
product_typed m n (Number a s) Null h l = tt
product_typed m n (Text t) w h l = absurd h
product_typed m n (Number a s) (Text t) h l = absurd l

quotient_means : (x y : ℤ) (k : ℕ) → MeansOne (NumberType k) (quotient x y k)
quotient_means x y k =
    either_means (NumberType k) (nat_abs y == 0) (raised DivisionByZero) (if is_in_bounds x then Is (Number (int_div x y) k) else raised OutOfRange) tt
    (either_means (NumberType k) (is_in_bounds x) (Is (Number (int_div x y) k)) (raised OutOfRange) refl tt)

quotient_typed : (m n : ℕ) (v w : Value) → HasValueType (NumberType m) v → HasValueType (NumberType n) w → MeansOne (NumberType (quotient_scale m)) (over v w)
quotient_typed m n (Number a s) (Number c r) h l =
    subst (λ k. MeansOne (NumberType (quotient_scale k)) (over (Number a s) (Number c r))) h (quotient_means (a *ℤ pos (10 ^ ((quotient_scale s + r) - s))) c (quotient_scale s))
quotient_typed m n Null w h l = tt
quotient_typed m n (Number a s) Null h l = tt
quotient_typed m n (Text t) w h l = absurd h
quotient_typed m n (Number a s) (Text t) h l = absurd l

negative_typed : (type : ValueType) (v : Value) → HasValueType type v → HasValueType type (negative v)
negative_typed type Null h = tt
negative_typed (NumberType n) (Number u s) h = h
negative_typed TextType (Text c) h = tt
negative_typed TextType (Number u s) h = absurd h
negative_typed (NumberType n) (Text c) h = absurd h

same_type : (a c : ValueType) → Some a ≡ Some c → a ≡ c
same_type a c e = ap (λ o. unwrap_or o a) e

product_type : (chosen : Bool) (a c : ValueType) → (if chosen then Some a else None) ≡ Some c → a ≡ c
product_type true a c e = same_type a c e
product_type false a c e = cc

pub two_typed : (operator : Operator) (t u w : ValueType) (v x : Value) → HasValueType t v → HasValueType u x → arithmetic_type operator t u ≡ Some w → MeansOne w (operation operator v x)
two_typed b.Plus (NumberType m) (NumberType n) w v x h l e = subst (λ k. MeansOne k (plus v x)) (same_type _ _ e) (sum_typed m n v x h l)
two_typed b.Minus (NumberType m) (NumberType n) w v x h l e = subst (λ k. MeansOne k (plus v (negative x))) (same_type _ _ e) (sum_typed m n v (negative x) h (negative_typed (NumberType n) x l))
two_typed b.Times (NumberType m) (NumberType n) w v x h l e = subst (λ k. MeansOne k (times v x)) (product_type (nat_le (m + n) 18) _ _ e) (product_typed m n v x h l)
two_typed b.Over (NumberType m) (NumberType n) w v x h l e = subst (λ k. MeansOne k (over v x)) (same_type _ _ e) (quotient_typed m n v x h l)
two_typed b.Plus TextType u w v x h l e = cc
two_typed b.Minus TextType u w v x h l e = cc
two_typed b.Times TextType u w v x h l e = cc
two_typed b.Over TextType u w v x h l e = cc
two_typed b.Plus (NumberType m) TextType w v x h l e = cc
two_typed b.Minus (NumberType m) TextType w v x h l e = cc
two_typed b.Times (NumberType m) TextType w v x h l e = cc
two_typed b.Over (NumberType m) TextType w v x h l e = cc

abbrev Typed : Option ValueType → Meaning Value → Type 0
Typed o m = (t : ValueType) → o ≡ Some t → MeansOne t m

both_typed : (operator : Operator) (o p : Option ValueType) (m n : Meaning Value) → Typed o m → Typed p n → Typed (type_of_two operator o p) (and_then_two (operation operator) m n)
both_typed operator (Some a) (Some c) (Is v) (Is x) h l w e = two_typed operator a c w v x (h a refl) (l c refl) e
both_typed operator o p (Raises r rs) n h l w e = tt
both_typed operator o p (Is v) (Raises r rs) h l w e = tt
both_typed operator None p (Is v) (Is x) h l w e = cc
both_typed operator (Some a) None (Is v) (Is x) h l w e = cc

sign_typed : (minus : Bool) (o : Option ValueType) (m : Meaning Value) → Typed o m → Typed (signed_type o) (on_one (signed minus) m)
sign_typed minus o (Raises r rs) h w e = tt
sign_typed true (Some (NumberType s)) (Is v) h w e = subst (λ k. HasValueType k (negative v)) (same_type _ _ e) (negative_typed (NumberType s) v (h (NumberType s) refl))
sign_typed false (Some (NumberType s)) (Is v) h w e = h w e
sign_typed minus (Some TextType) (Is v) h w e = cc
sign_typed minus None (Is v) h w e = cc

only_typed : (t : ValueType) (m : Meaning (List Row)) → MeansRows t m → MeansOne t (and_then only_value m)
only_typed t (Raises r rs) h = tt
only_typed t (Is []) h = tt
only_typed t (Is (row ∷ [])) h = h.0
only_typed t (Is (row ∷ row' ∷ rows)) h = tt

mutual
  typed : (env : Environment) (e : ValueExpr) → FitsTypes env e → Typed (value_type e) (value env e)
  typed env (b.Column c type) h t e = subst (λ k. HasValueType k (cell env.combination c)) (same_type _ _ e) (column_typed type (cell env.combination c) h.1)
  typed env (b.Parameter n c type) h t e = subst (λ k. HasValueType k (cell (get_or env.outer n []) c)) (same_type _ _ e) (column_typed type (cell (get_or env.outer n []) c) h.1)
  typed env (b.Numeral units digits scale) h t e = subst (λ k. HasValueType k (Number (pos units) scale)) (same_type _ _ e) refl
  typed env (b.String codes) h t e = subst (λ k. HasValueType k (Text codes)) (same_type _ _ e) tt
  typed env (b.Signed negated operand) h t e = sign_typed negated (value_type operand) (value env operand) (typed env operand h) t e
  typed env (b.Chain first others) h t e = chain_typed env (value env first) (value_type first) others (typed env first h.0) h.1 t e
  typed env (b.AggregateValue n type) h t e = subst (λ k. MeansOne k (get_or env.functions n (Is Null))) (same_type _ _ e) h
  typed env (b.Subquery n type) h t e = subst (λ k. MeansOne k (and_then only_value (env.inner n))) (same_type _ _ e) (only_typed type (env.inner n) h)

  chain_typed : (env : Environment) (left : Meaning Value) (o : Option ValueType) (others : Operands) → Typed o left → AllFitTypes env others → Typed (operands_type o others) (chained env left others)
  chain_typed env left o b.NoOperand h l = h
  chain_typed env left o (b.Operand operator e others) h l =
      chain_typed env (and_then_two (operation operator) left (value env e)) (type_of_two operator o (value_type e)) others (both_typed operator o (value_type e) left (value env e) h (typed env e l.0)) l.1

pub values_have_their_types : ValuesHaveTheirTypes
values_have_their_types env e type h is = typed env e h type is
