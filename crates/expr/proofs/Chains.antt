-- Operands of one line, from the left.
use Rattle.std.proofs.Common.{◌≡◌, ◌∙◌, refl, sym, ap, ℕ, ◌+◌, ◌≤◌, Bool, true, false, Option, Some, None, Result, Ok, Err, arith}
use Rattle.std.specs.Prelude.{nat_le, if◌then◌else◌}
use Rattle.std.proofs.lemmas.Bool.Decides.{nat_tests}
use Rattle.definitions.specs.Value.{Value, Null, Number, Text}
use Rattle.definitions.specs.ValueType.{ValueType, NumberType, TextType, HasValueType}
use Rattle.definitions.specs.Arithmetic.{Meaning, Is, Raises, Raise}
use Rattle.definitions.specs.Queries.BoundBlock.{Operator, Plus, Minus, Times, Over, Operands, NoOperand, Operand, ValueExpr, Chain}
use Rattle.definitions.specs.Queries.BoundTypes.{value_type, operands_type, type_of_two, arithmetic_type}
use Rattle.definitions.specs.Queries.Evaluation.{Environment, value, chained, operation, and_then_two}
use Rattle.definitions.specs.Queries.Laws.{FitsTypes, AllFitTypes, MeansOne}
use Rattle.definitions.specs.Queries.Telling.{MayAnswer}
use Rattle.expr.specs.Answers.{FitsOperator, FitsBoth}
use Rattle.definitions.proofs.QueryTheory.TypedValues.{two_typed, values_have_their_types}

-- a line has a type only where each part of it has
pub record Typed (o : Option ValueType) : Type 0 where
  pub type : ValueType
  pub is : o ≡ Some type

both_typed : (operator : Operator) (o p : Option ValueType) (type : ValueType) → type_of_two operator o p ≡ Some type → Typed o × Typed p
both_typed operator (Some a) (Some b) type e = (record { type = a; is = refl }, record { type = b; is = refl })
both_typed operator None p type e = absurd cc
both_typed operator (Some a) None type e = absurd cc

pub left_typed : (o : Option ValueType) (others : Operands) (type : ValueType) → operands_type o others ≡ Some type → Typed o
left_typed o NoOperand type e = record { type = type; is = e }
left_typed o (Operand operator e others) type h = let t = left_typed (type_of_two operator o (value_type e)) others type h in (both_typed operator o (value_type e) t.type t.is).0

pub next_typed : (o : Option ValueType) (operator : Operator) (e : ValueExpr) (others : Operands) (type : ValueType) → operands_type o (Operand operator e others) ≡ Some type → Typed (value_type e)
next_typed o operator e others type h = let t = left_typed (type_of_two operator o (value_type e)) others type h in (both_typed operator o (value_type e) t.type t.is).1

-- ---- a line of which some operands are left

pub record Reached (env : Environment) (whole : Meaning Value) (rest : Operands) (answer : Result Value Raise) : Type 0 where
  pub meaning : Meaning Value
  pub type : ValueType
  pub tells : MayAnswer meaning answer
  pub same : chained env meaning rest ≡ whole
  pub fits : AllFitTypes env rest
  pub typed : Typed (operands_type (Some type) rest)
  pub means : MeansOne type meaning

pub begin : (env : Environment) (first : ValueExpr) (others : Operands) (answer : Result Value Raise) → MayAnswer (value env first) answer → FitsTypes env (Chain first others) → Typed (value_type (Chain first others)) → Reached env (value env (Chain first others)) others answer
begin env first others answer tells fits typed =
    let one = left_typed (value_type first) others typed.type typed.is in
    record {
      meaning = value env first;
      type = one.type;
      tells = tells;
      same = refl;
      fits = fits.1;
      typed = record { type = typed.type; is = rw (← one.is) typed.is };
      means = values_have_their_types env first one.type fits.0 one.is;
    }

-- two operands, whose types go together
joined_means : (operator : Operator) (t u w : ValueType) (m n : Meaning Value) → MeansOne t m → MeansOne u n → arithmetic_type operator t u ≡ Some w → MeansOne w (and_then_two (operation operator) m n)
joined_means operator t u w (Is v) (Is x) h l e = two_typed operator t u w v x h l e
joined_means operator t u w (Is v) (Raises r rs) h l e = tt
joined_means operator t u w (Raises r rs) n h l e = tt

fits_times : (a b : ℕ) (w : ValueType) (chosen : Bool) → nat_le (a + b) 18 ≡ chosen → (if chosen then Some (NumberType (a + b)) else None) ≡ Some w → a + b ≤ 18
fits_times a b w true h e = grind (arith, nat_tests, h)
fits_times a b w false h e = absurd cc

-- the scale of a product
scales_fit : (operator : Operator) (t u w : ValueType) (v x : Value) → HasValueType t v → HasValueType u x → arithmetic_type operator t u ≡ Some w → FitsOperator operator v x
scales_fit Times (NumberType a) (NumberType b) w (Number y m) (Number z n) h l e = rw (h, l) (fits_times a b w (nat_le (a + b) 18) refl e)
scales_fit Times (NumberType a) (NumberType b) w Null x h l e = tt
scales_fit Times (NumberType a) (NumberType b) w (Number y m) Null h l e = tt
scales_fit Times (NumberType a) (NumberType b) w (Text t) x h l e = absurd h
scales_fit Times (NumberType a) (NumberType b) w (Number y m) (Text t) h l e = absurd l
scales_fit Times TextType u w v x h l e = absurd cc
scales_fit Times (NumberType a) TextType w v x h l e = absurd cc
scales_fit Plus t u w v x h l e = tt
scales_fit Minus t u w v x h l e = tt
scales_fit Over t u w v x h l e = tt

answers_fit : (operator : Operator) (t u w : ValueType) (m n : Meaning Value) (a b : Result Value Raise) → MeansOne t m → MeansOne u n → arithmetic_type operator t u ≡ Some w → MayAnswer m a → MayAnswer n b → FitsBoth operator a b
answers_fit operator t u w (Is v) (Is x) (Ok y) (Ok z) h l e p q = scales_fit operator t u w y z (rw p h) (rw q l) e
answers_fit operator t u w m n (Err r) b h l e p q = tt
answers_fit operator t u w m n (Ok y) (Err r) h l e p q = tt
answers_fit operator t u w (Raises r rs) n (Ok y) (Ok z) h l e p q = absurd p
answers_fit operator t u w (Is v) (Raises r rs) (Ok y) (Ok z) h l e p q = absurd q

-- what is known of the next operand, and of what it leads to
pub record Next (env : Environment) (whole : Meaning Value) (operator : Operator) (e : ValueExpr) (rest : Operands) (answer : Result Value Raise) : Type 0 where
  pub left : Meaning Value
  pub tells : MayAnswer left answer
  pub fits : FitsTypes env e
  pub typed : Typed (value_type e)
  pub both : (b : Result Value Raise) → MayAnswer (value env e) b → FitsBoth operator answer b
  pub reached : (b : Result Value Raise) → MayAnswer (and_then_two (operation operator) left (value env e)) b → Reached env whole rest b

pub next : (env : Environment) (whole : Meaning Value) (operator : Operator) (e : ValueExpr) (rest : Operands) (answer : Result Value Raise) → Reached env whole (Operand operator e rest) answer → Next env whole operator e rest answer
next env whole operator e rest answer r =
    let one = next_typed (Some r.type) operator e rest r.typed.type r.typed.is in
    let both = left_typed (type_of_two operator (Some r.type) (value_type e)) rest r.typed.type r.typed.is in
    let joined : arithmetic_type operator r.type one.type ≡ Some both.type = sym (ap (type_of_two operator (Some r.type)) one.is) ∙ both.is in
    let means = values_have_their_types env e one.type r.fits.0 one.is in
    record {
      left = r.meaning;
      tells = r.tells;
      fits = r.fits.0;
      typed = one;
      both = λ b h. answers_fit operator r.type one.type both.type r.meaning (value env e) answer b r.means means joined r.tells h;
      reached = λ b h. record {
        meaning = and_then_two (operation operator) r.meaning (value env e);
        type = both.type;
        tells = h;
        same = r.same;
        fits = r.fits.1;
        typed = record { type = r.typed.type; is = rw (← both.is) r.typed.is };
        means = joined_means operator r.type one.type both.type r.meaning (value env e) r.means means joined;
      };
    }
