-- The rules of the grammar move: to other tokens that agree, and to so many levels as tokens open one.
use Rattle.std.proofs.Common.{◌≡◌, refl, ℕ, zero, suc, ◌+◌, take, Bool, true, false, ◌∷◌, Some, None, arith}
use Rattle.definitions.specs.Limits.{most_items, most_from_tables, most_group_columns, most_members, most_keys, most_index_columns, most_columns}
use Rattle.definitions.specs.Word.{Word}
use Rattle.definitions.specs.Token as t
use Rattle.definitions.specs.Token.{TokenKind}
use Rattle.definitions.specs.Statement.{Expr, SetFunction, ComparisonOperator}
use Rattle.definitions.specs.Statement as s
use Rattle.definitions.specs.Rule.{Rule, Gives, Then}
use Rattle.definitions.specs.Grammar as r
use Rattle.definitions.specs.Grammar.{InnerRules, within, Closed, Enclosed, Optional, Maybe, WholeListOf, ListOf, NameAt, CountAt, StringAt, ScaleAt, ParametersAt, LengthAt, TypeAt, ConstraintAt, ColumnAt, ReferenceAt, SourceAt, DistinctAt, GroupsAt, ArgumentOf, ParenthesisOf, OtherPrimaryOf, PrimaryOf, SignOf, ProductOf, SumOf, NullOf, InListOf, BetweenOf, LikeOf, PredicateOf, ComparedOf, TailOf, TestOf, NegationOf, ConjunctionOf, ExprOf, MemberOf, ItemOf, SelectListOf, ConditionOf, BlockOf, SubqueryOf, KeyNameAt, DirectionAt, KeyAt, OrderAt, SelectOf, NamesAt, BoundAt, RangeAt, TableAt, IndexAt, CreateAt, LoadAt, StatisticsAt, SetAt, StatementOf, LineKind, LineOf, opens}
use Rattle.definitions.proofs.Alike.{Rises, never_rises, gives_rises, then_rises}
use Rattle.definitions.proofs.Grammar.{within_alike}
use Rattle.definitions.proofs.Moving.{Budget, Any, AtMost, lower, IsOpen, Moving, never_moving, gives_moving, past_moving, opening_moving, sees_moving, if_moving, reads_moving, opens_reads_moving, then_moving, repeats_moving}

-- ---- what many rules share

pub closed_moving : {b : Budget} {X : Type 0} {a c : Rule X} → Moving b a c → Moving b (Closed a) (Closed c)
closed_moving h = then_moving h (λ x. past_moving _ (gives_moving x))

pub enclosed_moving : {b : Budget} {X : Type 0} {a c : Rule X} → Moving b a c → Moving b (Enclosed a) (Enclosed c)
enclosed_moving h = past_moving _ (closed_moving h)

pub optional_moving : {b : Budget} {X : Type 0} {a c : Rule X} (kind : TokenKind) → Moving b a c → Moving b (Optional kind a) (Optional kind c)
optional_moving kind h = if_moving kind (then_moving h (λ x. gives_moving (Some x))) (gives_moving None)

pub maybe_moving : {b : Budget} → (kind : TokenKind) → Moving b (Maybe kind) (Maybe kind)
maybe_moving kind = if_moving kind (gives_moving _) (gives_moving _)

pub then_gives : {b : Budget} {A X : Type 0} {a c : Rule A} {f : A → X} → Moving b a c → Moving b (Then a (λ x. Gives (f x))) (Then c (λ x. Gives (f x)))
then_gives h = then_moving h (λ x. gives_moving _)

whole_list_moving : {b : Budget} {X : Type 0} {a c : Rule X} → Moving b a c → Moving b (WholeListOf a) (WholeListOf c)
whole_list_moving h = then_moving h (λ x. then_moving (repeats_moving r.comma_in (λ comma. h)) (λ xs. gives_moving (x ∷ xs)))

pub list_moving : {b : Budget} {X : Type 0} {a c : Rule X} (most : ℕ) → Moving b a c → Moving b (ListOf most a) (ListOf most c)
list_moving most h = then_moving (whole_list_moving h) (λ xs. gives_moving (take (most + 1) xs))

pub line_moving : {b : Budget} {a c : Rule Expr} (kind : LineKind) → Moving b a c → Moving b (LineOf kind a) (LineOf kind c)
line_moving kind h = then_moving h (λ first. then_moving (repeats_moving (r.operator_in kind) (λ operator. then_moving h (λ e. gives_moving (operator, e)))) (λ others. gives_moving _))

pub name_moving : {b : Budget} → Moving b NameAt NameAt
name_moving = reads_moving r.name_in (λ n. gives_moving n) (never_moving _)

pub count_moving : {b : Budget} → Moving b CountAt CountAt
count_moving = reads_moving r.count_in (λ n. gives_moving n) (never_moving _)

pub string_moving : {b : Budget} → Moving b StringAt StringAt
string_moving = reads_moving r.string_in (λ n. gives_moving n) (never_moving _)

-- ---- rules without levels

pub scale_moving : {b : Budget} → Moving b ScaleAt ScaleAt
unfolding ScaleAt
scale_moving = if_moving _ count_moving (gives_moving _)

pub parameters_moving : {b : Budget} → Moving b ParametersAt ParametersAt
unfolding ParametersAt
parameters_moving = enclosed_moving (then_moving count_moving (λ p. then_moving scale_moving (λ s. gives_moving _)))

pub length_moving : {b : Budget} → Moving b LengthAt LengthAt
unfolding LengthAt
length_moving = if_moving _ (then_moving count_moving (λ n. past_moving _ (gives_moving _))) (gives_moving _)

behind_type : {b : Budget} → (k : r.TypeWord) → Moving b (r.behind_type_word k) (r.behind_type_word k)
behind_type r.SmallintWord = gives_moving _
behind_type r.IntegerWord = gives_moving _
behind_type r.NumericWord = parameters_moving
behind_type r.CharWord = length_moving

pub type_moving : {b : Budget} → Moving b TypeAt TypeAt
unfolding TypeAt
type_moving = reads_moving r.type_word behind_type (never_moving _)

pub constraint_moving : {b : Budget} → Moving b ConstraintAt ConstraintAt
unfolding ConstraintAt
constraint_moving = if_moving _ (past_moving _ (if_moving _ (gives_moving _) (if_moving _ (past_moving _ (gives_moving _)) (gives_moving _)))) (gives_moving _)

pub column_moving : {b : Budget} → Moving b ColumnAt ColumnAt
unfolding ColumnAt
column_moving = then_moving name_moving (λ n. then_moving type_moving (λ t. then_moving constraint_moving (λ c. gives_moving _)))

pub reference_moving : {b : Budget} → Moving b ReferenceAt ReferenceAt
unfolding ReferenceAt
reference_moving = then_moving name_moving (λ n. if_moving _ (then_moving name_moving (λ m. gives_moving _)) (gives_moving _))

pub source_moving : {b : Budget} → Moving b SourceAt SourceAt
unfolding SourceAt
source_moving = then_moving name_moving (λ n. reads_moving r.name_in (λ c. gives_moving _) (gives_moving _))

pub distinct_moving : {b : Budget} → Moving b DistinctAt DistinctAt
unfolding DistinctAt
distinct_moving = if_moving _ (gives_moving _) (maybe_moving _)

pub groups_moving : {b : Budget} → Moving b GroupsAt GroupsAt
unfolding GroupsAt
groups_moving = if_moving _ (past_moving _ (list_moving most_group_columns reference_moving)) (gives_moving _)

-- ---- expressions and blocks, whose inner rules move, behind a token that opens a level

sign_opens : (k : TokenKind) (z : Bool) → r.sign_in (Some k) ≡ Some z → opens k ≡ 1
sign_opens (t.Mark t.Plus) z h = refl
sign_opens (t.Mark t.Minus) z h = refl
sign_opens k z h = absurd cc

pub record InnerMoving (b : Budget) (i j : InnerRules) : Type 0 where
  pub negation : IsOpen b → Moving (lower b) i.negation j.negation
  pub sign : IsOpen b → Moving (lower b) i.sign j.sign
  pub parenthesis : IsOpen b → Moving (lower b) i.parenthesis j.parenthesis
  pub subquery : IsOpen b → Moving (lower b) i.subquery j.subquery
  pub argument : (f : SetFunction) → IsOpen b → Moving (lower b) (i.argument f) (j.argument f)
  pub in_list : (negated : Bool) (value : Expr) → IsOpen b → Moving (lower b) (i.in_list negated value) (j.in_list negated value)
  -- what an inner rule reads ends where it begins or behind
  pub negation_rises : Rises i.negation
  pub sign_rises : Rises i.sign
  pub parenthesis_rises : Rises i.parenthesis
  pub subquery_rises : Rises i.subquery
  pub argument_rises : (f : SetFunction) → Rises (i.argument f)
  pub in_list_rises : (negated : Bool) (value : Expr) → Rises (i.in_list negated value)

module _ {b : Budget} {i j : InnerRules} (h : InnerMoving b i j) where
  pub other_primary_moving : Moving b (OtherPrimaryOf i) (OtherPrimaryOf j)
  unfolding OtherPrimaryOf
  other_primary_moving =
      if_moving _ (opening_moving _ refl (then_rises _ _ h.subquery_rises (λ q. gives_rises _)) (λ open'. then_moving (h.subquery open') (λ q. gives_moving _)))
      (sees_moving _ (opening_moving _ refl h.parenthesis_rises h.parenthesis)
      (then_moving reference_moving (λ c. gives_moving _)))

  pub primary_moving : Moving b (PrimaryOf i) (PrimaryOf j)
  unfolding PrimaryOf
  primary_moving =
      reads_moving r.numeral_in (λ n. gives_moving _)
      (reads_moving r.string_in (λ codes. gives_moving _)
      (reads_moving r.function_in (λ f. opening_moving _ refl (h.argument_rises f) (h.argument f)) other_primary_moving))

  pub sign_moving : Moving b (SignOf i) (SignOf j)
  unfolding SignOf
  sign_moving =
      opens_reads_moving r.sign_in refl sign_opens (λ minus. then_rises _ _ h.sign_rises (λ e. gives_rises _)) (λ minus open'. then_moving (h.sign open') (λ e. gives_moving _)) primary_moving

  pub product_moving : Moving b (ProductOf i) (ProductOf j)
  unfolding ProductOf
  product_moving = line_moving r.Product sign_moving

  pub sum_moving : Moving b (SumOf i) (SumOf j)
  unfolding SumOf
  sum_moving = line_moving r.Sum product_moving

  pub compared_moving : (o : ComparisonOperator) (v : Expr) → Moving b (ComparedOf i o v) (ComparedOf j o v)
  unfolding ComparedOf
  compared_moving o v = reads_moving r.quantifier_in (λ q. opening_moving _ refl (then_rises _ _ h.subquery_rises (λ s. gives_rises _)) (λ open'. then_moving (h.subquery open') (λ s. gives_moving _))) (then_moving sum_moving (λ e. gives_moving _))

  pub null_moving : (v : Expr) → Moving b (NullOf v) (NullOf v)
  unfolding NullOf
  null_moving v = then_moving (maybe_moving _) (λ n. past_moving _ (gives_moving _))

  pub between_moving : (n : Bool) (v : Expr) → Moving b (BetweenOf i n v) (BetweenOf j n v)
  unfolding BetweenOf
  between_moving n v = then_moving sum_moving (λ low. past_moving _ (then_moving sum_moving (λ high. gives_moving _)))

  pub like_moving : (n : Bool) (v : Expr) → Moving b (LikeOf n v) (LikeOf n v)
  unfolding LikeOf
  like_moving n v = then_moving string_moving (λ c. gives_moving _)

  alone_moving : (n : Bool) (v : Expr) → Moving b (r.alone n v) (r.alone n v)
  alone_moving true v = never_moving _
  alone_moving false v = gives_moving v

  pub predicate_moving : (n : Bool) (v : Expr) → Moving b (PredicateOf i n v) (PredicateOf j n v)
  unfolding PredicateOf
  predicate_moving n v =
      if_moving _ (between_moving n v)
      (if_moving _ (like_moving n v)
      (if_moving _ (opening_moving _ refl (h.in_list_rises n v) (h.in_list n v)) (alone_moving n v)))

  pub tail_moving : (v : Expr) → Moving b (TailOf i v) (TailOf j v)
  unfolding TailOf
  tail_moving v =
      reads_moving r.op_in (λ op. compared_moving op v)
      (if_moving _ (null_moving v)
      (if_moving _ (predicate_moving _ v)
      (predicate_moving _ v)))

  pub test_moving : Moving b (TestOf i) (TestOf j)
  unfolding TestOf
  test_moving = then_moving sum_moving tail_moving

  pub negation_moving : Moving b (NegationOf i) (NegationOf j)
  unfolding NegationOf
  negation_moving =
      sees_moving _ (opening_moving _ refl (then_rises _ _ h.negation_rises (λ e. gives_rises _)) (λ open'. then_moving (h.negation open') (λ e. gives_moving _))) test_moving

  pub conjunction_moving : Moving b (ConjunctionOf i) (ConjunctionOf j)
  unfolding ConjunctionOf
  conjunction_moving = line_moving r.Conjunction negation_moving

  pub expr_moving : Moving b (ExprOf i) (ExprOf j)
  unfolding ExprOf
  expr_moving = line_moving r.Disjunction conjunction_moving

  pub item_moving : Moving b (ItemOf i) (ItemOf j)
  unfolding ItemOf
  item_moving = then_moving expr_moving (λ e. then_moving (optional_moving _ name_moving) (λ a. gives_moving _))

  pub select_list_moving : Moving b (SelectListOf i) (SelectListOf j)
  unfolding SelectListOf
  select_list_moving = if_moving _ (gives_moving _) (then_moving (list_moving most_items item_moving) (λ xs. gives_moving _))

  pub condition_moving : (w : Word) → Moving b (ConditionOf i w) (ConditionOf j w)
  unfolding ConditionOf
  condition_moving w = if_moving _ (then_moving expr_moving (λ e. gives_moving _)) (gives_moving _)

  pub block_moving : Moving b (BlockOf i) (BlockOf j)
  unfolding BlockOf
  block_moving =
      past_moving _ (then_moving distinct_moving (λ d. then_moving select_list_moving (λ its.
      past_moving _ (then_moving (list_moving most_from_tables source_moving) (λ ss.
      then_moving (condition_moving _) (λ c.
      then_moving groups_moving (λ gs.
      then_moving (condition_moving _) (λ hv. gives_moving _))))))))

  pub subquery_moving : Moving b (SubqueryOf i) (SubqueryOf j)
  unfolding SubqueryOf
  subquery_moving = closed_moving block_moving

  pub parenthesis_moving : Moving b (ParenthesisOf i) (ParenthesisOf j)
  unfolding ParenthesisOf
  parenthesis_moving = sees_moving _ (then_moving subquery_moving (λ q. gives_moving _)) (closed_moving expr_moving)

  distinct_of_moving : (f : SetFunction) → Moving b (r.DistinctOf i f) (r.DistinctOf j f)
  distinct_of_moving f = then_moving distinct_moving (λ d. then_moving (closed_moving expr_moving) (λ e. gives_moving _))

  pub argument_moving : (f : SetFunction) → Moving b (ArgumentOf i f) (ArgumentOf j f)
  unfolding ArgumentOf
  argument_moving s.Count = if_moving _ (past_moving _ (gives_moving _)) (distinct_of_moving s.Count)
  argument_moving s.Sum = distinct_of_moving s.Sum
  argument_moving s.Avg = distinct_of_moving s.Avg
  argument_moving s.Min = distinct_of_moving s.Min
  argument_moving s.Max = distinct_of_moving s.Max

  pub member_moving : Moving b (MemberOf i) (MemberOf j)
  unfolding MemberOf
  member_moving = if_moving _ (gives_moving _) (then_moving sum_moving (λ e. gives_moving _))

  pub in_list_moving : (n : Bool) (v : Expr) → Moving b (InListOf i n v) (InListOf j n v)
  unfolding InListOf
  in_list_moving n v = sees_moving _ (then_moving subquery_moving (λ q. gives_moving _)) (then_moving (closed_moving (list_moving most_members member_moving)) (λ ms. gives_moving _))

-- within so many levels as tokens may open, or within the same
pub few_levels : (n m : ℕ) → InnerMoving (AtMost m) (within n) (within m)
few_levels zero m = record {
  negation = λ open'. never_moving _;
  sign = λ open'. never_moving _;
  parenthesis = λ open'. never_moving _;
  subquery = λ open'. never_moving _;
  argument = λ f open'. never_moving _;
  in_list = λ n v open'. never_moving _;
  negation_rises = never_rises;
  sign_rises = never_rises;
  parenthesis_rises = never_rises;
  subquery_rises = never_rises;
  argument_rises = λ f. never_rises;
  in_list_rises = λ n v. never_rises;
}
few_levels (suc n) zero =
    let rises = within_alike (suc n) (suc n) in
    record {
      negation = λ open'. absurd (omega (arith, open'));
      sign = λ open'. absurd (omega (arith, open'));
      parenthesis = λ open'. absurd (omega (arith, open'));
      subquery = λ open'. absurd (omega (arith, open'));
      argument = λ f open'. absurd (omega (arith, open'));
      in_list = λ n v open'. absurd (omega (arith, open'));
      negation_rises = rises.negation.rises;
      sign_rises = rises.sign.rises;
      parenthesis_rises = rises.parenthesis.rises;
      subquery_rises = rises.subquery.rises;
      argument_rises = λ f. (rises.argument f).rises;
      in_list_rises = λ n v. (rises.in_list n v).rises;
    }
few_levels (suc n) (suc m) =
    let rises = within_alike (suc n) (suc n) in
    let inner = few_levels n m in
    record {
      negation = λ open'. negation_moving inner;
      sign = λ open'. sign_moving inner;
      parenthesis = λ open'. parenthesis_moving inner;
      subquery = λ open'. subquery_moving inner;
      argument = λ f open'. argument_moving inner f;
      in_list = λ n v open'. in_list_moving inner n v;
      negation_rises = rises.negation.rises;
      sign_rises = rises.sign.rises;
      parenthesis_rises = rises.parenthesis.rises;
      subquery_rises = rises.subquery.rises;
      argument_rises = λ f. (rises.argument f).rises;
      in_list_rises = λ n v. (rises.in_list n v).rises;
    }

pub same_levels : (n : ℕ) → InnerMoving Any (within n) (within n)
same_levels zero = record {
  negation = λ open'. never_moving _;
  sign = λ open'. never_moving _;
  parenthesis = λ open'. never_moving _;
  subquery = λ open'. never_moving _;
  argument = λ f open'. never_moving _;
  in_list = λ n v open'. never_moving _;
  negation_rises = never_rises;
  sign_rises = never_rises;
  parenthesis_rises = never_rises;
  subquery_rises = never_rises;
  argument_rises = λ f. never_rises;
  in_list_rises = λ n v. never_rises;
}
same_levels (suc n) =
    let rises = within_alike (suc n) (suc n) in
    let inner = same_levels n in
    record {
      negation = λ open'. negation_moving inner;
      sign = λ open'. sign_moving inner;
      parenthesis = λ open'. parenthesis_moving inner;
      subquery = λ open'. subquery_moving inner;
      argument = λ f open'. argument_moving inner f;
      in_list = λ n v open'. in_list_moving inner n v;
      negation_rises = rises.negation.rises;
      sign_rises = rises.sign.rises;
      parenthesis_rises = rises.parenthesis.rises;
      subquery_rises = rises.subquery.rises;
      argument_rises = λ f. (rises.argument f).rises;
      in_list_rises = λ n v. (rises.in_list n v).rises;
    }

-- ---- statements

pub key_name_moving : {b : Budget} → Moving b KeyNameAt KeyNameAt
unfolding KeyNameAt
key_name_moving = reads_moving r.name_in (λ n. gives_moving _) (then_moving count_moving (λ n. gives_moving _))

pub direction_moving : {b : Budget} → Moving b DirectionAt DirectionAt
unfolding DirectionAt
direction_moving = if_moving _ (gives_moving _) (maybe_moving _)

pub key_moving : {b : Budget} → Moving b KeyAt KeyAt
unfolding KeyAt
key_moving = then_moving key_name_moving (λ k. then_moving direction_moving (λ d. gives_moving _))

pub order_moving : {b : Budget} → Moving b OrderAt OrderAt
unfolding OrderAt
order_moving = if_moving _ (past_moving _ (list_moving most_keys key_moving)) (gives_moving _)

pub select_moving : {b : Budget} {i j : InnerRules} → InnerMoving b i j → Moving b (SelectOf i) (SelectOf j)
unfolding SelectOf
select_moving h = then_moving (block_moving h) (λ b. then_moving order_moving (λ o. gives_moving _))

pub names_moving : {b : Budget} → Moving b NamesAt NamesAt
unfolding NamesAt
names_moving = enclosed_moving (list_moving most_index_columns name_moving)

unsigned_moving : {b : Budget} → (minus : Bool) → Moving b (r.UnsignedAt minus) (r.UnsignedAt minus)
unsigned_moving minus = reads_moving r.numeral_in (λ n. gives_moving _) (never_moving _)

pub bound_moving : {b : Budget} → Moving b BoundAt BoundAt
unfolding BoundAt
bound_moving = reads_moving r.sign_in (λ minus. unsigned_moving minus) (unsigned_moving _)

pub range_moving : {b : Budget} → Moving b RangeAt RangeAt
unfolding RangeAt
range_moving = optional_moving _ (then_moving bound_moving (λ low. past_moving _ (then_moving bound_moving (λ high. gives_moving _))))

pub table_moving : {b : Budget} → Moving b TableAt TableAt
unfolding TableAt
table_moving = then_moving name_moving (λ n. then_moving (enclosed_moving (list_moving most_columns column_moving)) (λ cs. gives_moving _))

pub index_moving : {b : Budget} → Moving b IndexAt IndexAt
unfolding IndexAt
index_moving = then_moving (maybe_moving _) (λ unique. past_moving _ (past_moving _ (then_moving name_moving (λ n. then_moving names_moving (λ cs. gives_moving _)))))

pub create_moving : {b : Budget} → Moving b CreateAt CreateAt
unfolding CreateAt
create_moving = if_moving _ table_moving index_moving

pub load_moving : {b : Budget} → Moving b LoadAt LoadAt
unfolding LoadAt
load_moving = then_moving name_moving (λ n. past_moving _ (then_moving string_moving (λ f. gives_moving _)))

pub statistics_moving : {b : Budget} → Moving b StatisticsAt StatisticsAt
unfolding StatisticsAt
statistics_moving = past_moving _ (then_moving count_moving (λ k. past_moving _ (then_moving count_moving (λ p. then_moving (maybe_moving _) (λ c. then_moving range_moving (λ g. gives_moving _))))))

pub set_moving : {b : Budget} → Moving b SetAt SetAt
unfolding SetAt
set_moving =
    past_moving _ (then_moving name_moving (λ n.
    if_moving _ (then_moving count_moving (λ rows. past_moving _ (then_moving count_moving (λ pages. gives_moving _))))
    (then_moving names_moving (λ cs. then_moving statistics_moving (λ f. gives_moving _)))))

pub statement_moving : {b : Budget} {i j : InnerRules} → InnerMoving b i j → Moving b (StatementOf i) (StatementOf j)
unfolding StatementOf
statement_moving h =
    if_moving _ create_moving
    (if_moving _ load_moving
    (if_moving _ set_moving
    (if_moving _ (then_moving (select_moving h) (λ q. gives_moving _))
    (then_moving (select_moving h) (λ q. gives_moving _)))))
