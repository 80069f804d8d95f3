-- Two readings of one list of tokens, within whatever levels, are one; so tokens derive at most one list of statements.
use Rattle.std.proofs.Common.{◌≡◌, refl, ap₂, ℕ, zero, suc, ◌+◌, Bool, true, false, List, [], ◌∷◌, Some, None, length, arith}
use Rattle.std.specs.Prelude.{slice_get, take}
use Rattle.definitions.specs.Limits.{most_levels, most_items, most_from_tables, most_group_columns, most_members, most_keys, most_index_columns, most_columns}
use Rattle.definitions.specs.Word.{Word}
use Rattle.definitions.specs.Token.{TokenKind}
use Rattle.definitions.specs.Statement.{Statement, Expr, SetFunction, ComparisonOperator}
use Rattle.definitions.specs.Statement as s
use Rattle.definitions.specs.Rule.{Rule, At, Gives, Then}
use Rattle.definitions.specs.Rule as g
use Rattle.definitions.specs.Grammar as r
use Rattle.definitions.specs.Grammar.{InnerRules, within, Closed, Enclosed, Optional, Maybe, WholeListOf, ListOf, NameAt, CountAt, StringAt, ScaleAt, ParametersAt, LengthAt, TypeAt, ConstraintAt, ColumnAt, ReferenceAt, SourceAt, DistinctAt, GroupsAt, ArgumentOf, ParenthesisOf, OtherPrimaryOf, PrimaryOf, SignOf, ProductOf, SumOf, NullOf, InListOf, BetweenOf, LikeOf, PredicateOf, ComparedOf, TailOf, TestOf, NegationOf, ConjunctionOf, ExprOf, MemberOf, ItemOf, SelectListOf, ConditionOf, BlockOf, SubqueryOf, KeyNameAt, DirectionAt, KeyAt, OrderAt, SelectOf, NamesAt, BoundAt, RangeAt, TableAt, IndexAt, CreateAt, LoadAt, StatisticsAt, SetAt, StatementOf, LineKind, LineOf}
use Rattle.definitions.proofs.Alike.{Agree, Alike, never_alike, alike_never, never_alike_all, gives_alike, past_alike, sees_alike, if_alike, reads_alike, then_alike, repeats_alike}

-- ---- what many rules share

pub closed_alike : {X : Type 0} {a b : Rule X} → Alike a b → Alike (Closed a) (Closed b)
closed_alike h = then_alike h (λ x. past_alike _ (gives_alike x))

pub enclosed_alike : {X : Type 0} {a b : Rule X} → Alike a b → Alike (Enclosed a) (Enclosed b)
enclosed_alike h = past_alike _ (closed_alike h)

pub optional_alike : {X : Type 0} {a b : Rule X} (kind : TokenKind) → Alike a b → Alike (Optional kind a) (Optional kind b)
optional_alike kind h = if_alike kind (then_alike h (λ x. gives_alike (Some x))) (gives_alike None)

pub maybe_alike : (kind : TokenKind) → Alike (Maybe kind) (Maybe kind)
maybe_alike kind = if_alike kind (gives_alike _) (gives_alike _)

pub then_gives : {A X : Type 0} {a b : Rule A} {f : A → X} → Alike a b → Alike (Then a (λ x. Gives (f x))) (Then b (λ x. Gives (f x)))
then_gives h = then_alike h (λ x. gives_alike _)

pub whole_list_alike : {X : Type 0} {a b : Rule X} → Alike a b → Alike (WholeListOf a) (WholeListOf b)
whole_list_alike h = then_alike h (λ x. then_alike (repeats_alike r.comma_in (λ comma. h)) (λ xs. gives_alike (x ∷ xs)))

pub list_alike : {X : Type 0} {a b : Rule X} (most : ℕ) → Alike a b → Alike (ListOf most a) (ListOf most b)
list_alike most h = then_alike (whole_list_alike h) (λ xs. gives_alike (take (most + 1) xs))

pub line_alike : {a b : Rule Expr} (kind : LineKind) → Alike a b → Alike (LineOf kind a) (LineOf kind b)
line_alike kind h = then_alike h (λ first. then_alike (repeats_alike (r.operator_in kind) (λ operator. then_alike h (λ e. gives_alike (operator, e)))) (λ others. gives_alike _))

pub name_alike : Alike NameAt NameAt
name_alike = reads_alike r.name_in (λ n. gives_alike n) never_alike

pub count_alike : Alike CountAt CountAt
count_alike = reads_alike r.count_in (λ n. gives_alike n) never_alike

pub string_alike : Alike StringAt StringAt
string_alike = reads_alike r.string_in (λ n. gives_alike n) never_alike

-- ---- rules without levels

pub scale_alike : Alike ScaleAt ScaleAt
unfolding ScaleAt
scale_alike = if_alike _ count_alike (gives_alike _)

pub parameters_alike : Alike ParametersAt ParametersAt
unfolding ParametersAt
parameters_alike = enclosed_alike (then_alike count_alike (λ p. then_alike scale_alike (λ s. gives_alike _)))

pub length_alike : Alike LengthAt LengthAt
unfolding LengthAt
length_alike = if_alike _ (then_alike count_alike (λ n. past_alike _ (gives_alike _))) (gives_alike _)

behind_type : (k : r.TypeWord) → Alike (r.behind_type_word k) (r.behind_type_word k)
behind_type r.SmallintWord = gives_alike _
behind_type r.IntegerWord = gives_alike _
behind_type r.NumericWord = parameters_alike
behind_type r.CharWord = length_alike

pub type_alike : Alike TypeAt TypeAt
unfolding TypeAt
type_alike = reads_alike r.type_word behind_type never_alike

pub constraint_alike : Alike ConstraintAt ConstraintAt
unfolding ConstraintAt
constraint_alike = if_alike _ (past_alike _ (if_alike _ (gives_alike _) (if_alike _ (past_alike _ (gives_alike _)) (gives_alike _)))) (gives_alike _)

pub column_alike : Alike ColumnAt ColumnAt
unfolding ColumnAt
column_alike = then_alike name_alike (λ n. then_alike type_alike (λ t. then_alike constraint_alike (λ c. gives_alike _)))

pub reference_alike : Alike ReferenceAt ReferenceAt
unfolding ReferenceAt
reference_alike = then_alike name_alike (λ n. if_alike _ (then_alike name_alike (λ m. gives_alike _)) (gives_alike _))

pub source_alike : Alike SourceAt SourceAt
unfolding SourceAt
source_alike = then_alike name_alike (λ n. reads_alike r.name_in (λ c. gives_alike _) (gives_alike _))

pub distinct_alike : Alike DistinctAt DistinctAt
unfolding DistinctAt
distinct_alike = if_alike _ (gives_alike _) (maybe_alike _)

pub groups_alike : Alike GroupsAt GroupsAt
unfolding GroupsAt
groups_alike = if_alike _ (past_alike _ (list_alike most_group_columns reference_alike)) (gives_alike _)

-- ---- expressions and blocks, whose inner rules are alike

pub record InnerAlike (i j : InnerRules) : Type 0 where
  pub negation : Alike i.negation j.negation
  pub sign : Alike i.sign j.sign
  pub parenthesis : Alike i.parenthesis j.parenthesis
  pub subquery : Alike i.subquery j.subquery
  pub argument : (f : SetFunction) → Alike (i.argument f) (j.argument f)
  pub in_list : (negated : Bool) (value : Expr) → Alike (i.in_list negated value) (j.in_list negated value)

module _ {i j : InnerRules} (h : InnerAlike i j) where
  pub other_primary_alike : Alike (OtherPrimaryOf i) (OtherPrimaryOf j)
  unfolding OtherPrimaryOf
  other_primary_alike =
      if_alike _ (past_alike _ (then_alike h.subquery (λ q. gives_alike _)))
      (if_alike _ h.parenthesis
      (then_alike reference_alike (λ c. gives_alike _)))

  pub primary_alike : Alike (PrimaryOf i) (PrimaryOf j)
  unfolding PrimaryOf
  primary_alike =
      reads_alike r.numeral_in (λ n. gives_alike _)
      (reads_alike r.string_in (λ codes. gives_alike _)
      (reads_alike r.function_in (λ f. past_alike _ (h.argument f)) other_primary_alike))

  pub sign_alike : Alike (SignOf i) (SignOf j)
  unfolding SignOf
  sign_alike = reads_alike r.sign_in (λ minus. then_alike h.sign (λ e. gives_alike _)) primary_alike

  pub product_alike : Alike (ProductOf i) (ProductOf j)
  unfolding ProductOf
  product_alike = line_alike r.Product sign_alike

  pub sum_alike : Alike (SumOf i) (SumOf j)
  unfolding SumOf
  sum_alike = line_alike r.Sum product_alike

  pub compared_alike : (o : ComparisonOperator) (v : Expr) → Alike (ComparedOf i o v) (ComparedOf j o v)
  unfolding ComparedOf
  compared_alike o v = reads_alike r.quantifier_in (λ q. past_alike _ (then_alike h.subquery (λ b. gives_alike _))) (then_alike sum_alike (λ e. gives_alike _))

  pub null_alike : (v : Expr) → Alike (NullOf v) (NullOf v)
  unfolding NullOf
  null_alike v = then_alike (maybe_alike _) (λ n. past_alike _ (gives_alike _))

  pub between_alike : (n : Bool) (v : Expr) → Alike (BetweenOf i n v) (BetweenOf j n v)
  unfolding BetweenOf
  between_alike n v = then_alike sum_alike (λ low. past_alike _ (then_alike sum_alike (λ high. gives_alike _)))

  pub like_alike : (n : Bool) (v : Expr) → Alike (LikeOf n v) (LikeOf n v)
  unfolding LikeOf
  like_alike n v = then_alike string_alike (λ c. gives_alike _)

  alone_alike : (n : Bool) (v : Expr) → Alike (r.alone n v) (r.alone n v)
  alone_alike true v = never_alike
  alone_alike false v = gives_alike v

  pub predicate_alike : (n : Bool) (v : Expr) → Alike (PredicateOf i n v) (PredicateOf j n v)
  unfolding PredicateOf
  predicate_alike n v =
      if_alike _ (between_alike n v)
      (if_alike _ (like_alike n v)
      (if_alike _ (past_alike _ (h.in_list n v)) (alone_alike n v)))

  pub tail_alike : (v : Expr) → Alike (TailOf i v) (TailOf j v)
  unfolding TailOf
  tail_alike v =
      reads_alike r.op_in (λ op. compared_alike op v)
      (if_alike _ (null_alike v)
      (if_alike _ (predicate_alike _ v)
      (predicate_alike _ v)))

  pub test_alike : Alike (TestOf i) (TestOf j)
  unfolding TestOf
  test_alike = then_alike sum_alike tail_alike

  pub negation_alike : Alike (NegationOf i) (NegationOf j)
  unfolding NegationOf
  negation_alike = if_alike _ (then_alike h.negation (λ e. gives_alike _)) test_alike

  pub conjunction_alike : Alike (ConjunctionOf i) (ConjunctionOf j)
  unfolding ConjunctionOf
  conjunction_alike = line_alike r.Conjunction negation_alike

  pub expr_alike : Alike (ExprOf i) (ExprOf j)
  unfolding ExprOf
  expr_alike = line_alike r.Disjunction conjunction_alike

  pub item_alike : Alike (ItemOf i) (ItemOf j)
  unfolding ItemOf
  item_alike = then_alike expr_alike (λ e. then_alike (optional_alike _ name_alike) (λ a. gives_alike _))

  pub select_list_alike : Alike (SelectListOf i) (SelectListOf j)
  unfolding SelectListOf
  select_list_alike = if_alike _ (gives_alike _) (then_alike (list_alike most_items item_alike) (λ xs. gives_alike _))

  pub condition_alike : (w : Word) → Alike (ConditionOf i w) (ConditionOf j w)
  unfolding ConditionOf
  condition_alike w = if_alike _ (then_alike expr_alike (λ e. gives_alike _)) (gives_alike _)

  pub block_alike : Alike (BlockOf i) (BlockOf j)
  unfolding BlockOf
  block_alike =
      past_alike _ (then_alike distinct_alike (λ d. then_alike select_list_alike (λ its.
      past_alike _ (then_alike (list_alike most_from_tables source_alike) (λ ss.
      then_alike (condition_alike _) (λ c.
      then_alike groups_alike (λ gs.
      then_alike (condition_alike _) (λ hv. gives_alike _))))))))

  pub subquery_alike : Alike (SubqueryOf i) (SubqueryOf j)
  unfolding SubqueryOf
  subquery_alike = closed_alike block_alike

  pub parenthesis_alike : Alike (ParenthesisOf i) (ParenthesisOf j)
  unfolding ParenthesisOf
  parenthesis_alike = sees_alike _ (then_alike subquery_alike (λ q. gives_alike _)) (closed_alike expr_alike)

  distinct_of_alike : (f : SetFunction) → Alike (r.DistinctOf i f) (r.DistinctOf j f)
  distinct_of_alike f = then_alike distinct_alike (λ d. then_alike (closed_alike expr_alike) (λ e. gives_alike _))

  pub argument_alike : (f : SetFunction) → Alike (ArgumentOf i f) (ArgumentOf j f)
  unfolding ArgumentOf
  argument_alike s.Count = if_alike _ (past_alike _ (gives_alike _)) (distinct_of_alike s.Count)
  argument_alike s.Sum = distinct_of_alike s.Sum
  argument_alike s.Avg = distinct_of_alike s.Avg
  argument_alike s.Min = distinct_of_alike s.Min
  argument_alike s.Max = distinct_of_alike s.Max

  pub member_alike : Alike (MemberOf i) (MemberOf j)
  unfolding MemberOf
  member_alike = if_alike _ (gives_alike _) (then_alike sum_alike (λ e. gives_alike _))

  pub in_list_alike : (n : Bool) (v : Expr) → Alike (InListOf i n v) (InListOf j n v)
  unfolding InListOf
  in_list_alike n v = sees_alike _ (then_alike subquery_alike (λ q. gives_alike _)) (then_alike (closed_alike (list_alike most_members member_alike)) (λ ms. gives_alike _))

-- within whatever levels
layer_alike : (n m : ℕ) → InnerAlike (within n) (within m) → InnerAlike (within (suc n)) (within (suc m))
layer_alike n m h = record {
  negation = negation_alike h;
  sign = sign_alike h;
  parenthesis = parenthesis_alike h;
  subquery = subquery_alike h;
  argument = argument_alike h;
  in_list = in_list_alike h;
}

pub within_alike : (n m : ℕ) → InnerAlike (within n) (within m)
within_alike zero m = record { negation = never_alike_all _; sign = never_alike_all _; parenthesis = never_alike_all _; subquery = never_alike_all _; argument = λ f. never_alike_all _; in_list = λ n v. never_alike_all _ }
within_alike (suc n) zero =
    let h = layer_alike n n (within_alike n n) in
    record {
      negation = alike_never _ h.negation.rises;
      sign = alike_never _ h.sign.rises;
      parenthesis = alike_never _ h.parenthesis.rises;
      subquery = alike_never _ h.subquery.rises;
      argument = λ f. alike_never _ (h.argument f).rises;
      in_list = λ n v. alike_never _ (h.in_list n v).rises;
    }
within_alike (suc n) (suc m) = layer_alike n m (within_alike n m)

-- ---- statements

pub key_name_alike : Alike KeyNameAt KeyNameAt
unfolding KeyNameAt
key_name_alike = reads_alike r.name_in (λ n. gives_alike _) (then_alike count_alike (λ n. gives_alike _))

pub direction_alike : Alike DirectionAt DirectionAt
unfolding DirectionAt
direction_alike = if_alike _ (gives_alike _) (maybe_alike _)

pub key_alike : Alike KeyAt KeyAt
unfolding KeyAt
key_alike = then_alike key_name_alike (λ k. then_alike direction_alike (λ d. gives_alike _))

pub order_alike : Alike OrderAt OrderAt
unfolding OrderAt
order_alike = if_alike _ (past_alike _ (list_alike most_keys key_alike)) (gives_alike _)

pub select_alike : {i j : InnerRules} → InnerAlike i j → Alike (SelectOf i) (SelectOf j)
unfolding SelectOf
select_alike h = then_alike (block_alike h) (λ b. then_alike order_alike (λ o. gives_alike _))

pub names_alike : Alike NamesAt NamesAt
unfolding NamesAt
names_alike = enclosed_alike (list_alike most_index_columns name_alike)

unsigned_alike : (minus : Bool) → Alike (r.UnsignedAt minus) (r.UnsignedAt minus)
unsigned_alike minus = reads_alike r.numeral_in (λ n. gives_alike _) never_alike

pub bound_alike : Alike BoundAt BoundAt
unfolding BoundAt
bound_alike = reads_alike r.sign_in (λ minus. unsigned_alike minus) (unsigned_alike _)

pub range_alike : Alike RangeAt RangeAt
unfolding RangeAt
range_alike = optional_alike _ (then_alike bound_alike (λ low. past_alike _ (then_alike bound_alike (λ high. gives_alike _))))

pub table_alike : Alike TableAt TableAt
unfolding TableAt
table_alike = then_alike name_alike (λ n. then_alike (enclosed_alike (list_alike most_columns column_alike)) (λ cs. gives_alike _))

pub index_alike : Alike IndexAt IndexAt
unfolding IndexAt
index_alike = then_alike (maybe_alike _) (λ unique. past_alike _ (past_alike _ (then_alike name_alike (λ n. then_alike names_alike (λ cs. gives_alike _)))))

pub create_alike : Alike CreateAt CreateAt
unfolding CreateAt
create_alike = if_alike _ table_alike index_alike

pub load_alike : Alike LoadAt LoadAt
unfolding LoadAt
load_alike = then_alike name_alike (λ n. past_alike _ (then_alike string_alike (λ f. gives_alike _)))

pub statistics_alike : Alike StatisticsAt StatisticsAt
unfolding StatisticsAt
statistics_alike = past_alike _ (then_alike count_alike (λ k. past_alike _ (then_alike count_alike (λ p. then_alike (maybe_alike _) (λ c. then_alike range_alike (λ g. gives_alike _))))))

pub set_alike : Alike SetAt SetAt
unfolding SetAt
set_alike =
    past_alike _ (then_alike name_alike (λ n.
    if_alike _ (then_alike count_alike (λ rows. past_alike _ (then_alike count_alike (λ pages. gives_alike _))))
    (then_alike names_alike (λ cs. then_alike statistics_alike (λ f. gives_alike _)))))

pub statement_alike : {i j : InnerRules} → InnerAlike i j → Alike (StatementOf i) (StatementOf j)
unfolding StatementOf
statement_alike h =
    if_alike _ create_alike
    (if_alike _ load_alike
    (if_alike _ set_alike
    (if_alike _ (then_alike (select_alike h) (λ q. gives_alike _))
    (then_alike (select_alike h) (λ q. gives_alike _)))))

-- nothing stands at the end of the tokens
pub past_end : (tokens : List TokenKind) (k : TokenKind) → slice_get tokens (length tokens) ≡ Some k → ⊥
past_end [] k h = cc
past_end (t ∷ ts) k h = past_end ts k h

-- where a statement begins there is a token
block_there : (i : InnerRules) (ts : List TokenKind) (at to : ℕ) (x : s.QuerySpecification) → BlockOf i ts at to x → (k : TokenKind) × At ts at k
unfolding BlockOf
block_there i ts at to x (g.past a b z h k) = (_, h)

select_there : (i : InnerRules) (ts : List TokenKind) (at to : ℕ) (x : s.Select) → SelectOf i ts at to x → (k : TokenKind) × At ts at k
unfolding SelectOf
select_there i ts at to x (g.then a m b z w h k) = block_there i ts _ _ _ h

pub statement_there : (i : InnerRules) (ts : List TokenKind) (at to : ℕ) (x : Statement) → StatementOf i ts at to x → (k : TokenKind) × At ts at k
unfolding StatementOf
statement_there i ts at to x (g.sees a b z h k) = (_, h)
statement_there i ts at to x (g.misses a b z h (g.sees a' b' z' h' k)) = (_, h')
statement_there i ts at to x (g.misses a b z h (g.misses a' b' z' h' (g.sees c d y l k))) = (_, l)
statement_there i ts at to x (g.misses a b z h (g.misses a' b' z' h' (g.misses c d y l (g.sees e f v m k)))) = (_, m)
statement_there i ts at to x (g.misses a b z h (g.misses a' b' z' h' (g.misses c d y l (g.misses e f v m (g.then o p q u t n k))))) = select_there i ts _ _ _ n

pub agree_self : (ts : List TokenKind) (n : ℕ) → Agree ts ts n
agree_self ts n k h = refl

pub no_token_there : (ts : List TokenKind) (at : ℕ) (k : TokenKind) → at ≡ length ts → At ts at k → ⊥
no_token_there ts at k e h = past_end ts k (rw e at h)

pub next_script : (levels : ℕ) (ts : List TokenKind) (m m' : ℕ) (xs : List Statement) → m ≡ m' → r.ScriptAt levels ts (m' + 1) xs → r.ScriptAt levels ts (m + 1) xs
next_script levels ts m m' xs e g = rw e g

script_once : (n m : ℕ) (ts : List TokenKind) (at : ℕ) (x y : List Statement) → r.ScriptAt n ts at x → r.ScriptAt m ts at y → x ≡ y
script_once n m ts at x y (r.end a e) (r.end a' e') = refl
script_once n m ts at x y (r.end a e) (r.next a' m' s' r' g' c' n') = let t = statement_there _ ts _ _ _ g' in absurd (no_token_there ts _ t.0 e t.1)
script_once n m ts at x y (r.next a' m' s' r' g' c' n') (r.end a e) = let t = statement_there _ ts _ _ _ g' in absurd (no_token_there ts _ t.0 e t.1)
script_once n m ts at x y (r.next a i s0 r0 g c n0) (r.next a' i' s' r' g' c' n') =
    let q = (statement_alike (within_alike n m)).same ts ts i (agree_self ts i) _ _ _ _ _ (omega arith) g g' in
    ap₂ ◌∷◌ q.1 (script_once n m ts _ _ _ n0 (next_script m ts i i' r' q.0 n'))

pub derives_once : (tokens : List TokenKind) (x y : List Statement) → r.Derives tokens x → r.Derives tokens y → x ≡ y
derives_once tokens x y g h = script_once most_levels most_levels tokens 0 x y g h
