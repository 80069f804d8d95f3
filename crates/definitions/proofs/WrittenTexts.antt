-- What the rules of the grammar give is as it can be written, where the tokens are.
use Rattle.std.proofs.Common.{◌≡◌, subst, ℕ, zero, suc, Bool, true, false, List, [], ◌∷◌, Option, Some, None}
use Rattle.std.specs.Prelude.{⊤}
use Rattle.std.specs.List.{AllByRecursion}
use Rattle.definitions.specs.Limits.{most_items, most_members, most_from_tables}
use Rattle.definitions.specs.Word.{Word}
use Rattle.definitions.specs.Token as t
use Rattle.definitions.specs.Token.{TokenKind}
use Rattle.definitions.specs.Statement as s
use Rattle.definitions.specs.Statement.{Statement, Expr, LineOperands, DerivedColumn, Select, Source, SetFunction, ComparisonOperator, LineOperator}
use Rattle.definitions.specs.Rule.{Rule}
use Rattle.definitions.specs.Grammar as r
use Rattle.definitions.specs.Grammar.{InnerRules, within, LineKind, LineOf, OtherPrimaryOf, PrimaryOf, SignOf, ProductOf, SumOf, ComparedOf, NullOf, BetweenOf, LikeOf, PredicateOf, TailOf, TestOf, NegationOf, ConjunctionOf, ExprOf, ItemOf, SelectListOf, ConditionOf, BlockOf, SubqueryOf, ParenthesisOf, DistinctOf, ArgumentOf, MemberOf, InListOf, SelectOf, TableAt, IndexAt, CreateAt, LoadAt, SetAt, StatementOf, ScriptAt}
use Rattle.definitions.specs.Binding.Formed.{IsWrittenNumeral, IsWrittenString}
use Rattle.definitions.proofs.ReadTokens.{IsRead, AreRead}
use Rattle.definitions.proofs.WrittenParts.{WrittenExpr, WrittenOperands, WrittenMembers, WrittenItems, WrittenList, WrittenCondition, WrittenBlock}
use Rattle.definitions.proofs.Keeping.{Keeps, Tells, anything, never, gives, past, sees, if_there, reads_told, reads, then, after, repeats, closed, list}

-- ---- what tokens tell

abbrev IsNumber : ℕ × ℕ × Option ℕ → Type 0
IsNumber n = IsWrittenNumeral n.0 n.1

numbers : Tells r.numeral_in IsNumber
numbers z = ((λ e. absurd cc), numeral z)
  where
    numeral : (z : ℕ × ℕ × Option ℕ) (k : TokenKind) → IsRead k → r.numeral_in (Some k) ≡ Some z → IsNumber z
    numeral z (t.Numeral units digits fraction) w e = let same : (units, digits, fraction) ≡ z = cc in subst IsNumber same w
    numeral z k w e = absurd cc

strings : Tells r.string_in IsWrittenString
strings z = ((λ e. absurd cc), string z)
  where
    string : (z : List ℕ) (k : TokenKind) → IsRead k → r.string_in (Some k) ≡ Some z → IsWrittenString z
    string z (t.String codes) w e = let same : codes ≡ z = cc in subst IsWrittenString same w
    string z k w e = absurd cc

-- ---- lines

abbrev IsOperand : LineOperator × Expr → Type 0
IsOperand x = WrittenExpr x.1

operands : (xs : List (LineOperator × Expr)) → AllByRecursion IsOperand xs → WrittenOperands (r.operands xs)
operands [] all = tt
operands (x ∷ xs) all = (all.0, operands xs all.1)

line : (first : Expr) (others : LineOperands) → WrittenExpr first → WrittenOperands others → WrittenExpr (r.operator_line first others)
line first s.NoOperand w o = w
line first (s.Operand operator e others) w o = (w, o)

line_kept : {operand : Rule Expr} (kind : LineKind) → Keeps WrittenExpr operand → Keeps WrittenExpr (LineOf kind operand)
line_kept kind h =
    then WrittenExpr h (λ first w. then (AllByRecursion IsOperand) (repeats (λ operator. then WrittenExpr h (λ e own. gives own)))
    (λ others all. gives (line first (r.operands others) w (operands others all))))

-- ---- expressions and blocks, where what a token opens is so

pub record InnerKept (i : InnerRules) : Type 0 where
  pub negation : Keeps WrittenExpr i.negation
  pub sign : Keeps WrittenExpr i.sign
  pub parenthesis : Keeps WrittenExpr i.parenthesis
  pub subquery : Keeps WrittenBlock i.subquery
  pub argument : (f : SetFunction) → Keeps WrittenExpr (i.argument f)
  pub in_list : (negated : Bool) (value : Expr) → WrittenExpr value → Keeps WrittenExpr (i.in_list negated value)

items : (xs : List DerivedColumn) → AllByRecursion (λ (i : DerivedColumn). WrittenExpr i.value) xs → WrittenItems (r.items xs)
items [] all = tt
items (x ∷ xs) all = (all.0, items xs all.1)

abbrev WrittenMember : Option Expr → Type 0
WrittenMember None = ⊤
WrittenMember (Some e) = WrittenExpr e

members : (xs : List (Option Expr)) → AllByRecursion WrittenMember xs → WrittenMembers (r.member_list xs)
members [] all = tt
members (None ∷ xs) all = members xs all.1
members (Some e ∷ xs) all = (all.0, members xs all.1)

module _ {i : InnerRules} (h : InnerKept i) where
  other_primary : Keeps WrittenExpr (OtherPrimaryOf i)
  unfolding OtherPrimaryOf
  other_primary = if_there (past (then WrittenBlock h.subquery (λ q w. gives w))) (if_there h.parenthesis (after (λ c. gives tt)))

  primary : Keeps WrittenExpr (PrimaryOf i)
  unfolding PrimaryOf
  primary = reads_told IsNumber numbers (λ n w. gives w) (reads_told IsWrittenString strings (λ codes w. gives w) (reads (λ f. past (h.argument f)) other_primary))

  pub sign : Keeps WrittenExpr (SignOf i)
  unfolding SignOf
  sign = reads (λ minus. then WrittenExpr h.sign (λ e w. gives w)) primary

  product : Keeps WrittenExpr (ProductOf i)
  unfolding ProductOf
  product = line_kept r.Product sign

  sum : Keeps WrittenExpr (SumOf i)
  unfolding SumOf
  sum = line_kept r.Sum product

  compared : (op : ComparisonOperator) (v : Expr) → WrittenExpr v → Keeps WrittenExpr (ComparedOf i op v)
  unfolding ComparedOf
  compared op v w = reads (λ q. past (then WrittenBlock h.subquery (λ b own. gives (w, own)))) (then WrittenExpr sum (λ e own. gives (w, own)))

  null : (v : Expr) → WrittenExpr v → Keeps WrittenExpr (NullOf v)
  unfolding NullOf
  null v w = after (λ n. past (gives w))

  between : (n : Bool) (v : Expr) → WrittenExpr v → Keeps WrittenExpr (BetweenOf i n v)
  unfolding BetweenOf
  between n v w = then WrittenExpr sum (λ low own. past (then WrittenExpr sum (λ high other. gives (w, own, other))))

  like : (n : Bool) (v : Expr) → WrittenExpr v → Keeps WrittenExpr (LikeOf n v)
  unfolding LikeOf
  like n v w = after (λ codes. gives w)

  alone : (n : Bool) (v : Expr) → WrittenExpr v → Keeps WrittenExpr (r.alone n v)
  alone true v w = never
  alone false v w = gives w

  predicate : (n : Bool) (v : Expr) → WrittenExpr v → Keeps WrittenExpr (PredicateOf i n v)
  unfolding PredicateOf
  predicate n v w = if_there (between n v w) (if_there (like n v w) (if_there (past (h.in_list n v w)) (alone n v w)))

  tail : (v : Expr) → WrittenExpr v → Keeps WrittenExpr (TailOf i v)
  unfolding TailOf
  tail v w = reads (λ op. compared op v w) (if_there (null v w) (if_there (predicate true v w) (predicate false v w)))

  test : Keeps WrittenExpr (TestOf i)
  unfolding TestOf
  test = then WrittenExpr sum (λ v w. tail v w)

  pub negation : Keeps WrittenExpr (NegationOf i)
  unfolding NegationOf
  negation = if_there (then WrittenExpr h.negation (λ e w. gives w)) test

  conjunction : Keeps WrittenExpr (ConjunctionOf i)
  unfolding ConjunctionOf
  conjunction = line_kept r.Conjunction negation

  expr : Keeps WrittenExpr (ExprOf i)
  unfolding ExprOf
  expr = line_kept r.Disjunction conjunction

  item : Keeps (λ (x : DerivedColumn). WrittenExpr x.value) (ItemOf i)
  unfolding ItemOf
  item = then WrittenExpr expr (λ e w. after (λ alias. gives w))

  select_list : Keeps WrittenList (SelectListOf i)
  unfolding SelectListOf
  select_list = if_there (gives tt) (then _ (list most_items item) (λ xs all. gives (items xs all.0)))

  condition : (w : Word) → Keeps WrittenCondition (ConditionOf i w)
  unfolding ConditionOf
  condition w = if_there (then WrittenExpr expr (λ e own. gives own)) (gives tt)

  pub block : Keeps WrittenBlock (BlockOf i)
  unfolding BlockOf
  block =
      past (after (λ distinct. then WrittenList select_list (λ own_list a. past
      (then _ (list most_from_tables (anything {X = Source})) (λ sources some.
      then WrittenCondition (condition _) (λ where' b.
      after (λ groups.
      then WrittenCondition (condition _) (λ having c. gives (a, b, c, some.1)))))))))

  pub subquery : Keeps WrittenBlock (SubqueryOf i)
  unfolding SubqueryOf
  subquery = closed block

  pub parenthesis : Keeps WrittenExpr (ParenthesisOf i)
  unfolding ParenthesisOf
  parenthesis = sees (then WrittenBlock subquery (λ q w. gives w)) (closed expr)

  of_values : (f : SetFunction) → Keeps WrittenExpr (DistinctOf i f)
  of_values f = after (λ distinct. then WrittenExpr (closed expr) (λ e w. gives w))

  pub argument : (f : SetFunction) → Keeps WrittenExpr (ArgumentOf i f)
  unfolding ArgumentOf
  argument s.Count = if_there (past (gives tt)) (of_values s.Count)
  argument s.Sum = of_values s.Sum
  argument s.Avg = of_values s.Avg
  argument s.Min = of_values s.Min
  argument s.Max = of_values s.Max

  member : Keeps WrittenMember (MemberOf i)
  unfolding MemberOf
  member = if_there (gives tt) (then WrittenExpr sum (λ e w. gives w))

  pub in_list : (n : Bool) (v : Expr) → WrittenExpr v → Keeps WrittenExpr (InListOf i n v)
  unfolding InListOf
  in_list n v w = sees (then WrittenBlock subquery (λ q own. gives (w, own))) (then _ (closed (list most_members member)) (λ xs all. gives (w, members xs all.0)))

-- within whatever levels
within_kept : (n : ℕ) → InnerKept (within n)
within_kept zero = record { negation = never; sign = never; parenthesis = never; subquery = never; argument = λ f. never; in_list = λ n v w. never }
within_kept (suc n) =
    let h = within_kept n in
    record { negation = negation h; sign = sign h; parenthesis = parenthesis h; subquery = subquery h; argument = argument h; in_list = in_list h }

-- ---- statements

abbrev pub WrittenStatement : Statement → Type 0
WrittenStatement (s.Query q) = WrittenBlock q.block
WrittenStatement (s.Explain q) = WrittenBlock q.block
WrittenStatement _ = ⊤

select : {i : InnerRules} → InnerKept i → Keeps (λ (q : Select). WrittenBlock q.block) (SelectOf i)
unfolding SelectOf
select h = then WrittenBlock (block h) (λ b w. after (λ order. gives w))

create : Keeps WrittenStatement CreateAt
unfolding CreateAt TableAt IndexAt
create =
    if_there (after (λ n. after (λ columns. gives tt)))
    (after (λ unique. past (past (after (λ n. after (λ columns. gives tt))))))

load : Keeps WrittenStatement LoadAt
unfolding LoadAt
load = after (λ n. past (after (λ file. gives tt)))

set : Keeps WrittenStatement SetAt
unfolding SetAt
set = past (after (λ n. if_there (after (λ rows. past (after (λ pages. gives tt)))) (after (λ columns. after (λ statistics. gives tt)))))

statement : {i : InnerRules} → InnerKept i → Keeps WrittenStatement (StatementOf i)
unfolding StatementOf
statement h =
    if_there create (if_there load (if_there set
    (if_there (then _ (select h) (λ q w. gives w)) (then _ (select h) (λ q w. gives w)))))

pub statements_written : (levels : ℕ) (ts : List TokenKind) → AreRead ts → (at : ℕ) (ss : List Statement) → ScriptAt levels ts at ss → AllByRecursion WrittenStatement ss
statements_written levels ts read at ss (r.end a e) = tt
statements_written levels ts read at ss (r.next a mid x rest own semicolon more) =
    ((statement (within_kept levels)).keeps ts read _ _ _ own, statements_written levels ts read _ _ more)
