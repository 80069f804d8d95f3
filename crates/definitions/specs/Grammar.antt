-- Which statements a list of tokens is, rule by rule. The rules of expressions and queries are given the rules of what
-- a token opens: a parenthesis, a NOT or a sign, whose own inner rules have one level less.
use Rattle.std.specs.Prelude.{ℕ, zero, suc, ◌+◌, ◌≤◌, ◌≡◌, Bool, true, false, List, [], ◌∷◌, ◌++◌, Option, Some, None}
use Rattle.std.specs.Prelude.{slice_get, length, take, map, unwrap_or}
use Rattle.definitions.specs.Limits.{most_levels, most_items, most_from_tables, most_group_columns, most_members}
use Rattle.definitions.specs.Limits.{most_keys, most_index_columns, most_columns}
use Rattle.definitions.specs.Refusal.{Refusal}
use Rattle.definitions.specs.Refusal as refusal
use Rattle.definitions.specs.Value.{SqlType, Smallint, Integer, Numeric, Char}
use Rattle.definitions.specs.Word.{Word}
use Rattle.definitions.specs.Word as w
use Rattle.definitions.specs.Token.{OpenParen, CloseParen, Comma, Semicolon, Point, Asterisk, Solidus, Plus}
use Rattle.definitions.specs.Token.{Minus, TokenKind, Reserved, Mark, Token}
use Rattle.definitions.specs.Token as t
use Rattle.definitions.specs.Statement.{Name, ComparisonOperator, LineOperator, Quantifier, SetFunction}
use Rattle.definitions.specs.Statement.{ColumnReference, Source, Expr, LineOperands, Members, Items, SelectList}
use Rattle.definitions.specs.Statement.{DerivedColumn, SearchClause, QuerySpecification, KeyName, SortSpecification}
use Rattle.definitions.specs.Statement.{Select, Constraint, ColumnDefinition, Bound, Range, GivenStatistics, Statement}
use Rattle.definitions.specs.Statement as s
use Rattle.definitions.specs.Rule.{Rule, At, Never, Gives, Past, Sees, If, Reads, Then, Repeats}

-- rule ")"
abbrev pub Closed : {X : Type 0} → Rule X → Rule X
Closed rule = Then rule (λ x. Past (Mark CloseParen) (Gives x))

-- "(" rule ")"
abbrev pub Enclosed : {X : Type 0} → Rule X → Rule X
Enclosed rule = Past (Mark OpenParen) (Closed rule)

-- [kind rule]
abbrev pub Optional : {X : Type 0} → TokenKind → Rule X → Rule (Option X)
Optional kind rule = If kind (Then rule (λ x. Gives (Some x))) (Gives None)

-- [kind], whether it is there
abbrev pub Maybe : TokenKind → Rule Bool
Maybe kind = If kind (Gives true) (Gives false)

-- rule { "," rule }
abbrev pub comma_in : Option TokenKind → Option TokenKind
comma_in (Some (Mark Comma)) = Some (Mark Comma)
comma_in _ = None

abbrev pub WholeListOf : {X : Type 0} → Rule X → Rule (List X)
WholeListOf rule = Then rule (λ x. Then (Repeats comma_in (λ comma. rule)) (λ xs. Gives (x ∷ xs)))

-- the same where so many elements are allowed: of a list that has more, the tree has one more than is allowed, by which
-- it is refused (own)
abbrev pub ListOf : {X : Type 0} → (most : ℕ) → Rule X → Rule (List X)
ListOf most rule = Then (WholeListOf rule) (λ xs. Gives (take (most + 1) xs))

-- a name (ISO/IEC 9075:1992, 5.4)
abbrev pub name_in : Option TokenKind → Option Name
name_in (Some (t.Name n)) = Some n
name_in _ = None

abbrev pub NameAt : Rule Name
NameAt = Reads name_in (λ n. Gives n) Never

-- count: a numeral without a point (5.3, unsigned integer)
abbrev pub count_in : Option TokenKind → Option ℕ
count_in (Some (t.Numeral units digits None)) = Some units
count_in _ = None

abbrev pub CountAt : Rule ℕ
CountAt = Reads count_in (λ n. Gives n) Never

-- a number: its units, how many digits it has, and how many of them behind its point if it has one (5.3)
abbrev pub numeral_in : Option TokenKind → Option (ℕ × ℕ × Option ℕ)
numeral_in (Some (t.Numeral units digits fraction)) = Some (units, digits, fraction)
numeral_in _ = None

-- string (5.3)
abbrev pub string_in : Option TokenKind → Option (List ℕ)
string_in (Some (t.String codes)) = Some codes
string_in _ = None

abbrev pub StringAt : Rule (List ℕ)
StringAt = Reads string_in (λ codes. Gives codes) Never

-- ---- columns of a table

-- the words of one type (6.1)
pub data TypeWord : Type 0 where
  SmallintWord IntegerWord NumericWord CharWord : TypeWord

abbrev pub type_word : Option TokenKind → Option TypeWord
type_word (Some (Reserved w.Smallint)) = Some SmallintWord
type_word (Some (Reserved w.Integer)) = Some IntegerWord
type_word (Some (Reserved w.Int)) = Some IntegerWord
type_word (Some (Reserved w.Numeric)) = Some NumericWord
type_word (Some (Reserved w.Decimal)) = Some NumericWord
type_word (Some (Reserved w.Dec)) = Some NumericWord
type_word (Some (Reserved w.Char)) = Some CharWord
type_word (Some (Reserved w.Character)) = Some CharWord
type_word _ = None

-- ["," count], the scale of NUMERIC and DECIMAL; it is 0 if none is written (6.1)
unfoldable pub ScaleAt : Rule ℕ
ScaleAt = If (Mark Comma) CountAt (Gives 0)

-- "(" count scale ")" (6.1)
unfoldable pub ParametersAt : Rule SqlType
ParametersAt = Enclosed (Then CountAt (λ p. Then ScaleAt (λ s. Gives (Numeric p s))))

-- ["(" count ")"], the length of CHAR; it is 1 if none is written (6.1)
unfoldable pub LengthAt : Rule SqlType
LengthAt = If (Mark OpenParen) (Then CountAt (λ n. Past (Mark CloseParen) (Gives (Char n)))) (Gives (Char 1))

-- SMALLINT | INTEGER | INT | (NUMERIC | DECIMAL | DEC) parameters | (CHAR | CHARACTER) length (6.1)
abbrev pub behind_type_word : TypeWord → Rule SqlType
behind_type_word SmallintWord = Gives Smallint
behind_type_word IntegerWord = Gives Integer
behind_type_word NumericWord = ParametersAt
behind_type_word CharWord = LengthAt

unfoldable pub TypeAt : Rule SqlType
TypeAt = Reads type_word behind_type_word Never

-- [NOT NULL [UNIQUE | PRIMARY KEY]] (11.4, 11.7)
unfoldable pub ConstraintAt : Rule Constraint
ConstraintAt =
    If (Reserved w.Not) (Past (Reserved w.Null)
    (If (Reserved w.Unique) (Gives s.Unique)
    (If (Reserved w.Primary) (Past (Reserved w.Key) (Gives s.PrimaryKey))
    (Gives s.NotNull))))
    (Gives s.Nullable)

-- name type [constraint] (11.4)
unfoldable pub ColumnAt : Rule ColumnDefinition
ColumnAt =
    Then NameAt (λ n. Then TypeAt (λ ty. Then ConstraintAt (λ c.
    Gives (record { name = n; type = ty; constraint = c }))))

-- ---- expressions

-- name ["." name] (6.4)
unfoldable pub ReferenceAt : Rule ColumnReference
ReferenceAt =
    Then NameAt (λ n. If (Mark Point) (Then NameAt (λ m. Gives (record { qualifier = Some n; name = m })))
    (Gives (record { qualifier = None; name = n })))

-- the comparison that a token stands for (8.2)
abbrev pub op_in : Option TokenKind → Option ComparisonOperator
op_in (Some (Mark t.Equals)) = Some s.Equals
op_in (Some (Mark t.NotEquals)) = Some s.NotEquals
op_in (Some (Mark t.LessThan)) = Some s.LessThan
op_in (Some (Mark t.GreaterThan)) = Some s.GreaterThan
op_in (Some (Mark t.LessOrEquals)) = Some s.LessOrEquals
op_in (Some (Mark t.GreaterOrEquals)) = Some s.GreaterOrEquals
op_in _ = None

-- ALL, ANY and SOME (8.7)
abbrev pub quantifier_in : Option TokenKind → Option Quantifier
quantifier_in (Some (Reserved w.All)) = Some s.All
quantifier_in (Some (Reserved w.Any)) = Some s.Any
quantifier_in (Some (Reserved w.Some)) = Some s.Any
quantifier_in _ = None

-- the sign that a token stands for, whether it is minus (5.3, 6.12)
abbrev pub sign_in : Option TokenKind → Option Bool
sign_in (Some (Mark Plus)) = Some false
sign_in (Some (Mark Minus)) = Some true
sign_in _ = None

-- the set functions (6.5)
abbrev pub function_in : Option TokenKind → Option SetFunction
function_in (Some (Reserved w.Count)) = Some s.Count
function_in (Some (Reserved w.Sum)) = Some s.Sum
function_in (Some (Reserved w.Avg)) = Some s.Avg
function_in (Some (Reserved w.Min)) = Some s.Min
function_in (Some (Reserved w.Max)) = Some s.Max
function_in _ = None

-- the four kinds of line, and the operators of each (8.12, 6.12)
pub data LineKind : Type 0 where
  Disjunction Conjunction Sum Product : LineKind

abbrev pub operator_in : LineKind → Option TokenKind → Option LineOperator
operator_in Disjunction (Some (Reserved w.Or)) = Some s.Or
operator_in Conjunction (Some (Reserved w.And)) = Some s.And
operator_in Sum (Some (Mark Plus)) = Some s.Plus
operator_in Sum (Some (Mark Minus)) = Some s.Minus
operator_in Product (Some (Mark Asterisk)) = Some s.Times
operator_in Product (Some (Mark Solidus)) = Some s.Divided
operator_in _ _ = None

abbrev pub operands : List (LineOperator × Expr) → LineOperands
operands [] = s.NoOperand
operands (x ∷ xs) = s.Operand x.0 x.1 (operands xs)

-- one operand alone is no line
abbrev pub operator_line : Expr → LineOperands → Expr
operator_line first s.NoOperand = first
operator_line first (s.Operand operator operand others) = s.Line first (s.Operand operator operand others)

-- operand { operator operand }
abbrev pub LineOf : LineKind → Rule Expr → Rule Expr
LineOf kind operand =
    Then operand (λ first.
    Then (Repeats (operator_in kind) (λ operator. Then operand (λ e. Gives (operator, e))))
    (λ others. Gives (operator_line first (operands others))))

-- the rules of what stands behind a token that opens a level: NOT, a sign, and the parenthesis of an expression, a
-- subquery, a set function and IN
pub record InnerRules : Type 1 where
  pub negation : Rule Expr
  pub sign : Rule Expr
  pub parenthesis : Rule Expr
  pub subquery : Rule QuerySpecification
  pub argument : SetFunction → Rule Expr
  pub in_list : Bool → Expr → Rule Expr

-- EXISTS "(" subquery | "(" parenthesis | ref (6.4, 6.11, 7.11, 8.9)
unfoldable pub OtherPrimaryOf : InnerRules → Rule Expr
OtherPrimaryOf inner =
    If (Reserved w.Exists) (Past (Mark OpenParen) (Then inner.subquery (λ q. Gives (s.Exists q))))
    (If (Mark OpenParen) inner.parenthesis
    (Then ReferenceAt (λ r. Gives (s.Column r))))

-- number | string | function "(" argument | another primary (6.2, 6.3, 6.5)
unfoldable pub PrimaryOf : InnerRules → Rule Expr
PrimaryOf inner =
    Reads numeral_in (λ n. Gives (s.Numeral n.0 n.1 (unwrap_or n.2 0)))
    (Reads string_in (λ codes. Gives (s.String codes))
    (Reads function_in (λ f. Past (Mark OpenParen) (inner.argument f))
    (OtherPrimaryOf inner)))

-- ("+" | "-") sign | primary (6.12)
unfoldable pub SignOf : InnerRules → Rule Expr
SignOf inner = Reads sign_in (λ minus. Then inner.sign (λ e. Gives (s.Signed minus e))) (PrimaryOf inner)

-- sign { ("*" | "/") sign } and product { ("+" | "-") product } (6.12)
unfoldable pub ProductOf : InnerRules → Rule Expr
ProductOf inner = LineOf Product (SignOf inner)

unfoldable pub SumOf : InnerRules → Rule Expr
SumOf inner = LineOf Sum (ProductOf inner)

-- behind a comparison operator: (ALL | ANY | SOME) "(" subquery (8.7) | sum (8.2)
unfoldable pub ComparedOf : InnerRules → ComparisonOperator → Expr → Rule Expr
ComparedOf inner op value =
    Reads quantifier_in (λ quantifier. Past (Mark OpenParen)
    (Then inner.subquery (λ q. Gives (s.CompareAll op quantifier value q))))
    (Then (SumOf inner) (λ e. Gives (s.Compare op value e)))

-- behind IS: [NOT] NULL (8.6)
unfoldable pub NullOf : Expr → Rule Expr
NullOf value = Then (Maybe (Reserved w.Not)) (λ negated. Past (Reserved w.Null) (Gives (s.IsNull negated value)))

-- behind BETWEEN: sum AND sum (8.3)
unfoldable pub BetweenOf : InnerRules → Bool → Expr → Rule Expr
BetweenOf inner negated value =
    Then (SumOf inner) (λ low. Past (Reserved w.And)
    (Then (SumOf inner) (λ high. Gives (s.Between negated value low high))))

-- behind LIKE: string (8.5)
unfoldable pub LikeOf : Bool → Expr → Rule Expr
LikeOf negated value = Then StringAt (λ codes. Gives (s.Like negated value codes))

-- nothing behind a value, which can't be behind NOT
abbrev pub alone : Bool → Expr → Rule Expr
alone true value = Never
alone false value = Gives value

-- BETWEEN .. | LIKE .. | IN "(" in_list; or, but not behind NOT, nothing (8.3 to 8.5)
unfoldable pub PredicateOf : InnerRules → Bool → Expr → Rule Expr
PredicateOf inner negated value =
    If (Reserved w.Between) (BetweenOf inner negated value)
    (If (Reserved w.Like) (LikeOf negated value)
    (If (Reserved w.In) (Past (Mark OpenParen) (inner.in_list negated value))
    (alone negated value)))

-- behind a value: [op .. | IS .. | [NOT] (BETWEEN .. | LIKE .. | IN ..)] (8.1)
unfoldable pub TailOf : InnerRules → Expr → Rule Expr
TailOf inner value =
    Reads op_in (λ op. ComparedOf inner op value)
    (If (Reserved w.Is) (NullOf value)
    (If (Reserved w.Not) (PredicateOf inner true value)
    (PredicateOf inner false value)))

-- sum [tail] (8.1)
unfoldable pub TestOf : InnerRules → Rule Expr
TestOf inner = Then (SumOf inner) (λ value. TailOf inner value)

-- NOT negation | test (8.12)
unfoldable pub NegationOf : InnerRules → Rule Expr
NegationOf inner = If (Reserved w.Not) (Then inner.negation (λ e. Gives (s.Not e))) (TestOf inner)

-- negation { AND negation } and conjunction { OR conjunction } (8.12)
unfoldable pub ConjunctionOf : InnerRules → Rule Expr
ConjunctionOf inner = LineOf Conjunction (NegationOf inner)

unfoldable pub ExprOf : InnerRules → Rule Expr
ExprOf inner = LineOf Disjunction (ConjunctionOf inner)

-- ---- query blocks

-- [ALL | DISTINCT], whether DISTINCT (6.5, 7.9)
unfoldable pub DistinctAt : Rule Bool
DistinctAt = If (Reserved w.All) (Gives false) (Maybe (Reserved w.Distinct))

-- expr [AS name] (7.9)
unfoldable pub ItemOf : InnerRules → Rule DerivedColumn
ItemOf inner =
    Then (ExprOf inner) (λ e. Then (Optional (Reserved w.As) NameAt) (λ alias.
    Gives (record { value = e; alias = alias })))

abbrev pub items : List DerivedColumn → Items
items [] = s.NoItem
items (x ∷ xs) = s.AddItem x.value x.alias (items xs)

-- "*" | item { "," item } (7.9)
unfoldable pub SelectListOf : InnerRules → Rule SelectList
SelectListOf inner =
    If (Mark Asterisk) (Gives s.Asterisk) (Then (ListOf most_items (ItemOf inner)) (λ xs. Gives (s.Listed (items xs))))

-- name [name] (6.3)
unfoldable pub SourceAt : Rule Source
SourceAt =
    Then NameAt (λ n. Reads name_in (λ c. Gives (record { table = n; correlation = Some c }))
    (Gives (record { table = n; correlation = None })))

-- [word expr], the word being WHERE (7.6) or HAVING (7.8)
unfoldable pub ConditionOf : InnerRules → Word → Rule SearchClause
ConditionOf inner word = If (Reserved word) (Then (ExprOf inner) (λ e. Gives (s.Present e))) (Gives s.Absent)

-- [GROUP BY ref { "," ref }] (7.7)
unfoldable pub GroupsAt : Rule (List ColumnReference)
GroupsAt = If (Reserved w.Group) (Past (Reserved w.By) (ListOf most_group_columns ReferenceAt)) (Gives [])

-- SELECT [ALL | DISTINCT] list FROM source { "," source } [WHERE expr] [GROUP BY ref { "," ref }] [HAVING expr] (7.9,
-- 7.3, 7.4, 7.6 to 7.8)
unfoldable pub BlockOf : InnerRules → Rule QuerySpecification
BlockOf inner =
    Past (Reserved w.Select) (Then DistinctAt (λ distinct. Then (SelectListOf inner) (λ list.
    Past (Reserved w.From) (Then (ListOf most_from_tables SourceAt) (λ sources.
    Then (ConditionOf inner w.Where) (λ condition.
    Then GroupsAt (λ groups.
    Then (ConditionOf inner w.Having) (λ having.
    Gives (s.Specification distinct list sources condition groups having)))))))))

-- ---- what stands behind an opening parenthesis

-- block ")" (7.11)
unfoldable pub SubqueryOf : InnerRules → Rule QuerySpecification
SubqueryOf inner = Closed (BlockOf inner)

-- block ")" | expr ")" (6.11, 7.11)
unfoldable pub ParenthesisOf : InnerRules → Rule Expr
ParenthesisOf inner =
    Sees (Reserved w.Select) (Then (SubqueryOf inner) (λ q. Gives (s.Scalar q))) (Closed (ExprOf inner))

-- [ALL | DISTINCT] expr ")", and for COUNT also "*" ")" (6.5)
abbrev pub DistinctOf : InnerRules → SetFunction → Rule Expr
DistinctOf inner f = Then DistinctAt (λ distinct. Then (Closed (ExprOf inner)) (λ e. Gives (s.Function f distinct e)))

unfoldable pub ArgumentOf : InnerRules → SetFunction → Rule Expr
ArgumentOf inner s.Count = If (Mark Asterisk) (Past (Mark CloseParen) (Gives s.CountRows)) (DistinctOf inner s.Count)
ArgumentOf inner f = DistinctOf inner f

-- sum | NULL (8.4; NULL is own)
unfoldable pub MemberOf : InnerRules → Rule (Option Expr)
MemberOf inner = If (Reserved w.Null) (Gives None) (Then (SumOf inner) (λ e. Gives (Some e)))

abbrev pub member_list : List (Option Expr) → Members
member_list [] = s.NoMember
member_list (None ∷ xs) = s.NullMember (member_list xs)
member_list (Some e ∷ xs) = s.Member e (member_list xs)

-- block ")" | member { "," member } ")" (8.4)
unfoldable pub InListOf : InnerRules → Bool → Expr → Rule Expr
InListOf inner negated value =
    Sees (Reserved w.Select) (Then (SubqueryOf inner) (λ q. Gives (s.InQuery negated value q)))
    (Then (Closed (ListOf most_members (MemberOf inner))) (λ xs. Gives (s.InList negated value (member_list xs))))

-- what is within so many levels: nothing within none; within one more, the rules whose own inner ones have one less
-- (own)
abbrev pub within : ℕ → InnerRules
within zero =
    record {
      negation = Never;
      sign = Never;
      parenthesis = Never;
      subquery = Never;
      argument = λ f. Never;
      in_list = λ negated value. Never;
    }
within (suc levels) = record {
  negation = NegationOf (within levels);
  sign = SignOf (within levels);
  parenthesis = ParenthesisOf (within levels);
  subquery = SubqueryOf (within levels);
  argument = ArgumentOf (within levels);
  in_list = InListOf (within levels);
}

-- ---- statements

-- name | count, and with a direction (13.1)
unfoldable pub KeyNameAt : Rule KeyName
KeyNameAt = Reads name_in (λ n. Gives (s.ByName n)) (Then CountAt (λ n. Gives (s.ByPosition n)))

-- [ASC | DESC], whether DESC
unfoldable pub DirectionAt : Rule Bool
DirectionAt = If (Reserved w.Asc) (Gives false) (Maybe (Reserved w.Desc))

unfoldable pub KeyAt : Rule SortSpecification
KeyAt = Then KeyNameAt (λ k. Then DirectionAt (λ d. Gives (record { named = k; descending = d })))

-- block [ORDER BY key { "," key }] (13.1)
unfoldable pub OrderAt : Rule (List SortSpecification)
OrderAt = If (Reserved w.Order) (Past (Reserved w.By) (ListOf most_keys KeyAt)) (Gives [])

unfoldable pub SelectOf : InnerRules → Rule Select
SelectOf inner = Then (BlockOf inner) (λ b. Then OrderAt (λ o. Gives (record { block = b; order = o })))

-- "(" name { "," name } ")" (own)
unfoldable pub NamesAt : Rule (List Name)
NamesAt = Enclosed (ListOf most_index_columns NameAt)

-- behind CREATE TABLE: name "(" column { "," column } ")" (11.3)
unfoldable pub TableAt : Rule Statement
TableAt = Then NameAt (λ n. Then (Enclosed (ListOf most_columns ColumnAt)) (λ columns. Gives (s.CreateTable n columns)))

-- [UNIQUE] INDEX ON name names (own)
unfoldable pub IndexAt : Rule Statement
IndexAt =
    Then (Maybe (Reserved w.Unique))
    (λ unique. Past (Reserved w.Index)
    (Past (Reserved w.On) (Then NameAt (λ n. Then NamesAt (λ columns. Gives (s.CreateIndex unique n columns))))))

-- behind CREATE: TABLE .. | .. INDEX ..
unfoldable pub CreateAt : Rule Statement
CreateAt = If (Reserved w.Table) TableAt IndexAt

-- behind LOAD: name FROM string (own)
unfoldable pub LoadAt : Rule Statement
LoadAt = Then NameAt (λ n. Past (Reserved w.From) (Then StringAt (λ file. Gives (s.Load n file))))

-- ["+" | "-"] number (5.3)
abbrev pub UnsignedAt : Bool → Rule Bound
UnsignedAt minus =
    Reads numeral_in (λ n. Gives (record { minus = minus; units = n.0; digits = n.1; scale = unwrap_or n.2 0 })) Never

unfoldable pub BoundAt : Rule Bound
BoundAt = Reads sign_in (λ minus. UnsignedAt minus) (UnsignedAt false)

-- [LOW bound HIGH bound] (own)
unfoldable pub RangeAt : Rule (Option Range)
RangeAt =
    Optional (Reserved w.Low)
    (Then BoundAt (λ low. Past (Reserved w.High) (Then BoundAt (λ high. Gives (record { low = low; high = high })))))

-- KEYS count PAGES count [CLUSTERED] [LOW bound HIGH bound] (own)
unfoldable pub StatisticsAt : Rule GivenStatistics
StatisticsAt =
    Past (Reserved w.Keys) (Then CountAt (λ keys. Past (Reserved w.Pages) (Then CountAt (λ pages.
    Then (Maybe (Reserved w.Clustered)) (λ clustered. Then RangeAt (λ range.
    Gives (record { keys = keys; pages = pages; clustered = clustered; range = range })))))))

-- behind SET: STATISTICS name (ROWS count PAGES count | names statistics) (own)
unfoldable pub SetAt : Rule Statement
SetAt =
    Past (Reserved w.Statistics) (Then NameAt (λ n.
    If (Reserved w.Rows) (Then CountAt
    (λ rows. Past (Reserved w.Pages) (Then CountAt (λ pages. Gives (s.SetTableStatistics n rows pages)))))
    (Then NamesAt (λ columns. Then StatisticsAt (λ statistics. Gives (s.SetIndexStatistics n columns statistics))))))

-- CREATE .. | LOAD .. | SET .. | EXPLAIN query (own) | query (13.1)
unfoldable pub StatementOf : InnerRules → Rule Statement
StatementOf inner =
    If (Reserved w.Create) CreateAt
    (If (Reserved w.Load) LoadAt
    (If (Reserved w.Set) SetAt
    (If (Reserved w.Explain) (Then (SelectOf inner) (λ q. Gives (s.Explain q)))
    (Then (SelectOf inner) (λ q. Gives (s.Query q))))))

-- { statement ";" }, up to the end of the tokens
pub data ScriptAt (levels : ℕ) (tokens : List TokenKind) : ℕ → List Statement → Type 0 where
  end : (at : ℕ) → at ≡ length tokens → ScriptAt levels tokens at []
  next : (at mid : ℕ) (statement : Statement) (rest : List Statement)
      → StatementOf (within levels) tokens at mid statement → At tokens mid (Mark Semicolon)
      → ScriptAt levels tokens (mid + 1) rest → ScriptAt levels tokens at (statement ∷ rest)

-- the statements that tokens derive
abbrev pub Derives : List TokenKind → List Statement → Type 0
Derives tokens statements = ScriptAt most_levels tokens 0 statements

-- ---- faults (own)

-- no script within so many levels begins with these tokens
abbrev pub BeginsNone : ℕ → List TokenKind → Type 0
BeginsNone levels tokens =
    (more : List TokenKind) (statements : List Statement) → ScriptAt levels (tokens ++ more) 0 statements → ⊥

-- how many of some tokens can open a level: parentheses, signs and NOTs
abbrev pub opens : TokenKind → ℕ
opens (Mark OpenParen) = 1
opens (Mark Plus) = 1
opens (Mark Minus) = 1
opens (Reserved w.Not) = 1
opens _ = 0

abbrev pub openers : List TokenKind → ℕ
openers [] = 0
openers (k ∷ ks) = opens k + openers ks

abbrev pub kinds : List Token → List TokenKind
kinds tokens = map (λ (t : Token). t.kind) tokens

-- what is wrong where some tokens end with the one that is told: no script of any depth begins with them; or none of at
-- most 64 levels does, though 65 or more of them can open one
abbrev pub IsWrong : Refusal → List TokenKind → Type 0
IsWrong refusal.Unexpected front = (levels : ℕ) → BeginsNone levels front
IsWrong refusal.TooDeep front = (most_levels + 1 ≤ openers front) × BeginsNone most_levels front
IsWrong _ front = ⊥

-- a syntax fault at a byte of a text of so many: it stands at a token; or at the text's end, where the tokens are no
-- script of any depth
pub data SyntaxFails (tokens : List Token) (size : ℕ) : Refusal → ℕ → Type 0 where
  at_token : (r : Refusal) (at place : ℕ) (token : Token) → slice_get tokens place ≡ Some token → at ≡ token.at
      → IsWrong r (take (place + 1) (kinds tokens)) → SyntaxFails tokens size r at
  at_end : (r : Refusal) (at : ℕ) → r ≡ refusal.Unexpected → at ≡ size
      → ((levels : ℕ) (statements : List Statement) → ScriptAt levels (kinds tokens) 0 statements → ⊥)
      → SyntaxFails tokens size r at
