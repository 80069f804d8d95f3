-- What holds of the definitions, each proved as the contract of a function that has no code.
use Rattle.std.specs.Prelude.{ℕ, ◌<◌, ◌≤◌, ◌≡◌, ◌≢◌, ◌↔◌, length, List, [], ◌∷◌, ◌++◌, Some, Result, true, false}
use Rattle.std.specs.Cmp.{IsTotalOrder}
use Rattle.std.specs.declared.cmp.Ordering.{Ordering}
use Rattle.std.specs.declared.cmp.Ordering.TheVariants.{Less, Equal}
use Rattle.definitions.specs.Characters.{quote}
use Rattle.definitions.specs.Limits.{most_columns, most_index_columns, most_members, most_items, most_from_tables}
use Rattle.definitions.specs.Limits.{most_group_columns, most_keys}
use Rattle.definitions.specs.Value.{Value, Null, SqlType, compare, rank, AreNotDistinct}
use Rattle.definitions.specs.Refusal.{FieldError}
use Rattle.definitions.specs.Loading.{Record, FieldLoads, AreFileRecords}
use Rattle.definitions.specs.Token.{Token, TokenKind}
use Rattle.definitions.specs.Lexing.{LexFault, ReadsAs, quoted}
use Rattle.definitions.specs.Statement.{Statement}
use Rattle.definitions.specs.Rule.{Rule}
use Rattle.definitions.specs.Grammar.{WholeListOf, ListOf, ColumnAt, NameAt, MemberOf, ItemOf, SourceAt, ReferenceAt}
use Rattle.definitions.specs.Grammar.{KeyAt, within, Derives}
use Rattle.definitions.specs.Printing.{doubled}

-- every text has its tokens or a lexical fault, and only one of these
abbrev pub EachTextReadsOnce : Type 0
EachTextReadsOnce =
    (text : List ℕ) → (outcome : Result (List Token) LexFault) × ReadsAs text outcome
    × ((other : Result (List Token) LexFault) → ReadsAs text other → other ≡ outcome)

-- tokens derive at most one list of statements
abbrev pub DerivesAtMostOne : Type 0
DerivesAtMostOne = (tokens : List TokenKind) (a b : List Statement) → Derives tokens a → Derives tokens b → a ≡ b

-- a list within its limit is read whole, and one past it is past it in the tree, too
abbrev pub IsReadToItsLimit : {X : Type 0} → (most : ℕ) → Rule X → Type 0
IsReadToItsLimit {X} most rule =
    (tokens : List TokenKind) (at end to : ℕ) (whole kept : List X) → WholeListOf rule tokens at end whole
    → ListOf most rule tokens at to kept
    → (length whole ≤ most → kept ≡ whole) × (most < length whole → most < length kept)

pub record ListsAreReadToTheirLimits : Type 0 where
  pub columns : IsReadToItsLimit most_columns ColumnAt
  pub names : IsReadToItsLimit most_index_columns NameAt
  pub members : (levels : ℕ) → IsReadToItsLimit most_members (MemberOf (within levels))
  pub items : (levels : ℕ) → IsReadToItsLimit most_items (ItemOf (within levels))
  pub sources : IsReadToItsLimit most_from_tables SourceAt
  pub groups : IsReadToItsLimit most_group_columns ReferenceAt
  pub keys : IsReadToItsLimit most_keys KeyAt

-- the spelling of a text literal reads as that text
abbrev pub QuotedReadsBack : Type 0
QuotedReadsBack =
    (text : List ℕ) → quoted false (doubled text ++ quote ∷ []) ≡ Some (record { closed = true; codes = text })

-- a field loads as at most one value or error
abbrev pub FieldLoadsOnce : Type 0
FieldLoadsOnce =
    (type : SqlType) (field : List ℕ) (a b : Result Value FieldError) → FieldLoads type field a
    → FieldLoads type field b → a ≡ b

-- a file has at most one list of records
abbrev pub FileReadsOnce : Type 0
FileReadsOnce = (bytes : List ℕ) (a b : List Record) → AreFileRecords bytes a → AreFileRecords bytes b → a ≡ b

-- each value ranks as equal to itself; two the other way round rank the reverse; what is less than a lesser value is
-- less; and values of equal rank stand alike to every other
abbrev pub RankIsTotalOrder : Type 0
RankIsTotalOrder = ((v : Value) → rank v v ≡ Equal) × IsTotalOrder rank

-- null ranks before every other value
abbrev pub NullRanksFirst : Type 0
NullRanksFirst = (v : Value) → v ≢ Null → rank Null v ≡ Less

-- values rank as they compare, where that is known
abbrev pub RankAgreesWithComparison : Type 0
RankAgreesWithComparison = (a b : Value) (o : Ordering) → compare a b ≡ Some o → rank a b ≡ o

-- values of equal rank are those that are not distinct
abbrev pub EqualRankIsNotDistinct : Type 0
EqualRankIsNotDistinct = (a b : Value) → (rank a b ≡ Equal) ↔ AreNotDistinct a b
