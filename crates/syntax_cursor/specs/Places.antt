-- Where the leaves of trees stand among the tokens: names, literals and operators.
use Rattle.std.specs.Prelude.{ℕ, ◌+◌, ◌≤◌, ◌≡◌, ◌++◌, Bool, true, false, List, [], ◌∷◌, Option, Some, None, drop, map, slice_get}
use Rattle.std.specs.Prelude.{unwrap_or}
use Rattle.definitions.specs.Word as w
use Rattle.definitions.specs.Word.{Word}
use Rattle.definitions.specs.Token as t
use Rattle.definitions.specs.Token.{Symbol, TokenKind, Token}
use Rattle.parse_tree.specs.declared.leaf.Name as name
use Rattle.parse_tree.specs.declared.leaf.Numeral as numeral
use Rattle.parse_tree.specs.declared.leaf.StringLiteral as string
use Rattle.parse_tree.specs.declared.leaf.Count as count
use Rattle.parse_tree.specs.Trees.{name_of, text_of}
use Rattle.syntax_cursor.specs.Reading.{Place}

-- a leaf of a tree: a name, a number by its units and its scale, a string, or the word or symbol of an operator
pub data Leaf : Type 0 where
  Name : (name : List ℕ) → Leaf
  Number : (units scale : ℕ) → Leaf
  String : (codes : List ℕ) → Leaf
  Reserved : (word : Word) → Leaf
  Mark : (symbol : Symbol) → Leaf

-- a leaf, and the offset of its first byte in the script
pub record Placed : Type 0 where
  pub leaf : Leaf
  pub start : ℕ

abbrev pub one : Leaf → (start : ℕ) → List Placed
one leaf start = record { leaf = leaf; start = start } ∷ []

-- ---- the leaves of trees

abbrev pub name_leaves : name.Name → List Placed
name_leaves n = one (Name (name_of n)) n.start

abbrev pub numeral_leaves : numeral.Numeral → List Placed
numeral_leaves n = one (Number n.units n.scale) n.start

abbrev pub string_leaves : string.StringLiteral → List Placed
string_leaves s = one (String (text_of s)) s.start

abbrev pub count_leaves : count.Count → List Placed
count_leaves n = one (Number n.units 0) n.start

-- the leaves of what is there
abbrev pub if_there : {A : Type 0} → (A → List Placed) → Option A → List Placed
if_there leaves None = []
if_there leaves (Some a) = leaves a

-- ---- the leaves that tokens can be

abbrev pub leaf_in : TokenKind → Leaf
leaf_in (t.Name n) = Name n
leaf_in (t.Numeral units digits fraction) = Number units (unwrap_or fraction 0)
leaf_in (t.String codes) = String codes
leaf_in (t.Reserved word) = Reserved word
leaf_in (t.Mark symbol) = Mark symbol

abbrev pub placed_of : Token → Placed
placed_of token = record { leaf = leaf_in token.kind; start = token.at }

-- the words that are always operators of a tree
abbrev pub is_operator_word : Word → Bool
is_operator_word w.Or = true
is_operator_word w.Is = true
is_operator_word w.Between = true
is_operator_word w.Like = true
is_operator_word w.In = true
is_operator_word w.Exists = true
is_operator_word w.Select = true
is_operator_word w.Count = true
is_operator_word w.Sum = true
is_operator_word w.Avg = true
is_operator_word w.Min = true
is_operator_word w.Max = true
is_operator_word _ = false

-- the symbols that are
abbrev pub is_operator_mark : Symbol → Bool
is_operator_mark t.Solidus = true
is_operator_mark t.Equals = true
is_operator_mark t.NotEquals = true
is_operator_mark t.LessThan = true
is_operator_mark t.GreaterThan = true
is_operator_mark t.LessOrEquals = true
is_operator_mark t.GreaterOrEquals = true
is_operator_mark _ = false

-- the tokens that always have a leaf; a number has none in a type, and the other words and symbols also stand where no
-- operator is written
abbrev pub has_leaf : Leaf → Bool
has_leaf (Name n) = true
has_leaf (Number units scale) = false
has_leaf (String codes) = true
has_leaf (Reserved word) = is_operator_word word
has_leaf (Mark symbol) = is_operator_mark symbol

-- leaves are those of some tokens, in their order, up to the tokens that are left; none that always has a leaf is
-- passed over, but in so many lists at most what stands from a comma on, as it does where a list is past its limit
pub data Stand : (lists : ℕ) → (tokens leaves left : List Placed) → Type 0 where
  none : (lists : ℕ) (tokens left : List Placed) → tokens ≡ left → Stand lists tokens [] left
  passed : (lists : ℕ) (token : Placed) (tokens leaves left : List Placed) → has_leaf token.leaf ≡ false
      → Stand lists tokens leaves left → Stand lists (token ∷ tokens) leaves left
  leaf : (lists : ℕ) (token : Placed) (tokens leaves left : List Placed) → Stand lists tokens leaves left
      → Stand lists (token ∷ tokens) (token ∷ leaves) left
  left_out : (lists others : ℕ) (comma : Placed) (tokens elements behind leaves left : List Placed)
      → lists ≡ others + 1 → comma.leaf ≡ Mark t.Comma → tokens ≡ elements ++ behind → Stand others behind leaves left
      → Stand lists (comma ∷ tokens) leaves left

-- leaves are those of all the tokens, but of so many lists at most
abbrev pub StandIn : (lists : ℕ) → List Placed → List Token → Type 0
StandIn lists leaves tokens = Stand lists (map placed_of tokens) leaves []

-- ---- from place to place

-- tokens with where they begin
abbrev pub beside : List TokenKind → (starts : List ℕ) → List Placed
beside [] starts = []
beside (kind ∷ kinds) [] = record { leaf = leaf_in kind; start = 0 } ∷ beside kinds []
beside (kind ∷ kinds) (start ∷ starts) = record { leaf = leaf_in kind; start = start } ∷ beside kinds starts

-- where the token at a place begins; 0 at the end
abbrev pub start_at : Place → ℕ
start_at p = unwrap_or (slice_get p.starts p.at) 0

-- the tokens from a place on
abbrev pub left_at : Place → List Placed
left_at p = drop p.at (beside p.tokens p.starts)

-- leaves are those of the tokens from a place to another, but of as many lists as are noted between them
pub record Stands (p q : Place) (leaves : List Placed) : Type 0 where
  pub lists : ℕ
  pub noted : p.long_lists + lists ≤ q.long_lists
  pub stand : Stand lists (left_at p) leaves (left_at q)

-- where some leaves stand up to a place, those of a whole that they begin stand up to a later one
abbrev pub GoesOn : (before : List Placed) → (p q : Place) → (after : List Placed) → Type 0
GoesOn before p q after = (from : Place) → Stands from p before → Stands from q after
