-- What it means that a rule is read at a place of the tokens, or stopped.
use Rattle.std.specs.Prelude.{ℕ, ◌≡◌, ◌+◌, ◌<◌, ◌≤◌, List, Bool, true, false, Option, Some, None, Result, Ok, Err}
use Rattle.std.specs.Prelude.{slice_get, take, map, unwrap_or}
use Rattle.definitions.specs.Token as token
use Rattle.definitions.specs.Token.{TokenKind}
use Rattle.definitions.specs.Rule.{Rule, At, NotAt}
use Rattle.definitions.specs.Grammar.{openers, numeral_in}
use Rattle.definitions.specs.Statement.{SetFunction, Count, Numeral}
use Rattle.syntax_cursor.specs.declared.stop.ParseStop.{ParseStop}
use Rattle.syntax_cursor.specs.declared.stop.ParseStop.TheVariants as s
use Rattle.parse_tree.specs.declared.leaf.Numeral as tree
use Rattle.parse_tree.specs.Trees.{numeral_of}
use Rattle.lexer.specs.declared.token.Token.{Token}

-- a place in the tokens of a script, where they begin in its text, and how many lists past their limits are noted so far
pub record Place : Type 0 where
  pub tokens : List TokenKind
  pub starts : List ℕ
  pub at : ℕ
  pub long_lists : ℕ

-- where some tokens begin
abbrev pub starts_of : List Token → List ℕ
starts_of = map (λ (t : Token). t.start)

-- ---- single tokens

-- from a place to the next one
pub record IsNext (p q : Place) : Type 0 where
  pub tokens : q.tokens ≡ p.tokens
  pub starts : q.starts ≡ p.starts
  pub at : q.at ≡ p.at + 1
  pub long_lists : q.long_lists ≡ p.long_lists

-- a token of a kind is passed if it stands there
abbrev pub Eats : TokenKind → Place → Place → Bool → Type 0
Eats kind p q true = At p.tokens p.at kind × IsNext p q
Eats kind p q false = NotAt p.tokens p.at kind × (q ≡ p)

-- the asterisk of COUNT(*) is passed if it stands there
abbrev pub EatsAsterisk : SetFunction → Place → Place → Bool → Type 0
EatsAsterisk Count p q b = Eats (token.Mark token.Asterisk) p q b
EatsAsterisk _ p q b = (b ≡ false) × (q ≡ p)

-- a token of a kind is passed, which must stand there
abbrev pub Expects : TokenKind → Place → Place → Result Unit ParseStop → Type 0
Expects kind p q (Ok done) = At p.tokens p.at kind × IsNext p q
Expects kind p q (Err stop) = NotAt p.tokens p.at kind × (stop ≡ s.Token p.at)

-- a token is passed if it says something
abbrev pub Takes : {A B : Type 0} → (Option TokenKind → Option B) → (A → B) → Place → Place → Option A → Type 0
Takes says meaning p q (Some a) = (says (slice_get p.tokens p.at) ≡ Some (meaning a)) × IsNext p q
Takes says meaning p q None = (says (slice_get p.tokens p.at) ≡ None) × (q ≡ p)

-- a number is passed if it stands there
abbrev pub TakesNumber : Place → Place → Option tree.Numeral → Type 0
TakesNumber p q (Some n) =
    ((says : ℕ × ℕ × Option ℕ) × (numeral_in (slice_get p.tokens p.at) ≡ Some says)
    × (numeral_of n ≡ Numeral says.0 says.1 (unwrap_or says.2 0))) × IsNext p q
TakesNumber p q None = (numeral_in (slice_get p.tokens p.at) ≡ None) × (q ≡ p)

-- ---- lists

-- a list ends here, of which so many elements are kept where so many are allowed: one past its limit is noted
pub record EndsList (most kept : ℕ) (p q : Place) : Type 0 where
  pub tokens : q.tokens ≡ p.tokens
  pub starts : q.starts ≡ p.starts
  pub at : q.at ≡ p.at
  pub within : kept ≤ most → q.long_lists ≡ p.long_lists
  pub noted : most < kept → q.long_lists ≡ p.long_lists + 1

-- ---- rules

-- two lists of tokens are the same up to and with a place, ends too
abbrev pub Agree : List TokenKind → List TokenKind → ℕ → Type 0
Agree ts us n = (k : ℕ) → k ≤ n → slice_get us k ≡ slice_get ts k

-- a rule reads nothing from a place
abbrev pub Nowhere : {X : Type 0} → Rule X → List TokenKind → ℕ → Type 0
Nowhere {X} rule us at = (to : ℕ) (x : X) → rule us at to x → ⊥

-- how many of the tokens before a place can open a level
abbrev pub opened : List TokenKind → ℕ → ℕ
opened ts n = openers (take n ts)

-- a rule that begins at a place is stopped there or behind, whatever follows the place of the stop: within no levels
-- does it read anything; or it does not within so many, though more than a number of tokens from where it begins could
-- have opened one
pub data Stops {X : Type 0} (rule : ℕ → Rule X) (ts : List TokenKind) (levels least at : ℕ) : ParseStop → Type 0 where
  at_token : (n : ℕ) → at ≤ n → ((us : List TokenKind) → Agree ts us n → (m : ℕ) → Nowhere (rule m) us at)
      → Stops rule ts levels least at (s.Token n)
  too_deep : (n : ℕ) (k : TokenKind) → at ≤ n → slice_get ts n ≡ Some k → opened ts at + least < opened ts (n + 1)
      → ((us : List TokenKind) → Agree ts us n → Nowhere (rule levels) us at) → Stops rule ts levels least at (s.Deep n)
  for_memory : Stops rule ts levels least at s.Memory

-- a rule is read from a place to another, or stopped
pub data Outcome {X : Type 0} (rule : ℕ → Rule X) (levels least : ℕ) (p q : Place) : Result X ParseStop → Type 0 where
  read : (x : X) → q.tokens ≡ p.tokens → rule levels p.tokens p.at q.at x → Outcome rule levels least p q (Ok x)
  stopped : (stop : ParseStop) → Stops rule p.tokens levels least p.at stop → Outcome rule levels least p q (Err stop)

-- the same within so many levels
abbrev pub Parses : {X : Type 0} → (ℕ → Rule X) → ℕ → Place → Place → Result X ParseStop → Type 0
Parses rule levels p q o = Outcome rule levels levels p q o

-- the same of a rule in which no token opens a level
abbrev pub ParsesFlat : {X : Type 0} → Rule X → Place → Place → Result X ParseStop → Type 0
ParsesFlat rule p q o = (levels least : ℕ) → Outcome (λ m. rule) levels least p q o

-- the same of a rule that is never stopped
abbrev pub Given : {X : Type 0} → Rule X → Place → Place → X → Type 0
Given rule p q x = ParsesFlat rule p q (Ok x)

-- what was read, by its meaning
abbrev pub viewed : {A B : Type 0} → (A → B) → Result A ParseStop → Result B ParseStop
viewed meaning (Ok a) = Ok (meaning a)
viewed meaning (Err stop) = Err stop
