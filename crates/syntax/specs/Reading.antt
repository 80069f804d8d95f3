-- What it means that lines and scripts are read.
use Rattle.std.specs.Prelude.{ℕ, ◌≡◌, ◌+◌, ⊤, List, Option, Some, None, Result, Ok, Err, slice_get, length}
use Rattle.definitions.specs.Limits.{most_levels}
use Rattle.definitions.specs.Refusal as refusal
use Rattle.definitions.specs.Token as token
use Rattle.definitions.specs.Rule.{Rule, At}
use Rattle.definitions.specs.Grammar as grammar
use Rattle.definitions.specs.Grammar.{within, LineKind, ScriptAt, SyntaxFails}
use Rattle.definitions.specs.Statement.{Expr, Statement}
use Rattle.lexer.specs.declared.token.Token.{Token}
use Rattle.syntax_cursor.specs.declared.stop.ParseStop.{ParseStop}
use Rattle.syntax_cursor.specs.declared.stop.ParseStop.TheVariants as s
use Rattle.syntax_cursor.specs.Reading.{Place, Stops}
use Rattle.syntax.specs.declared.fault.SyntaxFault.{SyntaxFault}
use Rattle.syntax.specs.declared.fault.SyntaxFault.TheVariants as f

-- the rules of lines within so many levels, and those of their operands
abbrev pub LineAt : LineKind → ℕ → Rule Expr
LineAt grammar.Disjunction m = grammar.ExprOf (within m)
LineAt grammar.Conjunction m = grammar.ConjunctionOf (within m)
LineAt grammar.Sum m = grammar.SumOf (within m)
LineAt grammar.Product m = grammar.ProductOf (within m)

abbrev pub OperandAt : LineKind → ℕ → Rule Expr
OperandAt grammar.Disjunction m = grammar.ConjunctionOf (within m)
OperandAt grammar.Conjunction m = grammar.NegationOf (within m)
OperandAt grammar.Sum m = grammar.ProductOf (within m)
OperandAt grammar.Product m = grammar.SignOf (within m)

-- ---- scripts

-- a script up to the end of the tokens, as a rule
abbrev pub ScriptIn : ℕ → Rule (List Statement)
ScriptIn m ts at to xs = (to ≡ length ts) × ScriptAt m ts at xs

-- a script is read from a place on, or stopped
abbrev pub ParsesScript : Place → Result (List Statement) ParseStop → Type 0
ParsesScript p (Ok xs) = ScriptAt most_levels p.tokens p.at xs
ParsesScript p (Err stop) = Stops ScriptIn p.tokens most_levels most_levels p.at stop

-- the same where no statement is kept
abbrev pub SkimsScript : Place → Result Unit ParseStop → Type 0
SkimsScript p (Ok done) = (xs : List Statement) × ScriptAt most_levels p.tokens p.at xs
SkimsScript p (Err stop) = Stops ScriptIn p.tokens most_levels most_levels p.at stop

-- a statement and its semicolon stand from a place to another
pub record IsStatement (p q : Place) (x : Statement) : Type 0 where
  pub tokens : q.tokens ≡ p.tokens
  pub mid : ℕ
  pub reads : grammar.StatementOf (within most_levels) p.tokens p.at mid x
  pub semicolon : At p.tokens mid (token.Mark token.Semicolon)
  pub next : q.at ≡ mid + 1

-- a statement is read with its semicolon, or the script is stopped
abbrev pub ParsesStatement : (p q : Place) → Result Statement ParseStop → Type 0
ParsesStatement p q (Ok x) = IsStatement p q x
ParsesStatement p q (Err stop) = Stops ScriptIn p.tokens most_levels most_levels p.at stop

-- the offset at which a token begins, or else the end of the text
abbrev pub start_or : (end : ℕ) → Option Token → ℕ
start_or end (Some t) = t.start
start_or end None = end

-- the fault that a stop is, in a text of so many bytes
abbrev pub TellsStop : List Token → (end : ℕ) → ParseStop → SyntaxFault → Type 0
TellsStop tokens end (s.Token n) (f.Unexpected u) = u.offset ≡ start_or end (slice_get tokens n)
TellsStop tokens end (s.Deep n) (f.TooDeep offset) = offset ≡ start_or end (slice_get tokens n)
TellsStop tokens end s.Memory (f.Memory offset) = ⊤
TellsStop tokens end _ _ = ⊥

-- what a fault tells of a text
abbrev pub IsSyntaxFault : List token.Token → (size : ℕ) → SyntaxFault → Type 0
IsSyntaxFault tokens size (f.Unexpected u) = SyntaxFails tokens size refusal.Unexpected u.offset
IsSyntaxFault tokens size (f.TooDeep offset) = SyntaxFails tokens size refusal.TooDeep offset
IsSyntaxFault tokens size (f.Memory offset) = ⊤
