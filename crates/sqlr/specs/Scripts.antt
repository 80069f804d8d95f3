-- What a script's text is read as, and which line a fault of it tells.
use Rattle.std.specs.Prelude.{ℕ, ⊤, List, Option, Some, None}
use Rattle.definitions.specs.Grammar.{Derives}
use Rattle.definitions.specs.Lexing.{LexFault, Lexes}
use Rattle.definitions.specs.Refusal as refusal
use Rattle.definitions.specs.Statement.{Statement}
use Rattle.definitions.specs.Printing.{fault_text}
use Rattle.definitions_execution.specs.Step.{FaultLine}
use Rattle.lexer.specs.Meaning.{kinds_of, tokens_of}
use Rattle.lexer.specs.declared.token.Token.{Token}
use Rattle.sqlvalue.specs.RefusalMeaning.{refusal_of}
use Rattle.syntax.specs.declared.fault.SyntaxFault.{SyntaxFault}
use Rattle.syntax.specs.declared.fault.SyntaxFault.TheVariants as syntax
use Rattle.sqlr.specs.declared.script.ScriptFault.{ScriptFault}
use Rattle.sqlr.specs.declared.script.ScriptFault.TheVariants as f

abbrev pub lexical_line : LexFault → List ℕ
lexical_line f = fault_text f.refusal f.at

abbrev pub syntax_line : SyntaxFault → Option (List ℕ)
syntax_line (syntax.Unexpected u) = Some (fault_text refusal.Unexpected u.offset)
syntax_line (syntax.TooDeep offset) = Some (fault_text refusal.TooDeep offset)
syntax_line (syntax.Memory offset) = None

-- the line that a fault tells; none where memory was wanting
abbrev pub line_of : ScriptFault → Option (List ℕ)
line_of (f.Refused refused offset) = Some (fault_text (refusal_of refused.refusal) offset)
line_of (f.Memory offset) = None

abbrev pub IsFaultLine : List ℕ → Option (List ℕ) → Type 0
IsFaultLine script None = ⊤
IsFaultLine script (Some text) = FaultLine script text

abbrev pub IsFault : List ℕ → ScriptFault → Type 0
IsFault script fault = IsFaultLine script (line_of fault)

-- some statements are what tokens derive
abbrev pub DeriveSome : List Token → Type 0
DeriveSome tokens = (statements : List Statement) × Derives (kinds_of tokens) statements

-- the tokens of a script, which derive statements
abbrev pub AreScript : List ℕ → List Token → Type 0
AreScript script tokens = Lexes script (tokens_of tokens) × DeriveSome tokens
