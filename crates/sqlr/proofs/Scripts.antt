-- Which fault of a script's text is told.
use Rattle.std.proofs.Common.{◌≡◌, ℕ, List, Option, Some, None, refl, sym, subst, length}
use Rattle.std.specs.Prelude.{option_map, ⊤, MatchOption}
use Rattle.definitions.specs.Lexing.{LexFault, LexFails}
use Rattle.definitions_execution.specs.Step as step
use Rattle.definitions.specs.Lexing.{Lexes}
use Rattle.lexer.specs.Meaning.{tokens_of}
use Rattle.lexer.specs.declared.token.Token.{Token}
use Rattle.syntax.specs.declared.fault.SyntaxFault.{SyntaxFault}
use Rattle.syntax.specs.declared.fault.SyntaxFault.TheVariants as f
use Rattle.syntax.specs.Reading.{IsSyntaxFault}
use Rattle.sqlr.specs.Scripts.{IsFaultLine, lexical_line, syntax_line}

lexical_at : (script : List ℕ) (o : Option LexFault) → MatchOption o ⊤ (LexFails script) → IsFaultLine script (option_map lexical_line o)
lexical_at script None h = tt
lexical_at script (Some f) h = step.lexical f h refl

pub lexical_told : (script : List ℕ) (o : Option LexFault) (line : Option (List ℕ)) → line ≡ option_map lexical_line o → MatchOption o ⊤ (LexFails script) → IsFaultLine script line
lexical_told script o line e h = subst (λ l. IsFaultLine script l) (sym e) (lexical_at script o h)

syntax_at : (script : List ℕ) (tokens : List Token) (fault : SyntaxFault) → Lexes script (tokens_of tokens) → IsSyntaxFault (tokens_of tokens) (length script) fault → IsFaultLine script (syntax_line fault)
syntax_at script tokens (f.Unexpected u) lexes h = step.syntax (tokens_of tokens) _ u.offset lexes h refl
syntax_at script tokens (f.TooDeep offset) lexes h = step.syntax (tokens_of tokens) _ offset lexes h refl
syntax_at script tokens (f.Memory offset) lexes h = tt

pub syntax_told : (script : List ℕ) (tokens : List Token) (fault : SyntaxFault) (line : Option (List ℕ)) → line ≡ syntax_line fault → Lexes script (tokens_of tokens) → IsSyntaxFault (tokens_of tokens) (length script) fault → IsFaultLine script line
syntax_told script tokens fault line e lexes h = subst (λ l. IsFaultLine script l) (sym e) (syntax_at script tokens fault lexes h)
