-- Each text has a reading, and what scripts derive is as it can be written.
use Rattle.std.proofs.Common.{◌≡◌, refl, sym, ap, subst, ℕ, suc, ◌+◌, ◌≤◌, ◌⊎◌, inl, inr, List, [], ◌∷◌, Some, Result, Ok, Err, length, take, arith}
use Rattle.std.specs.Prelude.{slice_get}
use Rattle.std.specs.List.{AllByRecursion}
use Rattle.std.proofs.lemmas.List.{take_all}
use Rattle.definitions.specs.Limits.{most_levels}
use Rattle.definitions.specs.Refusal.{Unexpected, TooDeep}
use Rattle.definitions.specs.Printing.{fault_text}
use Rattle.definitions.specs.Statement as s
use Rattle.definitions.specs.Statement.{Statement}
use Rattle.definitions.specs.Table.{Database}
use Rattle.definitions.specs.Token.{Token}
use Rattle.definitions.specs.Lexing.{LexFault, Lexes, ReadsAs}
use Rattle.definitions.specs.Grammar as g
use Rattle.definitions.specs.Grammar.{ScriptAt, BeginsNone, IsWrong, kinds, openers}
use Rattle.definitions.proofs.Lexing.{reads_some}
use Rattle.definitions.proofs.Moving.{opened_all}
use Rattle.definitions.proofs.Readings.{at_depth, script_in_front}
use Rattle.definitions.proofs.ReadTokens.{lexed_are_read}
use Rattle.definitions.proofs.WrittenParts.{written_query}
use Rattle.definitions.proofs.WrittenTexts.{WrittenStatement, statements_written}
use Rattle.definitions_execution.specs.Step as step
use Rattle.definitions_execution.specs.Step.{FaultLine, AreStatements}
use Rattle.definitions_execution.specs.RunLaws.{QueriesAreWritten, ScriptsAreWritten, NoneWithoutReading}

-- ---- what is derived is as it can be written

written_statement : (x : Statement) → WrittenStatement x → (db : Database) → QueriesAreWritten db x
written_statement (s.CreateTable name columns) w db = tt
written_statement (s.CreateIndex unique table columns) w db = tt
written_statement (s.Load name file) w db = tt
written_statement (s.SetTableStatistics table rows pages) w db = tt
written_statement (s.SetIndexStatistics table columns given) w db = tt
written_statement (s.Query q) w db = written_query db q w
written_statement (s.Explain q) w db = written_query db q w

each_written : (xs : List Statement) → AllByRecursion WrittenStatement xs → AllByRecursion (λ x. (db : Database) → QueriesAreWritten db x) xs
each_written [] all = tt
each_written (x ∷ xs) all = (written_statement x all.0, each_written xs all.1)

pub scripts_are_written : ScriptsAreWritten
scripts_are_written script statements (tokens, lexed, derived) =
    each_written statements (statements_written most_levels (kinds tokens) (lexed_are_read script tokens lexed) 0 statements derived)

-- ---- a reading

few_or_many : (n : ℕ) → (n ≤ most_levels) ⊎ (most_levels + 1 ≤ n)
few_or_many n = grind arith

-- the last of some tokens, and all up to it
last_token : (t : Token) (ts : List Token) → (last : Token) × (slice_get (t ∷ ts) (length ts) ≡ Some last)
last_token t [] = (t, refl)
last_token t (u ∷ ts) = last_token u ts

up_to_last : (t : Token) (ts : List Token) → take (length ts + 1) (kinds (t ∷ ts)) ≡ kinds (t ∷ ts)
up_to_last t ts = take_all (length ts + 1) (kinds (t ∷ ts)) (omega (arith, kinds_length (t ∷ ts)))
  where
    kinds_length : (ts : List Token) → length (kinds ts) ≡ length ts
    kinds_length [] = refl
    kinds_length (t ∷ ts) = ap suc (kinds_length ts)

module _ (script : List ℕ) (no_fault : (text : List ℕ) → FaultLine script text → ⊥) (no_script : (statements : List Statement) → AreStatements script statements → ⊥) where
  -- of tokens that are a script at some depth, but at none of 64 levels, the last is a fault
  many_open : (tokens : List Token) → Lexes script tokens → (levels : ℕ) (statements : List Statement) → ScriptAt levels (kinds tokens) 0 statements
      → most_levels + 1 ≤ openers (kinds tokens) → ⊥
  many_open [] lexed levels statements own many = absurd (omega (arith, many))
  many_open (t ∷ ts) lexed levels statements own many =
      let (last, there) = last_token t ts in
      let none : BeginsNone most_levels (kinds (t ∷ ts)) = λ more other d. no_script statements (t ∷ ts, lexed, script_in_front levels most_levels (kinds (t ∷ ts)) more statements other own d) in
      let wrong : IsWrong TooDeep (kinds (t ∷ ts)) = (many, none) in
      no_fault (fault_text TooDeep last.at)
      (step.syntax (t ∷ ts) TooDeep last.at lexed (g.at_token TooDeep last.at (length ts) last there refl (subst (IsWrong TooDeep) (sym (up_to_last t ts)) wrong)) refl)

  of_depth : (tokens : List Token) → Lexes script tokens → (levels : ℕ) (statements : List Statement) → ScriptAt levels (kinds tokens) 0 statements
      → (openers (kinds tokens) ≤ most_levels) ⊎ (most_levels + 1 ≤ openers (kinds tokens)) → ⊥
  of_depth tokens lexed levels statements own (inl few) =
      no_script statements (tokens, lexed, at_depth levels most_levels (kinds tokens) 0 statements own (omega (arith, opened_all (kinds tokens), few)))
  of_depth tokens lexed levels statements own (inr many) = many_open tokens lexed levels statements own many

  of_outcome : (outcome : Result (List Token) LexFault) → ReadsAs script outcome → ⊥
  of_outcome (Err f) read = no_fault (fault_text f.refusal f.at) (step.lexical f read refl)
  of_outcome (Ok tokens) read =
      no_fault (fault_text Unexpected (length script))
      (step.syntax tokens Unexpected (length script) read
      (g.at_end Unexpected (length script) refl refl (λ levels statements own. of_depth tokens read levels statements own (few_or_many (openers (kinds tokens))))) refl)

pub none_without_reading : NoneWithoutReading
none_without_reading script no_fault no_script = let (outcome, read) = reads_some script in of_outcome script no_fault no_script outcome read
