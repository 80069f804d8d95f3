use Rattle.std.proofs.Common.{◌≡◌, ◌∙◌, refl, sym, ap, subst, ℕ, ◌+◌, ◌-◌, List, Ok, arith, take, drop}
use Rattle.std.specs.Prelude.{⊤, MatchOption}
use Rattle.std.specs.Str.{IsCharBoundary}
use Rattle.std.proofs.lemmas.Bool.{cond-true}
use Rattle.std.proofs.lemmas.Result.{err_from_is_err_and}
use Rattle.definitions.specs.Lexing.{ReadsAs, LexFails}
use Rattle.lexer.specs.Meaning.{fault_of, tokens_of}
use Rattle.lexer.specs.declared.token.Token.{Token}
use Rattle.lexer.proofs.Onward.{turn_same, turn_some, turn_within, turn_gap, turn_fault, turn_ascii, cut_before, cut_behind, reads_to_end, reads_more, slices_more}
use Rattle.lexer.proofs.scan.lex.Goals as goal

pub token_kind-requires-clause-same : goal.token_kind-requires-clause-same
token_kind-requires-clause-same c = turn_same c.as_bytes-bytes.result.now c.loop-start.start _ _ c.first_lexeme-first.ensures

pub returns-in_err-kind-clause-fault : goal.returns-in_err-kind-clause-fault
returns-in_err-kind-clause-fault c =
    let p = err_from_is_err_and c.from_residual.result c.from_residual.ensures.1 in
    let P : List ℕ → Type 0 = λ xs. MatchOption (fault_of c.in_err-kind.field-0.0) ⊤ (LexFails xs) in
    rw (p.1, p.2) (subst P c.as_bytes-bytes.ensures.value
    (turn_fault c.as_bytes-bytes.result.now c.loop-start.start _ _ _ _ c.loop-start.invariant.reads c.first_lexeme-first.ensures c.in_err-kind.ensures.outcome))

pub range-text-requires-clause-start_boundary : goal.range-text-requires-clause-start_boundary
range-text-requires-clause-start_boundary c = λ _.
    let bytes = c.as_bytes-bytes.result.now in
    let start = c.loop-start.start in
    let P : List ℕ → Type 0 = λ xs. IsCharBoundary xs start in
    subst P c.as_bytes-bytes.ensures.value
    (cut_before bytes start _ (turn_some bytes start _ _ c.first_lexeme-first.ensures) (turn_within bytes start _ _ c.loop-start.invariant.within c.first_lexeme-first.ensures)
    (turn_ascii bytes start _ _ _ _ c.first_lexeme-first.ensures c.in_ok-kind.ensures.outcome c.in-Some.is))

pub range-text-requires-clause-end_boundary : goal.range-text-requires-clause-end_boundary
range-text-requires-clause-end_boundary c =
    let bytes = c.as_bytes-bytes.result.now in
    let start = c.loop-start.start in
    let end = start + c.first_lexeme-first.result.length in
    let P : List ℕ → Type 0 = λ xs. IsCharBoundary xs end in
    subst P c.as_bytes-bytes.ensures.value
    (cut_behind bytes start _ c.as_bytes-bytes.ensures.utf8 (turn_some bytes start _ _ c.first_lexeme-first.ensures) (turn_within bytes start _ _ c.loop-start.invariant.within c.first_lexeme-first.ensures)
    (turn_ascii bytes start _ _ _ _ c.first_lexeme-first.ensures c.in_ok-kind.ensures.outcome c.in-Some.is))

pub loop-start-preserved-in_ok-map_err : goal.loop-start-preserved-in_ok-map_err
loop-start-preserved-in_ok-map_err c =
    let bytes = c.as_bytes-bytes.result.now in
    let start = c.loop-start.start in
    let n = c.first_lexeme-first.result.length in
    let end = start + n in
    let own : c.range-text.result.now ≡ take (end - start) (drop start bytes) =
    c.range-text.ensures.value ∙ ap (λ xs. take (end - start) (drop start xs)) (sym c.as_bytes-bytes.ensures.value) in
    let pushed = c.push.ensures.items ∙ cond-true _ _ _ (sym c.in_ok-map_err.ensures.variant) in
    let within = turn_within bytes start _ _ c.loop-start.invariant.within c.first_lexeme-first.ensures in
    let slices = slices_more bytes c.loop-start.tokens.items c.push.new.self.items _ start n pushed c.loop-start.invariant.slices c.loop-start.invariant.behind refl own within in
    record {
      within = within;
      reads = reads_more bytes start n _ c.loop-start.tokens.items c.push.new.self.items _ _ pushed c.loop-start.invariant.reads c.first_lexeme-first.ensures refl own c.in_ok-kind.ensures.outcome c.in-Some.is;
      slices = slices.0;
      behind = omega (arith, slices.1);
    }

pub loop-start-preserved : goal.loop-start-preserved
loop-start-preserved c = record {
  within = turn_within c.as_bytes-bytes.result.now c.loop-start.start _ _ c.loop-start.invariant.within c.first_lexeme-first.ensures;
  reads = turn_gap c.as_bytes-bytes.result.now c.loop-start.start _ _ _ _ c.loop-start.invariant.reads c.first_lexeme-first.ensures c.in_ok-kind.ensures.outcome c.in_default.is;
  slices = c.loop-start.invariant.slices;
  behind = omega (arith, c.loop-start.invariant.behind);
}

pub returns-clause-tokens : goal.returns-clause-tokens
returns-clause-tokens c =
    let P : List ℕ → Type 0 = λ xs. ReadsAs xs (Ok (tokens_of c.loop-start.tokens.items)) in
    let Q : List Token → Type 0 = λ ts. ReadsAs c.args.script.now (Ok (tokens_of ts)) in
    subst Q (sym c.shrink_to_fit.ensures.items) (subst P c.as_bytes-bytes.ensures.value (reads_to_end c.as_bytes-bytes.result.now c.loop-start.start _ c.loop-start.invariant.reads c.loop-start-test.false))

pub invariant_of-push : goal.invariant_of-push
invariant_of-push c =
    let within = rw c.in-Some.is at c.in_ok-kind.ensures.within in
    let characters = rw c.in-Some.is at c.in_ok-kind.ensures.characters in
    let text = c.range-text.ensures.value ∙ ap (λ xs. take (c.loop-start.start + c.first_lexeme-first.result.length - c.loop-start.start) (drop c.loop-start.start xs)) (sym c.as_bytes-bytes.ensures.value) in
    record {
      within = λ is. rw text (within is);
      characters = λ is. rw text (characters is);
    }
