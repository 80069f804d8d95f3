-- From a lexeme to the next: the tokens so far, and those of what is left.
use Rattle.std.proofs.Common.{◌≡◌, ◌∙◌, refl, sym, ap, subst, ℕ, ◌+◌, ◌-◌, ◌≤◌, ◌<◌, List, [], ◌∷◌, ◌++◌, Option, Some, None, Result, Ok, Err, length, take, drop, arith, append_assoc, append-nil, length-drop, get_or, add-zero, zero, suc}
use Rattle.std.specs.Prelude.{option_map, slice_range, ⊤, MatchOption}
use Rattle.std.proofs.lemmas.List.{map_push, get_or-take, get_or-drop, take_rest, length-take-le, take-append-drop, drop-drop, drop_all}
use Rattle.std.specs.Str.{IsAscii, IsUtf8, IsCharBoundary}
use Rattle.std.proofs.lemmas.Str.{IsCharBoundary-before_ascii, IsCharBoundary-after_ascii}
use Rattle.definitions.specs.Lexing as lexing
use Rattle.definitions.specs.Lexing.{IsCut, ReadsAs, LexFails, tokens_from, token_of, first_then, LexFault}
use Rattle.definitions.specs.Token.{Token}
use Rattle.definitions.proofs.Lexing.{cut_some}
use Rattle.lexer.specs.Lexeme.{IsFirst, lexeme_of, outcome_of}
use Rattle.lexer.specs.Meaning.{AreSlices, fault_of}
use Rattle.lexer.specs.Meaning as meaning
use Rattle.lexer.proofs.Tokens.{token_ascii}
use Rattle.lexer.specs.declared.lexeme.Lexeme.{Lexeme}
use Rattle.lexer.specs.declared.token.Token.{Token as CodeToken}
use Rattle.lexer.specs.declared.token.TokenKind.{TokenKind}
use Rattle.lexer.specs.declared.fault.LexFault.{LexFault as CodeFault}

abbrev pub prepend : List Token → Result (List Token) LexFault → Result (List Token) LexFault
prepend ts (Ok us) = Ok (ts ++ us)
prepend ts (Err f) = Err f

-- whatever is read from a place on, the whole text reads as the tokens before it and that
pub record ReadsOn (text : List ℕ) (at : ℕ) (ts : List Token) : Type 0 where
  pub onward : (cut : List (List ℕ)) → IsCut (drop at text) cut → ReadsAs text (prepend ts (tokens_from at cut))

prepend-push : (ts : List Token) (t : Token) (r : Result (List Token) LexFault) → prepend ts (first_then (Ok (Some t)) r) ≡ prepend (ts ++ t ∷ []) r
prepend-push ts t (Ok us) = ap Ok (sym (append_assoc ts (t ∷ []) us))
prepend-push ts t (Err f) = refl

pub reads_to_end : (text : List ℕ) (at : ℕ) (ts : List Token) → ReadsOn text at ts → length text ≤ at → ReadsAs text (Ok ts)
reads_to_end text at ts r l =
    let P : List Token → Type 0 = λ us. ReadsAs text (Ok us) in
    subst P (append-nil ts) (r.onward [] (drop_all at text l))

-- the cut from a place on begins with the lexeme there
cut_with : (text : List ℕ) (at n : ℕ) (l : Lexeme) (cut : List (List ℕ)) → IsFirst (drop at text) l n → IsCut (drop (at + n) text) cut → IsCut (drop at text) (take n (drop at text) ∷ cut)
cut_with text at n l cut f h =
    (drop n (drop at text), sym (take-append-drop n (drop at text)), rw f.same refl, f.longest, rw (drop-drop n at text) h)

tokens_with : (text : List ℕ) (at n : ℕ) (l : Lexeme) (cut : List (List ℕ)) → IsFirst (drop at text) l n → tokens_from at (take n (drop at text) ∷ cut) ≡ first_then (token_of at (take n (drop at text)) (lexeme_of (take n (drop at text)) l)) (tokens_from (at + n) cut)
tokens_with text at n l cut f = rw (f.same, length-take-le n (drop at text) f.within) refl

pub reads_gap : (text : List ℕ) (at n : ℕ) (l : Lexeme) (ts : List Token) → ReadsOn text at ts → IsFirst (drop at text) l n → token_of at (take n (drop at text)) (lexeme_of (take n (drop at text)) l) ≡ Ok None → ReadsOn text (at + n) ts
reads_gap text at n l ts r f e = record {
  onward = λ cut h.
      let P : Result (List Token) LexFault → Type 0 = λ o. ReadsAs text (prepend ts o) in
      subst P (tokens_with text at n l cut f ∙ ap (λ o. first_then o (tokens_from (at + n) cut)) e) (r.onward (take n (drop at text) ∷ cut) (cut_with text at n l cut f h));
}

pub reads_token : (text : List ℕ) (at n : ℕ) (l : Lexeme) (ts : List Token) (t : Token) → ReadsOn text at ts → IsFirst (drop at text) l n → token_of at (take n (drop at text)) (lexeme_of (take n (drop at text)) l) ≡ Ok (Some t) → ReadsOn text (at + n) (ts ++ t ∷ [])
reads_token text at n l ts t r f e = record {
  onward = λ cut h.
      let P : Result (List Token) LexFault → Type 0 = λ o. ReadsAs text o in
      subst P (ap (prepend ts) (tokens_with text at n l cut f ∙ ap (λ o. first_then o (tokens_from (at + n) cut)) e) ∙ prepend-push ts t (tokens_from (at + n) cut)) (r.onward (take n (drop at text) ∷ cut) (cut_with text at n l cut f h));
}

pub reads_fault : (text : List ℕ) (at n : ℕ) (l : Lexeme) (ts : List Token) (fault : LexFault) → ReadsOn text at ts → IsFirst (drop at text) l n → token_of at (take n (drop at text)) (lexeme_of (take n (drop at text)) l) ≡ Err fault → ReadsAs text (Err fault)
reads_fault text at n l ts fault r f e =
    let rest = cut_some (drop (at + n) text) in
    let P : Result (List Token) LexFault → Type 0 = λ o. ReadsAs text (prepend ts o) in
    subst P (tokens_with text at n l rest.0 f ∙ ap (λ o. first_then o (tokens_from (at + n) rest.0)) e) (r.onward (take n (drop at text) ∷ rest.0) (cut_with text at n l rest.0 f rest.1))

-- ---- where the tokens so far end

abbrev pub end_of : (from : ℕ) → List CodeToken → ℕ
end_of from [] = from
end_of from (t ∷ ts) = end_of (t.start + length t.text.now) ts

pub AreSlices-push : (script : List ℕ) (from : ℕ) (ts : List CodeToken) (t : CodeToken) → AreSlices script from ts → end_of from ts ≤ t.start → slice_range script t.start (t.start + length t.text.now) ≡ t.text.now → AreSlices script from (ts ++ t ∷ [])
AreSlices-push script from [] t h l e = (l, e, tt)
AreSlices-push script from (x ∷ ts) t h l e = (h.0, h.1, AreSlices-push script (x.start + length x.text.now) ts t h.2 l e)

pub end_of-push : (from : ℕ) (ts : List CodeToken) (t : CodeToken) → end_of from (ts ++ t ∷ []) ≡ t.start + length t.text.now
end_of-push from [] t = refl
end_of-push from (x ∷ ts) t = end_of-push (x.start + length x.text.now) ts t

-- ---- a turn of the loop, over the slices as code takes them

own_is : (start n : ℕ) (xs : List ℕ) → take (start + n - start) xs ≡ take n xs
own_is start n xs = let e : start + n - start ≡ n = omega arith in ap (λ k. take k xs) e

first_is : (text : List ℕ) (start n : ℕ) (l : Lexeme) → IsFirst (take (length text - start) (drop start text)) l n → IsFirst (drop start text) l n
first_is text start n l f = let P : List ℕ → Type 0 = λ xs. IsFirst xs l n in subst P (take_rest text start) f

told_is : (start n : ℕ) (xs : List ℕ) (l : Lexeme) (r : Result (Option TokenKind) CodeFault) → outcome_of start (take (start + n - start) xs) r ≡ Some (token_of start (take (start + n - start) xs) (lexeme_of (take (start + n - start) xs) l)) → outcome_of start (take n xs) r ≡ Some (token_of start (take n xs) (lexeme_of (take n xs) l))
told_is start n xs l r h = let P : List ℕ → Type 0 = λ own. outcome_of start own r ≡ Some (token_of start own (lexeme_of own l)) in subst P (own_is start n xs) h

pub turn_same : (text : List ℕ) (start n : ℕ) (l : Lexeme) → IsFirst (take (length text - start) (drop start text)) l n → lexing.lexeme_of (take (start + n - start) (drop start text)) ≡ Some (lexeme_of (take (start + n - start) (drop start text)) l)
turn_same text start n l f =
    let P : List ℕ → Type 0 = λ own. lexing.lexeme_of own ≡ Some (lexeme_of own l) in
    subst P (sym (own_is start n (drop start text))) (first_is text start n l f).same

pub turn_some : (text : List ℕ) (start n : ℕ) (l : Lexeme) → IsFirst (take (length text - start) (drop start text)) l n → 0 < n
turn_some text start zero l f = let k = f.same in absurd (cc)
turn_some text start (suc n) l f = omega arith

pub turn_within : (text : List ℕ) (start n : ℕ) (l : Lexeme) → start ≤ length text → IsFirst (take (length text - start) (drop start text)) l n → start + n ≤ length text
turn_within text start n l h f = omega (arith, (first_is text start n l f).within, length-drop start text)

pub turn_gap : (text : List ℕ) (start n : ℕ) (l : Lexeme) (ts : List Token) (o : Option TokenKind) → ReadsOn text start ts → IsFirst (take (length text - start) (drop start text)) l n → outcome_of start (take (start + n - start) (drop start text)) (Ok o) ≡ Some (token_of start (take (start + n - start) (drop start text)) (lexeme_of (take (start + n - start) (drop start text)) l)) → o ≡ None → ReadsOn text (start + n) ts
turn_gap text start n l ts o r f e none =
    let k = told_is start n (drop start text) l (Ok None) (rw none at e) in
    reads_gap text start n l ts r (first_is text start n l f) (cc)

turn_token : (text : List ℕ) (start n : ℕ) (l : Lexeme) (ts : List Token) (t : CodeToken) (o : Option TokenKind) → ReadsOn text start ts → IsFirst (take (length text - start) (drop start text)) l n → t.start ≡ start → t.text.now ≡ take (start + n - start) (drop start text) → outcome_of start (take (start + n - start) (drop start text)) (Ok o) ≡ Some (token_of start (take (start + n - start) (drop start text)) (lexeme_of (take (start + n - start) (drop start text)) l)) → o ≡ Some t.kind → ReadsOn text (start + n) (ts ++ meaning.token_of t ∷ [])
turn_token text start n l ts t o r f s x e some =
    let k = told_is start n (drop start text) l (Ok (Some t.kind)) (rw some at e) in
    let y : t.text.now ≡ take n (drop start text) = x ∙ own_is start n (drop start text) in
    reads_token text start n l ts (meaning.token_of t) r (first_is text start n l f) (rw (s, y) (cc))

fault_told : (text : List ℕ) (fault : Option LexFault) (o : Result (Option Token) LexFault) → option_map Err fault ≡ Some o → ((x : LexFault) → o ≡ Err x → ReadsAs text (Err x)) → MatchOption fault ⊤ (LexFails text)
fault_told text None o e h = tt
fault_told text (Some x) o e h = h x (cc)

pub turn_fault : (text : List ℕ) (start n : ℕ) (l : Lexeme) (ts : List Token) (fault : CodeFault) → ReadsOn text start ts → IsFirst (take (length text - start) (drop start text)) l n → outcome_of start (take (start + n - start) (drop start text)) (Err fault) ≡ Some (token_of start (take (start + n - start) (drop start text)) (lexeme_of (take (start + n - start) (drop start text)) l)) → MatchOption (fault_of fault) ⊤ (LexFails text)
turn_fault text start n l ts fault r f e =
    let k = told_is start n (drop start text) l (Err fault) e in
    fault_told text (fault_of fault) _ k (λ x h. reads_fault text start n l ts x r (first_is text start n l f) h)

-- ---- where a token may be cut

pub cut_before : (text : List ℕ) (start n : ℕ) → 0 < n → start + n ≤ length text → IsAscii (take n (drop start text)) → IsCharBoundary text start
cut_before text start n some l a =
    let e : get_or (take n (drop start text)) 0 0 ≡ get_or text start 0 =
    get_or-take n (drop start text) 0 0 some ∙ get_or-drop start text 0 0 ∙ ap (λ k. get_or text k 0) (add-zero start) in
    IsCharBoundary-before_ascii text start (omega (arith, some, l)) (omega (arith, e, a 0))

pub cut_behind : (text : List ℕ) (start n : ℕ) → IsUtf8 text → 0 < n → start + n ≤ length text → IsAscii (take n (drop start text)) → IsCharBoundary text (start + n)
cut_behind text start zero u some l a = absurd (omega (arith, some))
cut_behind text start (suc n) u some l a =
    let e : get_or (take (suc n) (drop start text)) n 0 ≡ get_or text (start + n) 0 =
    get_or-take (suc n) (drop start text) n 0 (omega arith) ∙ get_or-drop start text n 0 in
    let P : ℕ → Type 0 = λ k. IsCharBoundary text k in
    let k : start + n + 1 ≡ start + suc n = omega arith in
    subst P k (IsCharBoundary-after_ascii text (start + n) u (omega (arith, l)) (omega (arith, e, a n)))

pub turn_ascii : (text : List ℕ) (start n : ℕ) (l : Lexeme) (kind : TokenKind) (o : Option TokenKind) → IsFirst (take (length text - start) (drop start text)) l n → outcome_of start (take (start + n - start) (drop start text)) (Ok o) ≡ Some (token_of start (take (start + n - start) (drop start text)) (lexeme_of (take (start + n - start) (drop start text)) l)) → o ≡ Some kind → IsAscii (take n (drop start text))
turn_ascii text start n l kind o f e some =
    let own : List ℕ = take n (drop start text) in
    let k = told_is start n (drop start text) l (Ok (Some kind)) (rw some at e) in
    token_ascii start own (lexeme_of own l) (record { at = start; text = own; kind = meaning.kind_of own kind }) (first_is text start n l f).same (cc)

-- ---- the tokens in the vector

tokens_of-push : (ts us : List CodeToken) (t : CodeToken) → us ≡ ts ++ t ∷ [] → meaning.tokens_of us ≡ meaning.tokens_of ts ++ meaning.token_of t ∷ []
tokens_of-push ts us t e = ap meaning.tokens_of e ∙ map_push meaning.token_of ts t

pub reads_more : (text : List ℕ) (start n : ℕ) (l : Lexeme) (ts us : List CodeToken) (t : CodeToken) (o : Option TokenKind) → us ≡ ts ++ t ∷ [] → ReadsOn text start (meaning.tokens_of ts) → IsFirst (take (length text - start) (drop start text)) l n → t.start ≡ start → t.text.now ≡ take (start + n - start) (drop start text) → outcome_of start (take (start + n - start) (drop start text)) (Ok o) ≡ Some (token_of start (take (start + n - start) (drop start text)) (lexeme_of (take (start + n - start) (drop start text)) l)) → o ≡ Some t.kind → ReadsOn text (start + n) (meaning.tokens_of us)
reads_more text start n l ts us t o e r f s x told some = rw (tokens_of-push ts us t e) (turn_token text start n l (meaning.tokens_of ts) t o r f s x told some)

pub slices_more : (script : List ℕ) (ts us : List CodeToken) (t : CodeToken) (start n : ℕ) → us ≡ ts ++ t ∷ [] → AreSlices script 0 ts → end_of 0 ts ≤ start → t.start ≡ start → t.text.now ≡ take (start + n - start) (drop start script) → start + n ≤ length script → AreSlices script 0 us × (end_of 0 us ≡ start + n)
slices_more script ts us t start n e h l s x within =
    let size : length t.text.now ≡ n = ap length (x ∙ own_is start n (drop start script)) ∙ length-take-le n (drop start script) (omega (arith, length-drop start script)) in
    let last : t.start + length t.text.now ≡ start + n = omega (arith, s, size) in
    let P : List CodeToken → Type 0 = λ ws. AreSlices script 0 ws × (end_of 0 ws ≡ start + n) in
    subst P (sym e) (AreSlices-push script 0 ts t h (omega (arith, l, s)) (rw (last, s) (sym x)), end_of-push 0 ts t ∙ last)
