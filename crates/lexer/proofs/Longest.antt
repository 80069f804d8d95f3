-- Where a lexeme is the longest.
use Rattle.std.proofs.Common.{◌≡◌, refl, ℕ, List, [], ◌∷◌, ◌++◌, None, Bool, true, append_assoc}
use Rattle.std.specs.Prelude.{IsTrue, ◌&&◌}
use Rattle.definitions.specs.Lexing.{lexeme_of, is_longest}

-- no text that goes on with the next byte is a lexeme
abbrev pub NoLonger : (own rest : List ℕ) → Type 0
NoLonger own [] = Unit {0}
NoLonger own (c ∷ rest) = (more : List ℕ) → lexeme_of (own ++ c ∷ more) ≡ None

both : (a b : Bool) → a ≡ true → b ≡ true → (a && b) ≡ true
both a b h k = rw (h, k) refl

none_on : (own rest : List ℕ) → ((more : List ℕ) → lexeme_of (own ++ more) ≡ None) → IsTrue (is_longest own rest)
none_on own [] h = refl
none_on own (c ∷ rest) h =
    both _ _ (rw (h (c ∷ [])) refl) (none_on (own ++ c ∷ []) rest (λ more. rw (append_assoc own (c ∷ []) more) (h (c ∷ more))))

pub is_longest-from : (own rest : List ℕ) → NoLonger own rest → IsTrue (is_longest own rest)
is_longest-from own [] h = refl
is_longest-from own (c ∷ rest) h =
    both _ _ (rw (h []) refl) (none_on (own ++ c ∷ []) rest (λ more. rw (append_assoc own (c ∷ []) more) (h more)))
