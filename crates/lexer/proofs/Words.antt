-- The look-up of a reserved word.
use Rattle.std.proofs.Common.{◌≡◌, ◌∙◌, refl, sym, ap, ap₂, ℕ, ◌<◌, List, [], ◌∷◌, Option, Some, Bool, true, false, cond, length, arith, inl, inr, map, drop, get_or, ◌+◌, Decides}
use Rattle.std.specs.Prelude.{◌&&◌, ◌==◌, filter, find, bytes_eq, slice_index, slice_get}
use Rattle.std.specs.List.{list_all}
use Rattle.std.specs.Char.{to_ascii_lowercase, to_ascii_uppercase}
use Rattle.std.specs.Str.{str_eq_ignore_ascii_case}
use Rattle.std.proofs.lemmas.Bool.{and_parts, cases_Bool, false≢true}
use Rattle.std.proofs.lemmas.Bool.Decides.{nat_tests, same_from_decides}
use Rattle.std.proofs.lemmas.Slice.Eq.{bytes_eq-Decides}
use Rattle.std.proofs.lemmas.List.{at_drop_more}
use Rattle.definitions.specs.Characters.{is_upper, upper, folded}
use Rattle.definitions.specs.Word as spec
use Rattle.lexer.specs.Meaning.{word_of}
use Rattle.lexer.specs.Words.{all_words, spelling}
use Rattle.lexer.specs.declared.word.Word.{Word}

same_letter : (s t : ℕ) → is_upper s ≡ true → (to_ascii_lowercase s == to_ascii_lowercase t) ≡ (s == upper t)
same_letter s t h = grind (arith, nat_tests)

same_upper : (c : ℕ) → to_ascii_uppercase c ≡ upper c
same_upper c = grind (arith, nat_tests)

pub same_text : (ss ts : List ℕ) → list_all is_upper ss ≡ true → str_eq_ignore_ascii_case ss ts ≡ bytes_eq ss (folded ts)
same_text [] [] h = refl
same_text [] (t ∷ ts) h = refl
same_text (s ∷ ss) [] h = refl
same_text (s ∷ ss) (t ∷ ts) h = let k = and_parts (is_upper s) _ h in ap₂ ◌&&◌ (same_letter s t k.0) (same_text ss ts k.1)

find-filter : {X : Type 0} (p q : X → Bool) (xs : List X) → ((x : X) → p x ≡ true → q x ≡ true) → find p (filter q xs) ≡ find p xs
find-filter p q [] h = refl
find-filter p q (x ∷ xs) h = elim (cases_Bool (p x)) [
  | inl e ↦ rw (h x e, e) refl
  | inr e ↦ elim (cases_Bool (q x)) [
    | inl k ↦ rw (k, e) (find-filter p q xs h)
    | inr k ↦ rw (k, e) (find-filter p q xs h)
  ]
]

same_first : (ss ts : List ℕ) (t : ℕ) → bytes_eq ss (t ∷ ts) ≡ true → (slice_index ss 0 == t) ≡ true
same_first [] ts t h = absurd (false≢true h)
same_first (s ∷ ss) ts t h = (and_parts (s == t) _ h).0

-- ---- the table of the definitions, as a list of words

same_either_way : (ss ts : List ℕ) → bytes_eq ss ts ≡ bytes_eq ts ss
same_either_way ss ts =
    same_from_decides (bytes_eq ss ts) (bytes_eq ts ss) (bytes_eq-Decides ss ts) ((λ e. sym ((bytes_eq-Decides ts ss).0 e)), (λ e. (bytes_eq-Decides ts ss).1 (sym e)))

found_of_entries : (ws : List spec.Word) (text : List ℕ) → spec.entry_of (map (λ (w : spec.Word). (w, spelling w)) ws) text ≡ find (λ (w : spec.Word). bytes_eq (spelling w) text) ws
found_of_entries [] text = refl
found_of_entries (w ∷ ws) text = ap₂ (λ b r. cond b (Some w) r) (same_either_way text (spelling w)) (found_of_entries ws text)

reserved_is : (text : List ℕ) → find (λ (w : spec.Word). bytes_eq (spelling w) text) all_words ≡ spec.reserved text
reserved_is text = sym (found_of_entries all_words text)

pub by_first_letter : (text : List ℕ) → 0 < length text → find (λ (w : spec.Word). bytes_eq (spelling w) (folded text)) (filter (λ (w : spec.Word). slice_index (spelling w) 0 == to_ascii_uppercase (slice_index text 0)) all_words) ≡ spec.reserved (folded text)
by_first_letter [] l = absurd (omega (arith, l))
by_first_letter (c ∷ text) l =
    find-filter (λ (w : spec.Word). bytes_eq (spelling w) (folded (c ∷ text))) (λ (w : spec.Word). slice_index (spelling w) 0 == to_ascii_uppercase c) all_words
    (λ w h. ap (λ (x : ℕ). slice_index (spelling w) 0 == x) (same_upper c) ∙ same_first (spelling w) (folded text) (upper c) h)
    ∙ reserved_is (folded (c ∷ text))

abbrev found : List ℕ → List spec.Word → Option spec.Word
found text ws = find (λ (w : spec.Word). bytes_eq (spelling w) (folded text)) ws

first_read : (text : List ℕ) (c : ℕ) → Some c ≡ slice_get text 0 → (0 < length text) × (slice_index text 0 ≡ c)
first_read [] c h = absurd (cc)
first_read (t ∷ text) c h = (omega arith, cc)

pub search_begins : (text : List ℕ) (items : List Word) (first letter : ℕ) → Some first ≡ slice_get text 0 → letter ≡ to_ascii_uppercase first → map word_of items ≡ filter (λ (w : spec.Word). slice_index (spelling w) 0 == letter) all_words → found text (map word_of items) ≡ spec.reserved (folded text)
search_begins text items first letter f l h =
    let k = first_read text first f in
    let e : letter ≡ to_ascii_uppercase (slice_index text 0) = l ∙ ap to_ascii_uppercase (sym k.1) in
    ap (found text) (rw e at h) ∙ by_first_letter text k.0

is_spelled : (text letters : List ℕ) (w : spec.Word) (r : Bool) → letters ≡ spelling w → list_all is_upper letters ≡ true → Decides r (map to_ascii_lowercase letters ≡ map to_ascii_lowercase text) → r ≡ bytes_eq (spelling w) (folded text)
is_spelled text letters w r e u d =
    same_from_decides r (str_eq_ignore_ascii_case letters text) d (bytes_eq-Decides (map to_ascii_lowercase letters) (map to_ascii_lowercase text))
    ∙ same_text letters text u ∙ ap (λ xs. bytes_eq xs (folded text)) e

search_turns : (text : List ℕ) (items : List Word) (i : ℕ) (d : Word) (r : Bool) → i < length items → r ≡ bytes_eq (spelling (word_of (get_or items i d))) (folded text) → found text (map word_of (drop i items)) ≡ cond r (Some (word_of (get_or items i d))) (found text (map word_of (drop (i + 1) items)))
search_turns text items i d r l e = at_drop_more (λ xs. found text (map word_of xs)) items i d l ∙ rw e refl

pub search_ends : (text letters : List ℕ) (items : List Word) (i : ℕ) (d : Word) (r : Bool) → i < length items → found text (map word_of (drop i items)) ≡ spec.reserved (folded text) → letters ≡ spelling (word_of (get_or items i d)) → list_all is_upper letters ≡ true → Decides r (map to_ascii_lowercase letters ≡ map to_ascii_lowercase text) → r ≡ true → Some (word_of (get_or items i d)) ≡ spec.reserved (folded text)
search_ends text letters items i d r l h e u t k =
    let s = search_turns text items i d r l (is_spelled text letters (word_of (get_or items i d)) r e u t) in
    sym (rw k at s) ∙ h

pub search_goes_on : (text letters : List ℕ) (items : List Word) (i : ℕ) (d : Word) (r : Bool) → i < length items → found text (map word_of (drop i items)) ≡ spec.reserved (folded text) → letters ≡ spelling (word_of (get_or items i d)) → list_all is_upper letters ≡ true → Decides r (map to_ascii_lowercase letters ≡ map to_ascii_lowercase text) → r ≡ false → found text (map word_of (drop (i + 1) items)) ≡ spec.reserved (folded text)
search_goes_on text letters items i d r l h e u t k =
    let s = search_turns text items i d r l (is_spelled text letters (word_of (get_or items i d)) r e u t) in
    sym (rw k at s) ∙ h
