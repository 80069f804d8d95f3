-- Places that are written by words of bits.
use Rattle.std.proofs.Common.{◌≡◌, ◌∙◌, refl, sym, ap, ap₂, ℕ, zero, suc, ◌<◌, ◌≤◌, ◌+◌, ◌^◌, List, [], ◌∷◌, ◌++◌, Bool, true, false, cond, length, map, take, get_or, filter, arith}
use Rattle.std.specs.Prelude.{All}
use Rattle.std.specs.List.{range_with_len}
use Rattle.std.proofs.lemmas.List.{append-nil, length-append, length-take-le, map-append, take_all, take_more}
use Rattle.std.proofs.lemmas.List.FromFn.{length-range_with_len}
use Rattle.std.proofs.lemmas.List.Elements.{filter-append, All-cons, All-nil}
use Rattle.std.proofs.lemmas.List.Sums.{count_by-le-length, length-filter}
use Rattle.definitions.specs.Scanning.{word_of}
use Rattle.filters.specs.Words.{rows_in_word, word_by}
use Rattle.filters.proofs.WordRows.{rows_of_flags, rows_tested, table_small}

no_more : (xs : List ℕ) → length xs ≡ 0 → xs ≡ []
no_more [] h = refl
no_more (x ∷ xs) h = absurd (omega (arith, h))

-- places are written behind others, and some of them are left
module _ (from count : ℕ) (old new rows left : List ℕ) (room : from + length rows ≤ length old) (within : count ≤ length new) (same : length new ≡ length old) (taken : take from old ++ rows ≡ take count new ++ left) where
  pub counted : count + length left ≡ from + length rows
  counted =
      let before = length-append (take from old) rows in
      let after = length-append (take count new) left in
      let own = length-take-le from old (omega (arith, room)) in
      let written = length-take-le count new within in
      omega (arith, before, after, own, written, ap length taken)

  pub counted_all : left ≡ [] → count ≡ from + length rows
  counted_all none = let many = counted in omega (arith, many, ap length none)

  pub none_left : length new ≤ count → left ≡ []
  none_left full = let many = counted in no_more left (omega (arith, many, room, same, full))

  pub written_all : left ≡ [] → take count new ≡ take from old ++ rows
  written_all none = sym (taken ∙ ap (λ xs. take count new ++ xs) none ∙ append-nil (take count new))

-- ---- the places of a part, behind those before it

split_from : (a m n : ℕ) → range_with_len a (m + n) ≡ range_with_len a m ++ range_with_len (a + m) n
split_from a zero n = ap₂ range_with_len (omega arith) (omega arith)
split_from a (suc m) n =
    let more : suc m + n ≡ suc (m + n) = omega arith in
    let next : a + 1 + m ≡ a + suc m = omega arith in
    ap (range_with_len a) more ∙ ap (λ rows. a ∷ rows) (split_from (a + 1) m n ∙ ap (λ k. range_with_len (a + 1) m ++ range_with_len k n) next)

range_split : (m n : ℕ) → range_with_len 0 (m + n) ≡ range_with_len 0 m ++ range_with_len m n
range_split m n = let none : 0 + m ≡ m = omega arith in split_from 0 m n ∙ ap (λ k. range_with_len 0 m ++ range_with_len k n) none

module _ (p : ℕ → Bool) (done some word : ℕ) (is : word ≡ word_by p done some) where
  pub places_of_word : rows_in_word word done ≡ filter p (range_with_len done some)
  places_of_word = rows_of_flags (map p (range_with_len done some)) word done is ∙ rows_tested p done some

  pub few_places : length (rows_in_word word done) ≤ some
  few_places =
      let rows = range_with_len done some in
      let all = count_by-le-length p rows in
      omega (arith, all, length-filter p rows, length-range_with_len done some, ap length places_of_word)

  pub small_places : done + some < 2 ^ 32 → All (λ place. place < 2 ^ 32) (rows_in_word word done)
  small_places fits = table_small p (done + some) done some word (omega arith) is fits

  pub places_further : filter p (range_with_len 0 done) ++ rows_in_word word done ≡ filter p (range_with_len 0 (done + some))
  places_further =
      ap (λ rows. filter p (range_with_len 0 done) ++ rows) places_of_word
      ∙ sym (ap (filter p) (range_split done some) ∙ filter-append p (range_with_len 0 done) (range_with_len done some))

-- rows that follow one another are told by their places
pub by_place : (met : ℕ → Bool) (first done some : ℕ) → word_by met (first + done) some ≡ word_by (λ place. met (first + place)) done some
by_place met first done some = ap word_of (all_by_place some done)
  where
    all_by_place : (n from : ℕ) → map met (range_with_len (first + from) n) ≡ map (λ place. met (first + place)) (range_with_len from n)
    all_by_place zero from = refl
    all_by_place (suc n) from = ap (λ flags. met (first + from) ∷ flags) (ap (λ k. map met (range_with_len k n)) (omega arith) ∙ all_by_place n (from + 1))

-- ---- the elements at the places that pass

module _ {X : Type 0} (p : ℕ → Bool) (q : X → Bool) (xs : List X) (d : X) (alike : (place : ℕ) → place < length xs → p place ≡ q (get_or xs place d)) where
  abbrev at : ℕ → X
  at place = get_or xs place d

  one_place : (b : Bool) (place : ℕ) → b ≡ p place → map at (cond b (place ∷ []) []) ≡ cond b (at place ∷ []) []
  one_place true place is = refl
  one_place false place is = refl

  pub first_places : (n : ℕ) → n ≤ length xs → map at (filter p (range_with_len 0 n)) ≡ filter q (take n xs)
  first_places zero h = refl
  first_places (suc n) h =
      let more : n + 1 ≡ suc n = omega arith in
      let within : n < length xs = omega (arith, h) in
      ap (λ k. map at (filter p (range_with_len 0 k))) (sym more) ∙ ap (λ rows. map at (filter p rows)) (range_split n 1)
      ∙ ap (map at) (filter-append p (range_with_len 0 n) (n ∷ [])) ∙ map-append at (filter p (range_with_len 0 n)) (cond (p n) (n ∷ []) [])
      ∙ ap₂ (λ ys zs. ys ++ zs) (first_places n (omega (arith, within))) (one_place (p n) n refl ∙ ap (λ b. cond b (at n ∷ []) []) (alike n within))
      ∙ sym (ap (λ k. filter q (take k xs)) (sym more) ∙ ap (filter q) (take_more xs n d within) ∙ filter-append q (take n xs) (at n ∷ []))

  pub all_places : map at (filter p (range_with_len 0 (length xs))) ≡ filter q xs
  all_places = first_places (length xs) (omega arith) ∙ ap (filter q) (take_all (length xs) xs (omega arith))

one_below : (b : Bool) (a most : ℕ) (places : List ℕ) → a < most → All (λ place. place < most) places → All (λ place. place < most) (cond b (a ∷ places) places)
one_below true a most places less others = All-cons (λ place. place < most) a places less others
one_below false a most places less others = others

passing_below : (p : ℕ → Bool) (a n most : ℕ) → a + n ≤ most → All (λ place. place < most) (filter p (range_with_len a n))
passing_below p a zero most h = All-nil (λ place. place < most)
passing_below p a (suc n) most h = one_below (p a) a most (filter p (range_with_len (a + 1) n)) (omega (arith, h)) (passing_below p (a + 1) n most (omega (arith, h)))

pub places_below : (p : ℕ → Bool) (n : ℕ) → All (λ place. place < n) (filter p (range_with_len 0 n))
places_below p n = passing_below p 0 n n (omega arith)
