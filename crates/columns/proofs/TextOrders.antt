-- Texts against a value in two parts, and words of bits.
use Rattle.std.proofs.Common.{◌≡◌, ◌∙◌, refl, sym, ap, ap₂, ℕ, zero, suc, ◌+◌, ◌-◌, ◌*◌, ◌%◌, ◌^◌, ◌<◌, ◌≤◌, inl, inr, List, [], ◌∷◌, ◌++◌, Bool, true, false, length, take, drop, map, arith, lit<}
use Rattle.std.specs.Prelude.{◌⊎◌, ◌≢◌, if◌then◌else◌, slice_range, min}
use Rattle.std.specs.Ordering.{nat_cmp, ordering_then, ordering_reverse}
use Rattle.std.specs.Cmp.Lexicographic.{slice_cmp}
use Rattle.std.specs.declared.cmp.Ordering.{Ordering}
use Rattle.std.specs.declared.cmp.Ordering.TheVariants.{Less, Equal, Greater}
use Rattle.std.proofs.lemmas.Bool.Decides.{nat_tests}
use Rattle.std.proofs.lemmas.List.{drop-drop, drop_all, length-drop, length-take-le, length-map, map-append}
use Rattle.std.proofs.lemmas.Bool.{cases_lt}
use Rattle.std.proofs.Math.Nat.{pow-le-pow_right, mul-le-mul_right}
use Rattle.std.specs.Int.{from_bool}
use Rattle.definitions.specs.Value.{text_cmp}
use Rattle.definitions.specs.Scanning.{word_of}
use Rattle.columns.specs.TextRows.{texts_in, is_wanted}
use Rattle.columns.specs.declared.text_word.Wanted.{Wanted}

-- orders one behind the other
then_then : (a b c : Ordering) → ordering_then (ordering_then a b) c ≡ ordering_then a (ordering_then b c)
then_then Less b c = refl
then_then Equal b c = refl
then_then Greater b c = refl

then_equal : (a : Ordering) → ordering_then a Equal ≡ a
then_equal Less = refl
then_equal Equal = refl
then_equal Greater = refl

-- spaces against a text are the text against spaces, the other way round
reverse_then : (a b : Ordering) → ordering_reverse (ordering_then a b) ≡ ordering_then (ordering_reverse a) (ordering_reverse b)
reverse_then Less b = refl
reverse_then Equal b = refl
reverse_then Greater b = refl

reverse_cmp : (x y : ℕ) → nat_cmp x y ≡ ordering_reverse (nat_cmp y x)
reverse_cmp x y = grind (arith, nat_tests)

pub spaces_against : (ys : List ℕ) → text_cmp [] ys ≡ ordering_reverse (text_cmp ys [])
spaces_against [] = refl
spaces_against (y ∷ ys) = ap₂ ordering_then (reverse_cmp 32 y) (spaces_against ys) ∙ sym (reverse_then (nat_cmp y 32) (text_cmp ys []))

-- a value in two parts, the second of them past the text's end
pub by_parts : (text head tail : List ℕ) → length head ≤ length text → (length head ≡ length text) ⊎ (tail ≡ [])
    → text_cmp text (head ++ tail) ≡ ordering_then (slice_cmp nat_cmp (take (length head) text) head) (ordering_then (text_cmp (drop (length head) text) []) (text_cmp [] tail))
by_parts [] [] tail h e = refl
by_parts (x ∷ xs) [] tail h (inl e) = absurd (omega (arith, e))
by_parts (x ∷ xs) [] tail h (inr e) = rw e (sym (then_equal (text_cmp (x ∷ xs) [])))
by_parts [] (y ∷ ys) tail h e = absurd (omega (arith, h))
by_parts (x ∷ xs) (y ∷ ys) tail h (inl e) = ap (ordering_then (nat_cmp x y)) (by_parts xs ys tail (omega (arith, h)) (inl (omega (arith, e)))) ∙ sym (then_then (nat_cmp x y) _ _)
by_parts (x ∷ xs) (y ∷ ys) tail h (inr e) = ap (ordering_then (nat_cmp x y)) (by_parts xs ys tail (omega (arith, h)) (inr e)) ∙ sym (then_then (nat_cmp x y) _ _)

then_unequal : (a b : Ordering) → a ≢ Equal → ordering_then a b ≡ a
then_unequal Less b h = refl
then_unequal Equal b h = absurd (h refl)
then_unequal Greater b h = refl

module _ (text head tail front rest : List ℕ) (order past : Ordering) (h : length head ≤ length text) (e : (length head ≡ length text) ⊎ (tail ≡ []))
    (f : front ≡ take (length head) text) (r : rest ≡ drop (length head) text) (o : order ≡ slice_cmp nat_cmp front head) (p : past ≡ text_cmp [] tail) where
  whole : ordering_then order (ordering_then (text_cmp rest []) past) ≡ text_cmp text (head ++ tail)
  whole = rw (o, f, r, p) (sym (by_parts text head tail h e))

  pub by_rest : (spaces : Ordering) → order ≡ Equal → spaces ≡ text_cmp rest [] → ordering_then spaces past ≡ text_cmp text (head ++ tail)
  by_rest spaces q s = ap (λ x. ordering_then x past) s ∙ ap (λ x. ordering_then x (ordering_then (text_cmp rest []) past)) (sym q) ∙ whole

  pub by_front : order ≢ Equal → order ≡ text_cmp text (head ++ tail)
  by_front q = sym (then_unequal order (ordering_then (text_cmp rest []) past) q) ∙ whole

-- one text more
pub texts_in-more : (n k : ℕ) (codes : List ℕ) → texts_in n (k + 1) codes ≡ texts_in n k codes ++ take n (drop (k * n) codes) ∷ []
texts_in-more n zero codes = let e : 0 * n ≡ 0 = omega arith in rw e refl
texts_in-more n (suc k) codes =
    let e : suc k + 1 ≡ suc (k + 1) = omega arith in
    let f : suc k * n ≡ n + k * n = omega arith in
    rw (e, f, ← drop-drop (k * n) n codes) (ap (λ ts. take n codes ∷ ts) (texts_in-more n k (drop n codes)))

pub length-texts_in : (n k : ℕ) (codes : List ℕ) → length (texts_in n k codes) ≡ k
length-texts_in n zero codes = refl
length-texts_in n (suc k) codes = ap suc (length-texts_in n k (drop n codes))

-- one flag more
pub word_of-more : (flags : List Bool) (flag : Bool) → word_of (flags ++ flag ∷ []) ≡ word_of flags + (if flag then 1 else 0) * 2 ^ length flags
word_of-more [] flag = omega arith
word_of-more (b ∷ flags) flag = let h = word_of-more flags flag in let e : 2 ^ suc (length flags) ≡ 2 * 2 ^ length flags = omega arith in omega (arith, h, ap (λ x. (if flag then 1 else 0) * x) e)

bit_within : (b : Bool) → (if b then 1 else 0) ≤ 1
bit_within true = omega arith
bit_within false = omega arith

pub word_of-bound : (flags : List Bool) → word_of flags < 2 ^ length flags
word_of-bound [] = omega arith
word_of-bound (b ∷ flags) =
    let e : 2 ^ suc (length flags) ≡ 2 * 2 ^ length flags = omega arith in
    rw e (omega (arith, word_of-bound flags, bit_within b))

bit_as_byte : (b : Bool) → from_bool b ≡ (if b then 1 else 0)
bit_as_byte true = refl
bit_as_byte false = refl

-- a bit of a word of 64 bits in its place
in_place : (bit k : ℕ) → bit ≤ 1 → k < 64 → bit * 2 ^ k % 2 ^ 64 ≡ bit * 2 ^ k
in_place bit k h l =
    let g : k ≤ 63 = omega (arith, l) in
    let p : 2 ^ k ≤ 2 ^ 63 = pow-le-pow_right {n = 2} (lit< tt) g in
    let m : bit * 2 ^ k ≤ 1 * 2 ^ k = mul-le-mul_right (2 ^ k) h in
    omega (arith, p, m)

-- one row more, in a word of 64 bits
length_flags : (f : List ℕ → Bool) (n k : ℕ) (codes : List ℕ) → length (map f (texts_in n k codes)) ≡ k
length_flags f n k codes = length-map (texts_in n k codes) f ∙ length-texts_in n k codes

pub row_fits : (f : List ℕ → Bool) (n k : ℕ) (codes : List ℕ) (word bit : ℕ) (met : Bool) → k < 64 → word ≡ word_of (map f (texts_in n k codes)) → bit ≡ from_bool met → word + bit * 2 ^ k % 2 ^ 64 < 2 ^ 64
row_fits f n k codes word bit met h w b =
    let small : bit ≤ 1 = rw (b, bit_as_byte met) (bit_within met) in
    let u : word < 2 ^ k = rw w (rw (length_flags f n k codes) at (word_of-bound (map f (texts_in n k codes)))) in
    let i : k ≤ 63 = omega (arith, h) in
    let p : 2 ^ k ≤ 2 ^ 63 = pow-le-pow_right {n = 2} (lit< tt) i in
    let m : bit * 2 ^ k ≤ 1 * 2 ^ k = mul-le-mul_right (2 ^ k) small in
    rw (in_place bit k small h) (omega (arith, u, p, m))

module _ (f : List ℕ → Bool) (n k : ℕ) (codes own : List ℕ) (word bit : ℕ) (met : Bool) (h : k < 64) (o : own ≡ take n (drop (k * n) codes))
    (w : word ≡ word_of (map f (texts_in n k codes))) (m : met ≡ f own) (b : bit ≡ from_bool met) where
  abbrev flags : List Bool
  flags = map f (texts_in n k codes)

  all_flags : map f (texts_in n (k + 1) codes) ≡ flags ++ f own ∷ []
  all_flags = ap (map f) (texts_in-more n k codes ∙ ap (λ x. texts_in n k codes ++ x ∷ []) (sym o)) ∙ map-append f (texts_in n k codes) (own ∷ [])

  bit_is : bit ≡ (if f own then 1 else 0)
  bit_is = b ∙ ap from_bool m ∙ bit_as_byte (f own)

  placed : bit * 2 ^ k % 2 ^ 64 ≡ (if f own then 1 else 0) * 2 ^ length flags
  placed = in_place bit k (rw bit_is (bit_within (f own))) h ∙ ap₂ (λ x y. x * 2 ^ y) bit_is (sym (length_flags f n k codes))

  pub row_more : word + bit * 2 ^ k % 2 ^ 64 ≡ word_of (map f (texts_in n (k + 1) codes))
  row_more = ap₂ ◌+◌ w placed ∙ sym (word_of-more flags (f own)) ∙ ap word_of (sym all_flags)

-- a value's head is as long as a text, or there is no tail
pub head_or_no_tail : (value head tail text : List ℕ) (n k : ℕ) → k ≡ min n (length value) → length head ≡ k → tail ≡ drop k value → length text ≡ n → (length head ≡ length text) ⊎ (tail ≡ [])
head_or_no_tail value head tail text n k e h t l = by (cases_lt (length value) n)
  where
    by : (length value < n) ⊎ (n ≤ length value) → (length head ≡ length text) ⊎ (tail ≡ [])
    by (inl g) = inr (t ∙ drop_all k value (omega (arith, e, g)))
    by (inr g) = inl (omega (arith, e, h, l, g))

-- the text of a row, and what its order makes of the operator
module _ (codes : List ℕ) (n k rows : ℕ) (h : k < rows) (l : rows * n ≤ length codes) where
  abbrev row_text : List ℕ
  row_text = slice_range codes (k * n) (k * n + n)

  pub row_text_is : row_text ≡ take n (drop (k * n) codes)
  row_text_is = let e : k * n + n - k * n ≡ n = omega arith in ap (λ x. take x (drop (k * n) codes)) e

  length-row_text : length row_text ≡ n
  length-row_text =
      let m : (k + 1) * n ≤ rows * n = mul-le-mul_right n (omega (arith, h)) in
      ap length row_text_is ∙ length-take-le n (drop (k * n) codes) (omega (arith, m, l, length-drop (k * n) codes))

  pub row_met : (asks : Ordering → Bool) (wanted : Wanted) (order spaces past : Ordering) (met : Bool) (value head tail : List ℕ) (m : ℕ)
      → m ≡ min n (length value) → length head ≡ m → tail ≡ drop m value → value ≡ head ++ tail → spaces ≡ text_cmp tail [] → past ≡ ordering_reverse spaces
      → ((o : Ordering) → is_wanted wanted o ≡ asks o) → met ≡ is_wanted wanted order
      → ((t : List ℕ) → past ≡ text_cmp [] t → (length head ≡ length row_text) ⊎ (t ≡ []) → order ≡ text_cmp row_text (head ++ t))
      → met ≡ asks (text_cmp row_text value)
  row_met asks wanted order spaces past met value head tail m e i t v s p w q o =
      let before : past ≡ text_cmp [] tail = p ∙ ap ordering_reverse s ∙ sym (spaces_against tail) in
      q ∙ w order ∙ ap asks (o tail before (head_or_no_tail value head tail row_text n m e i t length-row_text) ∙ ap (text_cmp row_text) (sym v))
