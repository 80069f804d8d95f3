-- Flags of rows, kept as bits of words.
use Rattle.std.proofs.Common.{◌≡◌, ◌≢◌, ◌∙◌, refl, sym, ap, ap₂, ℕ, zero, suc, ◌+◌, ◌*◌, ◌-◌, ◌/◌, ◌%◌, ◌<◌, ◌≤◌, ◌^◌, List, [], ◌∷◌, ◌++◌, Bool, true, false, cond, inl, inr, length, take, drop, get_or, nat_eq, arith}
use Rattle.std.specs.Prelude.{map, slice_set}
use Rattle.std.specs.Int.{bit_at, from_bool}
use Rattle.std.specs.Int.Bits.{bit_and}
use Rattle.std.specs.List.{range_with_len}
use Rattle.std.proofs.lemmas.Bool.Decides.{nat_tests}
use Rattle.std.proofs.lemmas.Bool.{cases_lt, cases_eq}
use Rattle.std.proofs.Math.ListN.{get_or-eq_default}
use Rattle.std.proofs.lemmas.List.{get_or_default, get_or-take, get_or-drop, get_or-set_same, get_or-set_other, length-take}
use Rattle.std.proofs.lemmas.List.FromFn.{get_or-map-range_with_len, length-map-range_with_len, map-range_with_len_more, fill_by_all}
use Rattle.std.proofs.lemmas.Nat.{shr_split, shr-shr, and_mask, shl_whole, mod_below, pow_pos}
use Rattle.std.proofs.lemmas.Nat.Bits.{shr_and_one, bit_at_and, bit_at_ones, bit_at_ones_above, bit_at-lt, bit_at_cat_low, bit_at_cat_high, same_from_bits}
use Rattle.definitions.specs.Scanning.{word_of}
use Rattle.columns.specs.NullBits.{null_flag}
use Rattle.columns.proofs.WordFlags.{bit_at_word, flag_number}

-- so many flags from the first row on
abbrev pub flags : List ℕ → ℕ → List Bool
flags words count = map (null_flag words) (range_with_len 0 count)

pub flag_at : (words : List ℕ) (count row : ℕ) (d : Bool) → row < count → get_or (flags words count) row d ≡ null_flag words row
flag_at words count row d h = get_or-map-range_with_len (null_flag words) 0 count row row d h (omega arith)

-- one flag more, where those before it stay
flags_pushed : (words words' : List ℕ) (count : ℕ) (null : Bool) → ((row : ℕ) → row < count → null_flag words' row ≡ null_flag words row) → null_flag words' count ≡ null
    → flags words' (count + 1) ≡ flags words count ++ null ∷ []
flags_pushed words words' count null h e =
    let front : flags words' count ≡ flags words count = fill_by_all (null_flag words) (flags words' count) count false (length-map-range_with_len (null_flag words') 0 count) (λ row lt. flag_at words' count row false lt ∙ h row lt) in
    map-range_with_len_more (null_flag words') 0 count count (omega arith) ∙ ap₂ (λ fs f. fs ++ f ∷ []) front e

low_bit : (w k i : ℕ) → i < k → bit_at (w % 2 ^ k) i ≡ bit_at w i
low_bit w k i h = sym (bit_at_cat_low (w / 2 ^ k) k (w % 2 ^ k) i h) ∙ ap (λ n. bit_at n i) (shr_split w k)

-- a word whose lower bits stay, and above them a flag
lower_bit : (w s f i : ℕ) → i < s → bit_at (f * 2 ^ s + w % 2 ^ s) i ≡ bit_at w i
lower_bit w s f i h = bit_at_cat_low f s (w % 2 ^ s) i h ∙ low_bit w s i h

lowest : (f : Bool) → bit_at (cond f 1 0) 0 ≡ cond f 1 0
lowest true = refl
lowest false = refl

own_bit : (w s : ℕ) (null : Bool) → bit_at (cond null 1 0 * 2 ^ s + w % 2 ^ s) s ≡ cond null 1 0
own_bit w s null =
    let same : s - s ≡ 0 = omega arith in
    bit_at_cat_high (cond null 1 0) s (w % 2 ^ s) s (mod_below w (2 ^ s) (pow_pos s)) (omega arith) ∙ ap (bit_at (cond null 1 0)) same ∙ lowest null

flag_below : (f : Bool) → cond f 1 0 < 2 ^ 1
flag_below true = omega arith
flag_below false = omega arith

pushed_word : (w s ones flag : ℕ) (null : Bool) → s < 64 → ones ≡ 2 ^ s - 1 → flag ≡ from_bool null
    → bit_and w ones + flag * 2 ^ s % 2 ^ 64 ≡ cond null 1 0 * 2 ^ s + w % 2 ^ s
pushed_word w s ones flag null h e f =
    rw (e, f ∙ flag_number null, and_mask w s, shl_whole (cond null 1 0) 1 s 64 (flag_below null) (omega arith)) (omega arith)

pub flag_read : (f : Bool) → nat_eq (cond f 1 0) 1 ≡ f
flag_read true = refl
flag_read false = refl

-- words with one of them written anew; `grown` may have a further word of no bits
flags_set : (words grown words' : List ℕ) (count v : ℕ) (null : Bool) → ((j : ℕ) → get_or grown j 0 ≡ get_or words j 0) → count / 64 < length grown
    → v ≡ cond null 1 0 * 2 ^ (count % 64) + get_or grown (count / 64) 0 % 2 ^ (count % 64) → words' ≡ slice_set grown (count / 64) v
    → flags words' (count + 1) ≡ flags words count ++ null ∷ []
flags_set words grown words' count v null same h e f =
    let place = count / 64 in
    let there : get_or words' place 0 ≡ v = ap (λ ws. get_or ws place 0) f ∙ get_or-set_same grown place v 0 h in
    let bit_there : (row : ℕ) → row < count → row / 64 ≡ place → bit_at (get_or words' (row / 64) 0) (row % 64) ≡ bit_at (get_or words (row / 64) 0) (row % 64) =
    λ row lt at. rw (at, there, e, ← same place) (lower_bit (get_or grown place 0) (count % 64) (cond null 1 0) (row % 64) (omega arith)) in
    let elsewhere : (row : ℕ) → row / 64 ≢ place → get_or words' (row / 64) 0 ≡ get_or words (row / 64) 0 =
    λ row ne. ap (λ ws. get_or ws (row / 64) 0) f ∙ get_or-set_other grown place (row / 64) v 0 ne ∙ same (row / 64) in
    flags_pushed words words' count null
    (λ row lt. elim (cases_eq (row / 64) place) [ inl at ↦ ap (λ b. nat_eq b 1) (bit_there row lt at) | inr ne ↦ ap (λ w. nat_eq (bit_at w (row % 64)) 1) (elsewhere row ne) ])
    (ap (λ w. nat_eq (bit_at w (count % 64)) 1) (there ∙ e) ∙ ap (λ b. nat_eq b 1) (own_bit (get_or grown place 0) (count % 64) null) ∙ flag_read null)

-- a flag as its bit
flag_bit : (words : List ℕ) (row : ℕ) → cond (null_flag words row) 1 0 ≡ bit_at (get_or words (row / 64) 0) (row % 64)
flag_bit words row = let small = bit_at-lt (get_or words (row / 64) 0) (row % 64) in grind (arith, nat_tests)

-- the bits of two words that follow one another
bit_of_two : (words : List ℕ) (first low high both i : ℕ) → low ≡ get_or words (first / 64) 0 → high ≡ get_or words (first / 64 + 1) 0 → low < 2 ^ 64 → both ≡ high * 2 ^ 64 + low → i ≤ 64
    → bit_at both (first % 64 + i) ≡ bit_at (get_or words ((first + i) / 64) 0) ((first + i) % 64)
bit_of_two words first low high both i e f h k le = elim (cases_lt (first % 64 + i) 64) [
  | inl lt ↦ let place : (first + i) / 64 ≡ first / 64 = omega arith in
      let bit : (first + i) % 64 ≡ first % 64 + i = omega arith in
      rw (place, bit, ← e, k) (bit_at_cat_low high 64 low (first % 64 + i) lt)
  | inr ge ↦ let place : (first + i) / 64 ≡ first / 64 + 1 = omega arith in
      let bit : (first + i) % 64 ≡ first % 64 + i - 64 = omega arith in
      rw (place, bit, ← f, k) (bit_at_cat_high high 64 low (first % 64 + i) h ge)
]

-- a word cut to its lowest bits
cut_bit : (word rows i : ℕ) → i < rows → bit_at (bit_and word (2 ^ rows - 1)) i ≡ bit_at word i
cut_bit word rows i lt =
    let one = bit_at_ones rows i lt in
    let small = bit_at-lt word i in
    bit_at_and word (2 ^ rows - 1) i ∙ omega arith

no_bit : (word rows i : ℕ) → rows ≤ i → bit_at (bit_and word (2 ^ rows - 1)) i ≡ 0
no_bit word rows i ge = let none = bit_at_ones_above rows i ge in bit_at_and word (2 ^ rows - 1) i ∙ omega arith

no_flag : (fs : List Bool) (rows i : ℕ) → rows ≤ i → bit_at (word_of (take rows fs)) i ≡ 0
no_flag fs rows i ge =
    let short : length (take rows fs) ≤ i = omega (arith, length-take rows fs) in
    bit_at_word (take rows fs) i ∙ ap (λ b. cond b 1 0) (get_or-eq_default (take rows fs) false short)

flag_inside : (words : List ℕ) (count first rows i : ℕ) → first + rows ≤ count → i < rows
    → bit_at (word_of (take rows (drop first (flags words count)))) i ≡ bit_at (get_or words ((first + i) / 64) 0) ((first + i) % 64)
flag_inside words count first rows i within lt =
    let fs = flags words count in
    let read : get_or (take rows (drop first fs)) i false ≡ null_flag words (first + i) =
    get_or-take rows (drop first fs) i false lt ∙ get_or-drop first fs i false ∙ flag_at words count (first + i) false (omega arith) in
    bit_at_word (take rows (drop first fs)) i ∙ ap (λ b. cond b 1 0) read ∙ flag_bit words (first + i)

-- so many rows from a row on, read out of the two words that they lie in
pub word_of_part : (words : List ℕ) (count first rows low high both ones : ℕ) → first + rows ≤ count → rows ≤ 64
    → low ≡ get_or words (first / 64) 0 → high ≡ get_or words (first / 64 + 1) 0 → low < 2 ^ 64 → both ≡ high * 2 ^ 64 + low → ones ≡ 2 ^ rows - 1
    → bit_and (both / 2 ^ (first % 64)) ones ≡ word_of (take rows (drop first (flags words count)))
word_of_part words count first rows low high both ones within few e f h k o =
    let word = both / 2 ^ (first % 64) in
    let part = word_of (take rows (drop first (flags words count))) in
    let same : (i : ℕ) → bit_at (bit_and word (2 ^ rows - 1)) i ≡ bit_at part i = λ i. elim (cases_lt i rows) [
      | inl lt ↦ cut_bit word rows i lt ∙ ap (λ n. n % 2) (shr-shr both (first % 64) i) ∙ bit_of_two words first low high both i e f h k (omega arith) ∙ sym (flag_inside words count first rows i within lt)
      | inr ge ↦ no_bit word rows i ge ∙ sym (no_flag (drop first (flags words count)) rows i ge)
    ] in
    rw o (same_from_bits (bit_and word (2 ^ rows - 1)) part same)

-- the rows of a list of flags are counted
pub rows_counted : (words : List ℕ) (count : ℕ) (fs : List Bool) → flags words count ≡ fs → count ≡ length fs
rows_counted words count fs h = sym (length-map-range_with_len (null_flag words) 0 count) ∙ ap length h

-- the bit that tells of a row
pub null_read : (words : List ℕ) (count row word : ℕ) (fs : List Bool) → flags words count ≡ fs → row < count → row / 64 < length words → word ≡ get_or words (row / 64) word
    → nat_eq (bit_and (word / 2 ^ (row % 64)) 1) 1 ≡ get_or fs row false
null_read words count row word fs view h within e =
    let own : word ≡ get_or words (row / 64) 0 = e ∙ get_or_default words (row / 64) word 0 within in
    ap (λ b. nat_eq b 1) (shr_and_one word (row % 64)) ∙ ap (λ w. nat_eq (bit_at w (row % 64)) 1) own
    ∙ sym (flag_at words count row false h) ∙ ap (λ l. get_or l row false) view

-- a word of no bits behind the last says no more
pub read_grown : (words : List ℕ) (place : ℕ) → get_or (words ++ 0 ∷ []) place 0 ≡ get_or words place 0
read_grown [] zero = refl
read_grown [] (suc place) = refl
read_grown (w ∷ words) zero = refl
read_grown (w ∷ words) (suc place) = read_grown words place

-- a flag written behind the last row
pub flag_written : (words grown : List ℕ) (count len more w ones flag : ℕ) (null : Bool) (fs : List Bool) → flags words count ≡ fs → len ≡ count → more ≡ count + 1
    → ((place : ℕ) → get_or grown place 0 ≡ get_or words place 0) → count / 64 < length grown → w ≡ get_or grown (count / 64) w → ones ≡ 2 ^ (len % 64) - 1 → flag ≡ from_bool null
    → flags (slice_set grown (count / 64) (bit_and w ones + flag * 2 ^ (len % 64) % 2 ^ 64)) more ≡ fs ++ null ∷ []
flag_written words grown count len more w ones flag null fs view same e read within f o g =
    let word : w ≡ get_or grown (count / 64) 0 = f ∙ get_or_default grown (count / 64) w 0 within in
    let ones' : ones ≡ 2 ^ (count % 64) - 1 = o ∙ ap (λ k. 2 ^ (k % 64) - 1) same in
    let written = pushed_word (get_or grown (count / 64) 0) (count % 64) ones flag null (omega arith) ones' g in
    rw (word, same, e, ← view) (flags_set words grown _ count _ null read within written refl)
