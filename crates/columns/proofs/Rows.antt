-- The rows of a word's bits.
use Rattle.std.proofs.Common.{◌≡◌, ◌∙◌, refl, sym, ap, ap₂, ℕ, zero, suc, ◌+◌, ◌-◌, ◌*◌, ◌/◌, ◌%◌, ◌^◌, ◌<◌, ◌≤◌, List, [], ◌∷◌, ◌++◌, Bool, true, false, cond, length, map, take, drop, get_or, arith}
use Rattle.std.specs.Prelude.{filter, All}
use Rattle.std.specs.Int.{bit_at, trailing_zeros, w64}
use Rattle.std.proofs.lemmas.Nat.Bits.{bit_at-suc, bit_at-zero, bit_at_lowest, bit_at-trailing_zeros}
use Rattle.std.proofs.lemmas.List.{get_or-drop, drop-drop, length-drop, append_assoc}
use Rattle.std.proofs.lemmas.List.Elements.{All-nil, All-cons}
use native.Mathlib.Nat.{div-div-eq-div-mul, pow-suc, div-one, zero-div}
use Rattle.definitions.specs.Scanning.{word_of}
use Rattle.columns.specs.Rows.{rows_set}

-- the first flag and the others of a word
pub half_word : (flag : Bool) (flags : List Bool) → word_of (flag ∷ flags) / 2 ≡ word_of flags
half_word true flags = omega arith
half_word false flags = omega arith

pub odd_word : (flag : Bool) (flags : List Bool) → word_of (flag ∷ flags) % 2 ≡ cond flag 1 0
odd_word true flags = omega arith
odd_word false flags = omega arith

pub no_rows : (flags : List Bool) (row : ℕ) → word_of flags ≡ 0 → rows_set flags row ≡ []
no_rows [] row h = refl
no_rows (true ∷ flags) row h = absurd (omega (arith, h))
no_rows (false ∷ flags) row h = no_rows flags (suc row) (omega (arith, h))

-- the bits from one on
pub later_word : (n : ℕ) (flags : List Bool) → word_of flags / 2 ^ n ≡ word_of (drop n flags)
later_word zero flags = div-one (word_of flags)
later_word (suc n) [] = zero-div (2 ^ suc n)
later_word (suc n) (flag ∷ flags) =
    let p : 2 ^ suc n ≡ 2 * 2 ^ n = omega (arith, pow-suc 2 n) in
    let d : word_of (flag ∷ flags) / (2 * 2 ^ n) ≡ word_of (flag ∷ flags) / 2 / 2 ^ n = sym (div-div-eq-div-mul (word_of (flag ∷ flags)) 2 (2 ^ n)) in
    ap (λ x. word_of (flag ∷ flags) / x) p ∙ d ∙ ap (λ x. x / 2 ^ n) (half_word flag flags) ∙ later_word n flags

-- the first bit that is set is that of the first row
pub first_row : (flags : List Bool) (row n : ℕ) → bit_at (word_of flags) n ≡ 1 → ((i : ℕ) → i < n → bit_at (word_of flags) i ≡ 0)
    → (n < length flags) × (rows_set flags row ≡ (row + n) ∷ rows_set (drop (suc n) flags) (row + n + 1))
first_row [] row n h none = absurd (omega (arith, bit_at-zero n, h))
first_row (true ∷ flags) row zero h none =
    let a : row ≡ row + 0 = omega arith in
    let b : suc row ≡ row + 0 + 1 = omega arith in
    (omega arith, ap₂ (λ x y. x ∷ rows_set flags y) a b)
first_row (false ∷ flags) row zero h none = absurd (omega (arith, h, bit_at_lowest (word_of (false ∷ flags)), odd_word false flags))
first_row (true ∷ flags) row (suc n) h none = absurd (omega (arith, none 0 (omega arith), bit_at_lowest (word_of (true ∷ flags)), odd_word true flags))
first_row (false ∷ flags) row (suc n) h none =
    let same : (i : ℕ) → bit_at (word_of flags) i ≡ bit_at (word_of (false ∷ flags)) (suc i) = λ i. ap (λ x. bit_at x i) (sym (half_word false flags)) ∙ sym (bit_at-suc (word_of (false ∷ flags)) i) in
    let rest = first_row flags (suc row) n (same n ∙ h) (λ i l. same i ∙ none (suc i) (omega (arith, l))) in
    let a : suc row + n ≡ row + suc n = omega arith in
    let b : suc row + n + 1 ≡ row + suc n + 1 = omega arith in
    (omega (arith, rest.0), rest.1 ∙ ap₂ (λ x y. x ∷ rows_set (drop (suc n) flags) y) a b)

pub rows-append : (xs ys : List Bool) (row : ℕ) → rows_set (xs ++ ys) row ≡ rows_set xs row ++ rows_set ys (row + length xs)
rows-append [] ys row = ap (rows_set ys) (omega arith)
rows-append (true ∷ xs) ys row = ap (λ rows. row ∷ rows) (rows-append xs ys (suc row) ∙ ap (λ n. rows_set xs (suc row) ++ rows_set ys n) (omega arith))
rows-append (false ∷ xs) ys row = rows-append xs ys (suc row) ∙ ap (λ n. rows_set xs (suc row) ++ rows_set ys n) (omega arith)

none_of : {X : Type 0} (n : ℕ) → take {A = X} n [] ≡ []
none_of zero = refl
none_of (suc n) = refl

pub take-add : {X : Type 0} (n m : ℕ) (xs : List X) → take (n + m) xs ≡ take n xs ++ take m (drop n xs)
take-add zero m xs = let e : 0 + m ≡ m = omega arith in ap (λ k. take k xs) e
take-add (suc n) m [] = none_of (suc n + m) ∙ sym (none_of m)
take-add (suc n) m (x ∷ xs) = let e : suc n + m ≡ suc (n + m) = omega arith in ap (λ k. take k (x ∷ xs)) e ∙ ap (λ ys. x ∷ ys) (take-add n m xs)

pub rows_within : (flags : List Bool) (row bound : ℕ) → row + length flags ≤ bound → All (λ n. n < bound) (rows_set flags row)
rows_within [] row bound h = All-nil _
rows_within (true ∷ flags) row bound h =
    let first : row < bound = omega (arith, h) in
    All-cons (λ n. n < bound) row (rows_set flags (suc row)) first (rows_within flags (suc row) bound (omega (arith, h)))
rows_within (false ∷ flags) row bound h = rows_within flags (suc row) bound (omega (arith, h))

row_passes : {X : Type 0} (p : X → Bool) (d : X) (all xs : List X) (x : X) (row : ℕ) (b : Bool) → get_or all row d ≡ x → map (λ n. get_or all n d) (rows_set (map p xs) (suc row)) ≡ filter p xs
    → map (λ n. get_or all n d) (cond b (row ∷ rows_set (map p xs) (suc row)) (rows_set (map p xs) (suc row))) ≡ cond b (x ∷ filter p xs) (filter p xs)
row_passes p d all xs x row true e r = ap₂ (λ y ys. y ∷ ys) e r
row_passes p d all xs x row false e r = r

-- the rows of the flags of a test are those that pass it
pub rows_pass : {X : Type 0} (p : X → Bool) (d : X) (all xs : List X) (row : ℕ) → drop row all ≡ xs → map (λ n. get_or all n d) (rows_set (map p xs) row) ≡ filter p xs
rows_pass p d all [] row h = refl
rows_pass p d all (x ∷ xs) row h =
    let at : row ≡ row + 0 = omega arith in
    let own : get_or all row d ≡ x = ap (λ n. get_or all n d) at ∙ sym (get_or-drop row all 0 d) ∙ ap (λ ys. get_or ys 0 d) h in
    let past : suc row ≡ row + 1 = omega arith in
    let rest : drop (suc row) all ≡ xs = ap (λ n. drop n all) past ∙ sym (drop-drop 1 row all) ∙ ap (drop 1) h in
    row_passes p d all xs x row (p x) own (rows_pass p d all xs (suc row) rest)

-- the row of the lowest bit that is left, and what is left behind it
pub next_row : (flags : List Bool) (first row left n : ℕ) (old items more : List ℕ) → first ≤ row → row ≤ first + length flags → left ≡ word_of (drop (row - first) flags) → 0 < left → left < 2 ^ 64 → n ≡ trailing_zeros w64 left
    → items ++ rows_set (drop (row - first) flags) row ≡ old ++ rows_set flags first → more ≡ items ++ (row + n) ∷ []
    → (row + n + 1 ≤ first + length flags) × (left / 2 ^ n / 2 ≡ word_of (drop (row + n + 1 - first) flags)) × (more ++ rows_set (drop (row + n + 1 - first) flags) (row + n + 1) ≡ old ++ rows_set flags first)
next_row flags first row left n old items more begun within is some fits place rows pushed =
    let behind = drop (row - first) flags in
    let (short, set, clear) = bit_at-trailing_zeros w64 left some fits in
    let (there, next) = first_row behind row n (ap₂ bit_at (sym is) place ∙ set) (λ i below. ap (λ w. bit_at w i) (sym is) ∙ clear i (omega (arith, below, place))) in
    let past : drop (suc n) behind ≡ drop (row + n + 1 - first) flags = drop-drop (suc n) (row - first) flags ∙ ap (λ k. drop k flags) (omega (arith, begun)) in
    let after : n + 1 ≡ suc n = omega arith in
    let half : left / 2 ^ n / 2 ≡ word_of (drop (suc n) behind) = ap (λ w. w / 2 ^ n / 2) is ∙ ap (λ w. w / 2) (later_word n behind) ∙ later_word 1 (drop n behind) ∙ ap word_of (drop-drop 1 n behind ∙ ap (λ k. drop k behind) after) in (
      omega (arith, there, length-drop (row - first) flags, begun, within),
      half ∙ ap word_of past,
      ap₂ (λ xs ys. xs ++ rows_set ys (row + n + 1)) pushed (sym past) ∙ append_assoc items ((row + n) ∷ []) (rows_set (drop (suc n) behind) (row + n + 1)) ∙ ap (λ xs. items ++ xs) (sym next) ∙ rows,
    )

-- the rows of a part behind those of the rows before it
pub rows_so_far : (xs ys : List Bool) (first : ℕ) (items more : List ℕ) → length xs ≡ first → items ≡ rows_set xs 0 → more ≡ items ++ rows_set ys first → more ≡ rows_set (xs ++ ys) 0
rows_so_far xs ys first items more long is pushed =
    let start : first ≡ 0 + length xs = omega (arith, long) in
    pushed ∙ ap₂ (λ is at. is ++ rows_set ys at) is start ∙ sym (rows-append xs ys 0)
