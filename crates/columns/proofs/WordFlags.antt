-- Words whose bits are the flags of a list.
use Rattle.std.proofs.Common.{◌≡◌, ◌∙◌, refl, ap, ℕ, zero, suc, ◌+◌, ◌*◌, ◌-◌, ◌<◌, ◌^◌, List, [], ◌∷◌, ◌++◌, Bool, true, false, cond, length, get_or, arith}
use Rattle.std.specs.Prelude.{map, not, ◌&&◌, replicate}
use Rattle.std.specs.Int.{bit_at, from_bool}
use Rattle.std.specs.Int.Bits.{bit_and}
use Rattle.std.specs.Simd.Lanes.{mask_l}
use Rattle.std.proofs.lemmas.Simd.{mask_l-lt, bit_mask_l}
use Rattle.std.proofs.lemmas.Nat.{and_block}
use Rattle.std.proofs.Math.Nat.{pow-suc, mul_assoc, mul_comm}
use Rattle.definitions.specs.Scanning.{word_of}

pub word_of-mask : (bs : List Bool) → word_of bs ≡ mask_l bs
word_of-mask [] = refl
word_of-mask (b ∷ bs) = ap (λ n. cond b 1 0 + 2 * n) (word_of-mask bs)

pub word_of-below : (bs : List Bool) → word_of bs < 2 ^ length bs
word_of-below bs = rw (word_of-mask bs) (mask_l-lt bs)

-- a flag as a number
pub flag_number : (f : Bool) → from_bool f ≡ cond f 1 0
flag_number true = refl
flag_number false = refl

-- a flag is a bit
pub bit_at_word : (bs : List Bool) (i : ℕ) → bit_at (word_of bs) i ≡ cond (get_or bs i false) 1 0
bit_at_word bs i = rw (word_of-mask bs) (bit_mask_l bs i)

twice_further : (n w : ℕ) → 2 ^ suc n * w ≡ 2 * (2 ^ n * w)
twice_further n w = rw (pow-suc 2 n, mul_comm (2 ^ n) 2) (mul_assoc 2 (2 ^ n) w)

pub word_of-append : (xs ys : List Bool) → word_of (xs ++ ys) ≡ word_of xs + 2 ^ length xs * word_of ys
word_of-append [] ys = omega arith
word_of-append (x ∷ xs) ys = omega (arith, word_of-append xs ys, twice_further (length xs) (word_of ys))

-- the flags turned are what is left to a word of ones
not_and_self : (bs : List Bool) → word_of (map not bs) + word_of bs + 1 ≡ 2 ^ length bs
not_and_self [] = refl
not_and_self (true ∷ bs) = omega (arith, not_and_self bs, pow-suc 2 (length bs))
not_and_self (false ∷ bs) = omega (arith, not_and_self bs, pow-suc 2 (length bs))

pub word_of-not : (bs : List Bool) → 2 ^ length bs - 1 - word_of bs ≡ word_of (map not bs)
word_of-not bs = omega (arith, not_and_self bs)

-- `&` of two words
bit_below : (f : Bool) → cond f 1 0 < 2 ^ 1
bit_below true = omega arith
bit_below false = omega arith

and_bits : (a b : Bool) → bit_and (cond a 1 0) (cond b 1 0) ≡ cond (a && b) 1 0
and_bits true true = refl
and_bits true false = refl
and_bits false true = refl
and_bits false false = refl

pub and_flags : (a b : Bool) (m n : ℕ) → bit_and (cond a 1 0 + 2 * m) (cond b 1 0 + 2 * n) ≡ cond (a && b) 1 0 + 2 * bit_and m n
and_flags a b m n =
    let left : cond a 1 0 + 2 * m ≡ m * 2 ^ 1 + cond a 1 0 = omega arith in
    let right : cond b 1 0 + 2 * n ≡ n * 2 ^ 1 + cond b 1 0 = omega arith in
    rw (left, right, and_block 1 m n (cond a 1 0) (cond b 1 0) (bit_below a) (bit_below b), and_bits a b) (omega arith)

pub word_of-and : {X : Type 0} (p q : X → Bool) (xs : List X) → bit_and (word_of (map p xs)) (word_of (map q xs)) ≡ word_of (map (λ x. p x && q x) xs)
word_of-and p q [] = refl
word_of-and p q (x ∷ xs) = and_flags (p x) (q x) (word_of (map p xs)) (word_of (map q xs)) ∙ ap (λ n. cond (p x && q x) 1 0 + 2 * n) (word_of-and p q xs)

-- all flags alike
pub word_of-none : (n : ℕ) → word_of (replicate n false) ≡ 0
word_of-none zero = refl
word_of-none (suc n) = omega (arith, word_of-none n)

pub word_of-none_mapped : {X : Type 0} (xs : List X) → word_of (map (λ _. false) xs) ≡ 0
word_of-none_mapped [] = refl
word_of-none_mapped (x ∷ xs) = omega (arith, word_of-none_mapped xs)

ones_and_one : (n : ℕ) → word_of (replicate n true) + 1 ≡ 2 ^ n
ones_and_one zero = refl
ones_and_one (suc n) = omega (arith, ones_and_one n, pow-suc 2 n)

pub word_of-ones : (n : ℕ) → word_of (replicate n true) ≡ 2 ^ n - 1
word_of-ones n = omega (arith, ones_and_one n)

mapped_and_one : {X : Type 0} (xs : List X) → word_of (map (λ _. true) xs) + 1 ≡ 2 ^ length xs
mapped_and_one [] = refl
mapped_and_one (x ∷ xs) = omega (arith, mapped_and_one xs, pow-suc 2 (length xs))

pub word_of-ones_mapped : {X : Type 0} (xs : List X) → word_of (map (λ _. true) xs) ≡ 2 ^ length xs - 1
word_of-ones_mapped xs = omega (arith, mapped_and_one xs)
