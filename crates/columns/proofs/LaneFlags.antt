-- Comparisons of lanes, and the words of their answers.
use Rattle.std.proofs.Common.{◌≡◌, refl, ap₂, ℕ, suc, ◌-◌, ◌%◌, ◌≤◌, ◌^◌, List, [], ◌∷◌, Bool, true, false, cond, length, arith, ℤ, to_z, of_z, FitsSigned, w64}
use Rattle.std.specs.Prelude.{map, ◌&&◌, replicate, All}
use Rattle.std.proofs.lemmas.List.{length-map}
use Rattle.std.specs.Int.Bits.{bit_and}
use Rattle.std.specs.Int.Signed.{le_z}
use lib.Lanes.{zip2, mask_l, top}
use Rattle.std.proofs.lemmas.Simd.{mask_l-mod}
use Rattle.std.proofs.lemmas.Int.{to_z-of_z}
use Rattle.definitions.specs.Scanning.{word_of}
use Rattle.columns.proofs.WordFlags.{word_of-mask}

-- a unit lies between two others
abbrev pub lies_within : (low high : ℤ) → ℤ → Bool
lies_within low high = λ u. le_z low u && le_z u high

-- ones where a lane is at most another
abbrev le_mask : ℕ → ℕ → ℕ
le_mask a b = cond (le_z (to_z w64 a) (to_z w64 b)) (2 ^ 64 - 1) 0

both_tops : (a b : Bool) → top 63 (bit_and (cond a (2 ^ 64 - 1) 0) (cond b (2 ^ 64 - 1) 0)) ≡ (a && b)
both_tops true true = refl
both_tops true false = refl
both_tops false true = refl
both_tops false false = refl

lane_within : (low high u : ℤ) → FitsSigned w64 low → FitsSigned w64 high → FitsSigned w64 u
    → top 63 (bit_and (le_mask (of_z w64 low) (of_z w64 u)) (le_mask (of_z w64 u) (of_z w64 high))) ≡ (le_z low u && le_z u high)
lane_within low high u f g h = rw (to_z-of_z w64 low f, to_z-of_z w64 u h, to_z-of_z w64 high g) (both_tops (le_z low u) (le_z u high))

lanes_within : (low high : ℤ) (us : List ℤ) → FitsSigned w64 low → FitsSigned w64 high → All (FitsSigned w64) us
    → map (top 63) (zip2 bit_and (zip2 le_mask (replicate (length us) (of_z w64 low)) (map (of_z w64) us)) (zip2 le_mask (map (of_z w64) us) (replicate (length us) (of_z w64 high))))
    ≡ map (λ u. le_z low u && le_z u high) us
lanes_within low high [] f g h = refl
lanes_within low high (u ∷ us) f g h = ap₂ (λ b bs. b ∷ bs) (lane_within low high u f g (h 0 u (omega arith))) (lanes_within low high us f g (λ k d lt. h (suc k) d (omega arith)))

-- the same as a word, of so many units
pub word_within : (n : ℕ) (low high : ℤ) (us : List ℤ) → length us ≡ n → n ≤ 64 → FitsSigned w64 low → FitsSigned w64 high → All (FitsSigned w64) us
    → mask_l (map (top 63) (zip2 bit_and (zip2 le_mask (replicate n (of_z w64 low)) (map (of_z w64) us)) (zip2 le_mask (map (of_z w64) us) (replicate n (of_z w64 high))))) % 2 ^ 64
    ≡ word_of (map (λ u. le_z low u && le_z u high) us)
word_within n low high us long few f g h =
    let p = λ (u : ℤ). le_z low u && le_z u high in
    rw (← long, lanes_within low high us f g h, word_of-mask (map p us)) (mask_l-mod (map p us) 64 (omega (arith, length-map us p)))
