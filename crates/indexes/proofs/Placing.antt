-- Rows that stand in place.
use Rattle.std.proofs.Common.{◌≡◌, ◌≢◌, ◌∙◌, refl, sym, ap, ap₂, ℕ, ◌+◌, ◌<◌, List, [], ◌∷◌, ◌++◌, Bool, true, false, length, map, take, get_or, arith}
use Rattle.std.specs.Prelude.{bytes_eq}
use Rattle.std.specs.List.{range_with_len}
use Rattle.std.proofs.lemmas.List.{take_more, take_all}
use Rattle.std.proofs.lemmas.List.FromFn.{get_or-range_with_len, map-range_with_len_more}
use Rattle.std.proofs.lemmas.Slice.Eq.{bytes_eq-Decides}

map_same : (xs : List ℕ) → map (λ x. x) xs ≡ xs
map_same [] = refl
map_same (x ∷ xs) = ap (λ ys. x ∷ ys) (map_same xs)

range_more : (n : ℕ) → range_with_len 0 (n + 1) ≡ range_with_len 0 n ++ n ∷ []
range_more n = sym (map_same (range_with_len 0 (n + 1))) ∙ map-range_with_len_more (λ x. x) 0 n n (omega arith) ∙ ap (λ xs. xs ++ n ∷ []) (map_same (range_with_len 0 n))

pub place_more : (rows : List ℕ) (place : ℕ) → take place rows ≡ range_with_len 0 place → place < length rows → get_or rows place 0 ≡ place → take (place + 1) rows ≡ range_with_len 0 (place + 1)
place_more rows place h l is = take_more rows place 0 l ∙ ap₂ (λ xs x. xs ++ x ∷ []) h is ∙ sym (range_more place)

differ : (b : Bool) → (b ≡ true → ⊥) → false ≡ b
differ true h = absurd (h refl)
differ false h = refl

pub out_of_place : (rows : List ℕ) (place : ℕ) → place < length rows → get_or rows place 0 ≢ place → false ≡ bytes_eq rows (range_with_len 0 (length rows))
out_of_place rows place l n = differ (bytes_eq rows (range_with_len 0 (length rows))) (λ h.
    let same : rows ≡ range_with_len 0 (length rows) = (bytes_eq-Decides rows (range_with_len 0 (length rows))).0 h in
    n (ap (λ xs. get_or xs place 0) same ∙ get_or-range_with_len 0 (length rows) place 0 l ∙ (let zero_plus : 0 + place ≡ place = omega arith in zero_plus)))

pub all_in_place : (rows : List ℕ) (place : ℕ) → take place rows ≡ range_with_len 0 place → place ≡ length rows → true ≡ bytes_eq rows (range_with_len 0 (length rows))
all_in_place rows place h e =
    let all : rows ≡ range_with_len 0 (length rows) = sym (take_all place rows (omega (arith, e))) ∙ h ∙ ap (range_with_len 0) e in
    sym ((bytes_eq-Decides rows (range_with_len 0 (length rows))).1 all)
