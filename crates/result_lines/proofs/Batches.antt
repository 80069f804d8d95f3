-- Rows of a batch, one after another.
use Rattle.std.proofs.Common.{◌≡◌, ◌∙◌, refl, sym, ap, ℕ, zero, suc, ◌+◌, ◌<◌, List, [], ◌∷◌, ◌++◌, Some, is_some, get_or, length, map, take, drop, arith, true≢false}
use Rattle.std.specs.Prelude.{flat_map, slice_get, unwrap_or}
use Rattle.definitions.specs.Value.{Value, Null}
use Rattle.definitions.specs.Table.{Row}
use Rattle.definitions.specs.Printing.{row_line}
use Rattle.result_lines.proofs.Inserted.{line_more}

pub there : {X : Type 0} (xs : List X) (i : ℕ) → i < length xs → (x : X) × (slice_get xs i ≡ Some x)
there [] i h = absurd (omega (arith, h))
there (x ∷ xs) zero h = (x, refl)
there (x ∷ xs) (suc i) h = there xs i (omega (arith, h))

lines : {X : Type 0} (f : X → Row) (xs : List X) → flat_map row_line (map f xs) ≡ flat_map (λ line. line) (map (λ x. row_line (f x)) xs)
lines f [] = refl
lines f (x ∷ xs) = ap (λ ls. row_line (f x) ++ ls) (lines f xs)

pub row_more : {X : Type 0} (f : X → Row) (xs : List X) (i : ℕ) (x : X) → slice_get xs i ≡ Some x → flat_map row_line (map f (take (i + 1) xs)) ≡ flat_map row_line (map f (take i xs)) ++ row_line (f x)
row_more f xs i x e = lines f (take (i + 1) xs) ∙ line_more (λ y. row_line (f y)) xs i x e ∙ ap (λ ls. ls ++ row_line (f x)) (sym (lines f (take i xs)))

pub one_more : {X Y : Type 0} (f : X → Y) (xs : List X) (i : ℕ) (x : X) → slice_get xs i ≡ Some x → map f (take (i + 1) xs) ≡ map f (take i xs) ++ f x ∷ []
one_more f xs i x e = let n : suc i ≡ i + 1 = omega arith in ap (λ k. map f (take k xs)) (sym n) ∙ next f xs i x e
  where
    next : {X Y : Type 0} (f : X → Y) (xs : List X) (i : ℕ) (x : X) → slice_get xs i ≡ Some x → map f (take (suc i) xs) ≡ map f (take i xs) ++ f x ∷ []
    next f [] i x e = absurd (true≢false (sym (ap is_some e)))
    next f (y ∷ xs) zero x e = ap (λ o. f (unwrap_or o y) ∷ []) e
    next f (y ∷ xs) (suc i) x e = ap (λ ys. f y ∷ ys) (next f xs i x e)

-- two lists give the same values, place by place
pub value_at : {X Y : Type 0} (f : X → Value) (g : Y → Value) (xs : List X) (ys : List Y) (place : ℕ) (d : X) (y : Y) → map f xs ≡ map g ys → slice_get ys place ≡ Some y → place < length xs → f (get_or xs place d) ≡ g y
value_at f g [] ys place d y same at' within = absurd (omega (arith, within))
value_at f g (a ∷ xs) [] place d y same at' within = absurd (true≢false (sym (ap is_some at')))
value_at f g (a ∷ xs) (b ∷ ys) zero d y same at' within = ap (λ vs. get_or vs 0 Null) same ∙ ap (λ o. g (unwrap_or o b)) at'
value_at f g (a ∷ xs) (b ∷ ys) (suc place) d y same at' within = value_at f g xs ys place d y (ap (drop 1) same) at' (omega (arith, within))

pub same_length : {X Y : Type 0} (f : X → Value) (g : Y → Value) (xs : List X) (ys : List Y) → map f xs ≡ map g ys → length xs ≡ length ys
same_length f g [] [] same = refl
same_length f g [] (y ∷ ys) same = absurd cc
same_length f g (x ∷ xs) [] same = absurd cc
same_length f g (x ∷ xs) (y ∷ ys) same = ap suc (same_length f g xs ys (ap (drop 1) same))
