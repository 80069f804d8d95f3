-- Lists that are gone through one element after another.
use Rattle.std.proofs.Common.{◌≡◌, ◌∙◌, sym, ap, subst, ℕ, zero, suc, ◌+◌, ◌<◌, List, [], ◌∷◌, length, map, drop, get_or, arith}
use Rattle.std.specs.List.{AllByRecursion}
use Rattle.std.proofs.lemmas.List.{drop_more}

-- the next element and those behind it, as they are seen
pub next : {X Y : Type 0} (view : X → Y) (xs : List X) (i : ℕ) (x : X) → i < length xs → x ≡ get_or xs i x → map view (drop i xs) ≡ view x ∷ map view (drop (i + 1) xs)
next view xs i x h e = ap (map view) (drop_more xs i x h ∙ ap (λ y. y ∷ drop (i + 1) xs) (sym e))

pub at_place : {X Y : Type 0} (P : Y → Type 0) (view : X → Y) (xs : List X) (i : ℕ) (x : X) → AllByRecursion P (map view xs) → i < length xs → x ≡ get_or xs i x → P (view x)
at_place P view [] i x h l e = absurd (omega (arith, l))
at_place P view (y ∷ xs) zero x h l e = subst (λ z. P (view z)) (sym e) h.0
at_place P view (y ∷ xs) (suc i) x h l e = at_place P view xs i x h.1 (omega (arith, l)) e
