-- Columns of GROUP BY, and columns that were found.
use Rattle.std.proofs.Common.{◌≡◌, refl, sym, ap₂, inl, inr, ℕ, zero, suc, ◌<◌, Bool, true, false, List, [], ◌∷◌, length, map, slice_index_or, nat_eq, arith}
use Rattle.std.specs.Prelude.{◌&&◌}
use Rattle.std.proofs.lemmas.Bool.Decides.{nat_tests}
use Rattle.definitions.specs.Lists.{AnyOf}
use Rattle.query_tree.specs.Bound.{column_of}
use Rattle.query_tree.specs.declared.leaf.BlockColumn.{BlockColumn}

pub any_here : {A X : Type 0} (P : X → Type 0) (f : A → X) (xs : List A) (i : ℕ) (d : A) → i < length xs → P (f (slice_index_or xs i d)) → AnyOf P (map f xs)
any_here P f [] i d h p = absurd (omega (arith, h))
any_here P f (x ∷ xs) zero d h p = inl p
any_here P f (x ∷ xs) (suc i) d h p = inr (any_here P f xs i d (omega (arith, h)) p)

same_number : (m n : ℕ) → nat_eq m n ≡ true → m ≡ n
same_number m n h = grind (arith, nat_tests, h)

both : (a b : Bool) → true ≡ a && b → (a ≡ true) × (b ≡ true)
both true b h = (refl, sym h)
both false b h = absurd cc

pub same_column : (x y : BlockColumn) → true ≡ nat_eq x.table y.table && nat_eq x.number y.number → column_of x ≡ column_of y
same_column x y h =
    let (t, n) = both (nat_eq x.table y.table) (nat_eq x.number y.number) h in
    ap₂ (λ a b. column_of (record { table = a; number = b })) (same_number x.table y.table t) (same_number x.number y.number n)
