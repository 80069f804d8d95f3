-- The columns of indexes, and the indexes of a block's tables.
use Rattle.std.proofs.Common.{◌≡◌, ◌∙◌, refl, sym, ap, ap₂, ℕ, zero, suc, ◌+◌, List, [], ◌∷◌, ◌++◌, Option, Some, None, take, map, arith}
use Rattle.std.specs.Prelude.{slice_get, option_map, option_and_then, unwrap_or}
use Rattle.std.specs.Global.{Vec}
use Rattle.std.proofs.lemmas.List.{map-append}
use Rattle.definitions.specs.Table.{Index, Table, Database}
use Rattle.definitions.specs.Certificates.Explaining.{index_columns_at, columns_of_indexes}
use Rattle.certificate.specs.Blocks.{columns_in}

pub next : (i : ℕ) → i + 1 ≡ suc i
next i = omega arith

-- one more of a list
taken_more : {X Y : Type 0} (f : X → Y) (xs : List X) (n : ℕ) (x : X) → slice_get xs n ≡ Some x → map f (take (suc n) xs) ≡ map f (take n xs) ++ f x ∷ []
taken_more f [] n x is = absurd cc
taken_more f (y ∷ xs) zero x is = let same : y ≡ x = cc in rw same refl
taken_more f (y ∷ xs) (suc n) x is = ap (λ zs. f y ∷ zs) (taken_more f xs n x is)

pub next_columns : (t : Table) (n : ℕ) (i : Index) (all : List (Vec ℕ)) (columns : Vec ℕ) → slice_get t.indexes n ≡ Some i → columns.items ≡ i.columns
    → map (λ (c : Vec ℕ). c.items) all ≡ map (λ (j : Index). j.columns) (take n t.indexes)
    → map (λ (c : Vec ℕ). c.items) (all ++ columns ∷ []) ≡ map (λ (j : Index). j.columns) (take (suc n) t.indexes)
next_columns t n i all columns is same so_far =
    map-append (λ (c : Vec ℕ). c.items) all (columns ∷ [])
    ∙ ap₂ (λ (xs : List (List ℕ)) (x : List ℕ). xs ++ x ∷ []) so_far same
    ∙ sym (taken_more (λ (j : Index). j.columns) t.indexes n i is)

-- the number of a table, and the table
found : (db : Database) (numbers : List ℕ) (number : ℕ) (t : Table) → option_and_then (slice_get db) (slice_get numbers number) ≡ Some t
    → (n : ℕ) × (slice_get numbers number ≡ Some n) × (slice_get db n ≡ Some t)
found db numbers number t is = of_place (slice_get numbers number) refl is
  where
    of_place : (o : Option ℕ) → slice_get numbers number ≡ o → option_and_then (slice_get db) o ≡ Some t → (n : ℕ) × (slice_get numbers number ≡ Some n) × (slice_get db n ≡ Some t)
    of_place None at e = absurd cc
    of_place (Some n) at e = (n, at, e)

pub next_indexes : (db : Database) (numbers : List ℕ) (number : ℕ) (t : Table) (all : List (Vec (Vec ℕ))) (indexes : Vec (Vec ℕ))
    → option_and_then (slice_get db) (slice_get numbers number) ≡ Some t → columns_in indexes ≡ columns_of_indexes t
    → map columns_in all ≡ map (index_columns_at db) (take number numbers)
    → map columns_in (all ++ indexes ∷ []) ≡ map (index_columns_at db) (take (suc number) numbers)
next_indexes db numbers number t all indexes is same so_far =
    let (n, at, there) = found db numbers number t is in
    let own : index_columns_at db n ≡ columns_of_indexes t = ap (λ o. unwrap_or (option_map columns_of_indexes o) []) there in
    map-append columns_in all (indexes ∷ [])
    ∙ ap₂ (λ (xs : List (List (List ℕ))) (x : List (List ℕ)). xs ++ x ∷ []) so_far (same ∙ sym own)
    ∙ sym (taken_more (index_columns_at db) numbers number n at)
