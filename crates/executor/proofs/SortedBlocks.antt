-- Columns that are sorted for some blocks and not for others.
use Rattle.std.proofs.Common.{◌≡◌, refl, subst, ℕ, zero, suc, List, [], ◌∷◌, ◌++◌, set}
use Rattle.std.specs.Prelude.{IfSome, Option, None, Some, slice_get}
use Rattle.std.specs.List.{AllByRecursion}
use Rattle.std.specs.Borrow.{Bor}
use Rattle.automatic_indexes.specs.SortedColumns.{IsSortedColumn}
use Rattle.automatic_indexes.specs.declared.sorted_column.SortedColumn.{SortedColumn}
use Rattle.executor.specs.ReadyBlocks.{OfBlock}
use Rattle.executor.specs.SortedColumns.{AreSorted}
use Rattle.executor.specs.declared.ready_block.ReadyBlock.{ReadyBlock}

-- ---- none is sorted

abbrev pub AreNone : List (Option SortedColumn) → Type 0
AreNone = AllByRecursion (λ own. own ≡ None)

nothing_there : (xs : List (Option SortedColumn)) → AreNone xs → (n : ℕ) (own : SortedColumn) → slice_get xs n ≡ Some (Some own) → ⊥
nothing_there [] h n own e = cc
nothing_there (x ∷ xs) h zero own e = let none : x ≡ None = h.0 in cc
nothing_there (x ∷ xs) h (suc n) own e = nothing_there xs h.1 n own e

pub none_sorted : (query : List ReadyBlock) (xs : List (Option SortedColumn)) → AreNone xs → AreSorted query xs
none_sorted query xs h n own e = absurd (nothing_there xs h n own e)

pub none_more : (xs : List (Option SortedColumn)) → AreNone xs → AreNone (xs ++ None ∷ [])
none_more [] h = (refl, tt)
none_more (x ∷ xs) h = (h.0, none_more xs h.1)

-- ---- one is put in the place of another

set_all : (P : ℕ → SortedColumn → Type 0) (xs : List (Option SortedColumn)) (number : ℕ) (v : Option SortedColumn) → ((own : SortedColumn) → v ≡ Some own → P number own)
    → ((n : ℕ) (own : SortedColumn) → slice_get xs n ≡ Some (Some own) → P n own) → (n : ℕ) (own : SortedColumn) → slice_get (set xs number v) n ≡ Some (Some own) → P n own
set_all P [] number v f h n own e = h n own e
set_all P (x ∷ xs) zero v f h zero own e = let here : v ≡ Some own = cc in f own here
set_all P (x ∷ xs) zero v f h (suc n) own e = h (suc n) own e
set_all P (x ∷ xs) (suc m) v f h zero own e = h zero own e
set_all P (x ∷ xs) (suc m) v f h (suc n) own e = set_all (λ k. P (suc k)) xs m v f (λ k. h (suc k)) n own e

of_some : (P : SortedColumn → Type 0) (v : Option SortedColumn) → IfSome v P → (own : SortedColumn) → v ≡ Some own → P own
of_some P v h own e = let found : IfSome (Some own) P = rw e at h in found

same_block : (query : List ReadyBlock) (number : ℕ) (r : ReadyBlock) → slice_get query number ≡ Some r → (P : ReadyBlock → Type 0) → P r → OfBlock query number P
same_block query number r e P h other f = let same : r ≡ other = cc in subst P same h

pub one_sorted : (query : List ReadyBlock) (xs : List (Option SortedColumn)) (number : ℕ) (r : ReadyBlock) (v : Option SortedColumn) → slice_get query number ≡ Some r → IfSome v (IsSortedColumn r.source)
    → AreSorted query xs → AreSorted query (set xs number v)
one_sorted query xs number r v there is are =
    set_all (λ n own. OfBlock query n (λ b. IsSortedColumn b.source own)) xs number v
    (λ own e. same_block query number r there (λ b. IsSortedColumn b.source own) (of_some (IsSortedColumn r.source) v is own e)) are

-- ---- that of a block

pub sorted_for : (query : List ReadyBlock) (sorted : List (Option SortedColumn)) (number : ℕ) (r : ReadyBlock) → slice_get query number ≡ Some r → AreSorted query sorted
    → (found : Option (Bor SortedColumn)) → IfSome found (λ own. slice_get sorted number ≡ Some (Some own.now)) → IfSome found (λ own. IsSortedColumn r.source own.now)
sorted_for query sorted number r there are None h = tt
sorted_for query sorted number r there are (Some own) h = are number own.now h r there
