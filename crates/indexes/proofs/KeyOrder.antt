-- Rows by their keys are totally ordered.
use Rattle.std.proofs.Common.{◌≡◌, ◌≢◌, refl, ℕ, List, [], ◌∷◌, Bool, true, false}
use Rattle.std.specs.Prelude.{◌||◌}
use Rattle.std.specs.Cmp.{IsTotalOrder, on_total, then_total}
use Rattle.std.specs.Ordering.{nat_cmp, ordering_then}
use Rattle.std.specs.declared.cmp.Ordering.{Ordering}
use Rattle.std.specs.declared.cmp.Ordering.TheVariants.{Less, Equal, Greater}
use Rattle.std.proofs.lemmas.Cmp.{nat_cmp_total}
use Rattle.definitions.specs.Key.{key_rank}
use Rattle.definitions.proofs.Ranking.{rank_total}
use Rattle.columns.specs.Cells.{CellList}
use Rattle.columns.specs.Starts.{value_in}
use Rattle.indexes.specs.Keys.{key_in}

abbrev pub row_rank : List CellList → ℕ → ℕ → Ordering
row_rank columns a b = key_rank (key_in columns a) (key_in columns b)

abbrev pub row_order : List CellList → ℕ → ℕ → Ordering
row_order columns a b = ordering_then (row_rank columns a b) (nat_cmp a b)

always_equal : IsTotalOrder (λ (a b : ℕ). Equal)
always_equal = record { antisymm = λ x y. refl; trans = λ x y z h l. h; congr = λ x y z h. refl }

pub rows_ranked : (columns : List CellList) → IsTotalOrder (row_rank columns)
rows_ranked [] = always_equal
rows_ranked (column ∷ columns) = then_total (on_total (value_in column) rank_total) (rows_ranked columns)

pub rows_ordered : (columns : List CellList) → IsTotalOrder (row_order columns)
rows_ordered columns = then_total (rows_ranked columns) nat_cmp_total

-- the first columns are equal, and so the rest decides
pub rank_behind : (order : Ordering) (rest : Ordering) → order ≡ Equal → ordering_then order rest ≡ rest
rank_behind order rest e = rw e refl

pub rank_here : (order : Ordering) (rest : Ordering) → order ≢ Equal → ordering_then order rest ≡ order
rank_here Less rest e = refl
rank_here Equal rest e = absurd (e refl)
rank_here Greater rest e = refl

pub null_behind : (first rest : Bool) → first ≡ false → (first || rest) ≡ rest
null_behind first rest e = rw e refl

pub null_here : (first rest : Bool) → first ≡ true → (first || rest) ≡ true
null_here first rest e = rw e refl
