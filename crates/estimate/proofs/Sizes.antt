-- The sizes of the tables of a block.
use Rattle.std.proofs.Common.{◌≡◌, ◌∙◌, refl, sym, ap, ℕ, zero, suc, ◌<◌, List, [], ◌∷◌, Some, length, map, get_or, arith}
use Rattle.std.specs.Prelude.{slice_get, option_map, unwrap_or}
use Rattle.std.specs.Borrow.{Bor}
use Rattle.definitions.specs.Table.{Table, Database}
use Rattle.definitions.specs.Statistics.{row_width}
use Rattle.definitions.specs.Queries.BoundBlock.{Block}
use Rattle.definitions.specs.Estimates.BlockTables.{statistic_at, rows_at}
use Rattle.estimate.specs.Tables.{tables_of, AreTablesOf}
use Rattle.estimate.specs.Sizes.{Size, size_in, size_of_table, sizes_of}
use Rattle.estimate.specs.declared.table_size.TableSize.{TableSize}

pub there : (tables : List (Bor Table)) (k : ℕ) (t : Bor Table) → k < length tables → t ≡ get_or tables k t → slice_get (tables_of tables) k ≡ Some t.now
there [] k t h e = absurd (omega (arith, h))
there (u ∷ us) zero t h e = let same : t ≡ u = e in ap (λ (x : Bor Table). Some x.now) (sym same)
there (u ∷ us) (suc k) t h e = there us k t (omega (arith, h)) e

measured : (sizes : List TableSize) (tables : List (Bor Table)) (k : ℕ) (s : TableSize) → map size_in sizes ≡ sizes_of tables → k < length sizes → s ≡ get_or sizes k s
    → (t : Table) × (slice_get (tables_of tables) k ≡ Some t) × (size_in s ≡ size_of_table t)
measured [] tables k s e h i = absurd (omega (arith, h))
measured (z ∷ zs) [] k s e h i = absurd cc
measured (z ∷ zs) (t ∷ ts) zero s e h i =
    let same : s ≡ z = i in
    let size : size_in z ≡ size_of_table t.now = cc in
    (t.now, refl, ap size_in same ∙ size)
measured (z ∷ zs) (t ∷ ts) (suc k) s e h i = let rest : map size_in zs ≡ sizes_of ts = cc in measured zs ts k s rest (omega (arith, h)) i

module _ (db : Database) (block : Block) (sizes : List TableSize) (tables : List (Bor Table)) (k : ℕ) (s : TableSize) (are : AreTablesOf db block (tables_of tables)) (same : map size_in sizes ≡ sizes_of tables)
    (h : k < length sizes) (i : s ≡ get_or sizes k s) where
  statistic_told : (statistic : Table → ℕ) (told : Size → ℕ) → ((t : Table) → told (size_of_table t) ≡ statistic t) → told (size_in s) ≡ statistic_at db block statistic k
  statistic_told statistic told is =
      let (t, at, size) = measured sizes tables k s same h i in
      ap told size ∙ is t ∙ ap (λ o. unwrap_or (option_map statistic o) 0) (sym at ∙ are k)

  pub rows_told : s.rows ≡ rows_at db block k
  rows_told = statistic_told (λ t. t.statistics.rows) (λ z. z.0) (λ t. refl)

  pub width_told : s.width ≡ statistic_at db block (λ (t : Table). row_width t.columns) k
  width_told = statistic_told (λ t. row_width t.columns) (λ z. z.1) (λ t. refl)
