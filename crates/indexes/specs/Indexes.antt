-- Indexes of a table.
use Rattle.std.specs.Prelude.{ℕ, ◌≡◌, ◌<◌, ◌≤◌, Bool, true, List, length, map, take, ⊤}
use Rattle.std.specs.List.{AllByRecursion}
use Rattle.definitions.specs.Limits.{most_index_columns}
use Rattle.definitions.specs.Table.{Column, Row, Index}
use Rattle.definitions.specs.Key.{key_of, AreUnique}
use Rattle.definitions.specs.IndexRun.{Entry, IsRun}
use Rattle.definitions.specs.Statistics.{index_statistics}
use Rattle.indexes.specs.Repeats.{IsFirstRepeated}
use Rattle.indexes.specs.declared.unique.UniqueFault.{UniqueFault}
use Rattle.indexes.specs.declared.unique.UniqueFault.TheVariants as u

-- an index with its entries
pub record StoredIndex : Type 0 where
  pub index : Index
  pub entries : List Entry

-- one to four columns of so many
pub record AreIndexColumns (width : ℕ) (numbers : List ℕ) : Type 0 where
  pub some : 0 < length numbers
  pub short : length numbers ≤ most_index_columns
  pub there : AllByRecursion (λ n. n < width) numbers

-- the index on columns of a table's rows, with its statistics counted over them
pub record IsIndexOn (columns : List Column) (rows : List Row) (numbers : List ℕ) (unique : Bool) (i : StoredIndex) :
    Type 0 where
  pub is : i.index ≡ record { columns = numbers; unique = unique; statistics = index_statistics columns rows numbers }
  pub run : IsRun (map (key_of numbers) rows) i.entries
  pub once : unique ≡ true → AreUnique (map (key_of numbers) rows)

-- why there is none: a key comes again, or memory was wanting
abbrev pub RefusesIndexOn : List Row → List ℕ → Bool → UniqueFault → Type 0
RefusesIndexOn rows numbers unique (u.Repeated repeated) = (unique ≡ true)
    × IsFirstRepeated (map (key_of numbers) rows) repeated
RefusesIndexOn rows numbers unique u.Memory = ⊤

-- an index has the first of some rows, as many as its entries
abbrev pub IsBeginning : List Row → StoredIndex → Type 0
IsBeginning rows i = IsRun (map (key_of i.index.columns) (take (length i.entries) rows)) i.entries
