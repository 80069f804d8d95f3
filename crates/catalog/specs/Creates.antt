-- Columns of a new table, and its indexes.
use Rattle.std.specs.Prelude.{◌<◌, ◌≤◌, List, [], length, map, ⊤}
use Rattle.std.specs.List.{AllByRecursion}
use Rattle.definitions.specs.Limits.{most_columns, most_indexes}
use Rattle.definitions.specs.Value.{IsType}
use Rattle.definitions.specs.Statement.{ColumnDefinition}
use Rattle.definitions.specs.Table.{Column, Index, AreDistinct, is_key, is_primary}
use Rattle.definitions.specs.Statistics.{index_statistics}
use Rattle.definitions.specs.Faults.{count_of, definition_names}
use Rattle.definitions.specs.Lists.{AnyOf}
use Rattle.loading.specs.Stored.{StoredColumn, named}
use Rattle.catalog.specs.declared.fault.CreateFault.{CreateFault}
use Rattle.catalog.specs.declared.fault.CreateFault.TheVariants as c

-- every type is one that columns may have
abbrev pub AreTypes : List ColumnDefinition → Type 0
AreTypes = AllByRecursion (λ (d : ColumnDefinition). IsType d.type)

-- why columns are not made: one has no type, or memory was wanting
abbrev pub RefusesTypes : List ColumnDefinition → CreateFault → Type 0
RefusesTypes definitions (c.Type column fault) = AnyOf (λ (d : ColumnDefinition). ¬ (IsType d.type)) definitions
RefusesTypes definitions c.Memory = ⊤
RefusesTypes definitions _ = ⊥

-- definitions that a table may have, whatever their types
pub record AreJudged (definitions : List ColumnDefinition) : Type 0 where
  pub narrow : length definitions ≤ most_columns
  pub distinct : AreDistinct (definition_names definitions)
  pub keys : count_of is_key definitions ≤ most_indexes
  pub primary : count_of is_primary definitions ≤ 1

abbrev pub RefusesDefinitions : List ColumnDefinition → CreateFault → Type 0
RefusesDefinitions definitions c.ManyColumns = most_columns < length definitions
RefusesDefinitions definitions (c.ColumnTwice column) = ¬ (AreDistinct (definition_names definitions))
RefusesDefinitions definitions c.ManyKeys = most_indexes < count_of is_key definitions
RefusesDefinitions definitions (c.TwoPrimaryKeys column) = 1 < count_of is_primary definitions
RefusesDefinitions definitions _ = ⊥

-- a column that a definition makes, without values
abbrev pub empty_column : ColumnDefinition → StoredColumn
empty_column d = named d.name d.constraint (record { type = d.type; values = [] })

-- indexes with their statistics counted over no rows
abbrev pub without_rows : List Column → List Index → List Index
without_rows columns = map (λ (i : Index). record i { statistics = index_statistics columns [] i.columns })
