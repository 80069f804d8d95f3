-- Sets of the tables of columns, if a set can have them all.
use Rattle.std.specs.Prelude.{ℕ, ◌≤◌, nat_lt, Bool, false, if◌then◌else◌, Option, Some, None, fold}
use Rattle.definitions.specs.Limits.{most_from_tables}
use Rattle.definitions.specs.Plans.TableSet.{TableSet, Has, with_table}
use Rattle.definitions.specs.Plans.Order.{SortKey, Order}
use Rattle.definitions.specs.Estimates.BlockTables.{is_within}

abbrev pub reached : Option TableSet → ℕ → Option TableSet
reached None table = None
reached (Some tables) table = if nat_lt table most_from_tables then Some (with_table tables table) else None

abbrev pub key_tables : Option TableSet → Order → Option TableSet
key_tables tables order = fold (λ reach (key : SortKey). reached reach key.column.table) tables order

abbrev pub is_reached : Option TableSet → TableSet → Bool
is_reached None set = false
is_reached (Some tables) set = is_within tables set

-- the tables are those of which something holds; none, where it holds of one that no set has
abbrev pub AreThose : (ℕ → Type 0) → Option TableSet → Type 0
AreThose Those None = (table : ℕ) × (most_from_tables ≤ table) × Those table
AreThose Those (Some tables) = ((table : ℕ) → Has tables table → Those table)
    × ((table : ℕ) → Those table → Has tables table)
