-- The paths of a table where the rows of a set of tables are known (Selinger et al. 1979, section 4: a boolean factor
-- matches an index if its column is the next one of the index and the value that it is compared with is known; several
-- columns match as an initial substring).
use Rattle.std.specs.Prelude.{ℕ, nat_eq, Bool, false, not, ◌&&◌, if◌then◌else◌, List, [], ◌∷◌, length, map, filter}
use Rattle.std.specs.Prelude.{flat_map, Option, Some, None, option_map, unwrap_or, slice_get}
use Rattle.std.specs.List.{range_with_len}
use Rattle.definitions.specs.Table.{Database}
use Rattle.definitions.specs.Statement.{ComparisonOperator, Equals, NotEquals, LessThan, GreaterThan, LessOrEquals}
use Rattle.definitions.specs.Statement.{GreaterOrEquals}
use Rattle.definitions.specs.Plans.TableSet.{TableSet}
use Rattle.definitions.specs.Plans.Order.{BlockColumn}
use Rattle.definitions.specs.Plans.Path.{Path, SegmentScan, IndexScan, MatchingScan}
use Rattle.definitions.specs.Queries.BoundBlock.{ValueExpr, Condition, Compare, Between, Block}
use Rattle.definitions.specs.Queries.Conjuncts.{tables_named, conjuncts, is_late}
use Rattle.definitions.specs.Estimates.BlockTables.{has, is_within, index_columns}
use Rattle.definitions.specs.Estimates.Sides.{column_of}
use Rattle.definitions.specs.Estimates.Version.{Version, directions}
use Rattle.definitions.specs.Estimates.Orders.{indexes_at}

-- ---- what a condition says of a column

-- column op value, and column BETWEEN low AND high
pub data ColumnTerm : Type 0 where
  ByComparison : (op : ComparisonOperator) (value : ValueExpr) → ColumnTerm
  ByBounds : (low high : ValueExpr) → ColumnTerm

abbrev pub is_same_column : BlockColumn → BlockColumn → Bool
is_same_column a b = nat_eq a.table b.table && nat_eq a.number b.number

abbrev pub is_column : BlockColumn → ValueExpr → Bool
is_column column e = unwrap_or (option_map (is_same_column column) (column_of e)) false

-- value op column is column op' value
abbrev pub turned : ComparisonOperator → ComparisonOperator
turned LessThan = GreaterThan
turned GreaterThan = LessThan
turned LessOrEquals = GreaterOrEquals
turned GreaterOrEquals = LessOrEquals
turned op = op

abbrev pub column_term : BlockColumn → Condition → Option ColumnTerm
column_term column (Compare op a b) =
    if is_column column a then Some (ByComparison op b)
    else if is_column column b then Some (ByComparison (turned op) a)
    else None
column_term column (Between false e low high) = if is_column column e then Some (ByBounds low high) else None
column_term column _ = None

-- ---- the equalities and ranges among them, by values that are known

-- the value is known before a scan of the table: it is made of rows of the set, and not of the table's own
abbrev pub is_known : TableSet → ℕ → ValueExpr → Bool
is_known tables table e = is_within (tables_named e) tables && not (has (tables_named e) table)

abbrev pub is_range : TableSet → ℕ → ColumnTerm → Bool
is_range tables table (ByComparison NotEquals value) = false
is_range tables table (ByComparison op value) = is_known tables table value
is_range tables table (ByBounds low high) = is_known tables table low && is_known tables table high

abbrev pub is_equality : TableSet → ℕ → ColumnTerm → Bool
is_equality tables table (ByComparison Equals value) = is_known tables table value
is_equality tables table _ = false

-- what a condition says of a column passes a test
abbrev pub says : (ColumnTerm → Bool) → BlockColumn → Condition → Bool
says test column c = unwrap_or (option_map test (column_term column c)) false

module _ (block : Block) where
  -- the conjunct of a number is early and passes a test
  abbrev pub is_early_and : (Condition → Bool) → ℕ → Bool
  is_early_and test number =
      unwrap_or (option_map (λ c. not (is_late c) && test c) (slice_get (conjuncts block) number)) false

  -- it says what the column equals, or in any form what it matches
  abbrev pub equals_at : TableSet → BlockColumn → ℕ → Bool
  equals_at tables column number = is_early_and (says (is_equality tables column.table) column) number

  abbrev pub matches_at : TableSet → BlockColumn → ℕ → Bool
  matches_at tables column number = is_early_and (says (is_range tables column.table) column) number

  -- the numbers of the conjuncts that match a column
  abbrev pub matching : TableSet → BlockColumn → List ℕ
  matching tables column = filter (matches_at tables column) (range_with_len 0 (length (conjuncts block)))

  -- lists of conjuncts that match the first of some columns in turn, one or more, all but the last by `=`
  abbrev pub matching_lists : TableSet → ℕ → List ℕ → List (List ℕ)
  matching_lists tables table [] = []
  matching_lists tables table (number ∷ numbers) =
      flat_map (λ conjunct. (conjunct ∷ []) ∷ (if equals_at tables (record { table = table; number = number }) conjunct
      then map (λ others. conjunct ∷ others) (matching_lists tables table numbers) else []))
      (matching tables (record { table = table; number = number }))

module _ (version : Version) (db : Database) (block : Block) where
  -- an index as a whole, and what is matched of it, in each direction
  abbrev pub index_paths : TableSet → ℕ → ℕ → List Path
  index_paths tables table number =
      flat_map (λ backward. IndexScan table number backward
      ∷ map (λ conjuncts. MatchingScan table number conjuncts backward)
      (matching_lists block tables table (index_columns db block table number)))
      (directions version)

  -- the whole table, and its indexes
  abbrev pub paths_of : TableSet → ℕ → List Path
  paths_of tables table = SegmentScan table ∷ flat_map (index_paths tables table) (indexes_at version db block table)
