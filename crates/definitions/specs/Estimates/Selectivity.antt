-- Selectivity: the share of rows on which a condition is taken to be true, in millionths (Selinger et al. 1979, table
-- 1; some numbers are own).
use Rattle.std.specs.Prelude.{ℕ, ◌*◌, min, max, List, [], ◌∷◌, Option, Some, None, length, fold, option_map}
use Rattle.std.specs.Prelude.{option_and_then, unwrap_or}
use Rattle.definitions.specs.Statement.{ComparisonOperator, Equals, NotEquals, LessThan, GreaterThan, LessOrEquals}
use Rattle.definitions.specs.Statement.{GreaterOrEquals}
use Rattle.definitions.specs.Table.{KeyRange, Index, Table, Database, index_on}
use Rattle.definitions.specs.Plans.Order.{BlockColumn}
use Rattle.definitions.specs.Plans.Cost.{share}
use Rattle.definitions.specs.Queries.BoundBlock.{Condition, Conditions, NoPart, Part, Compare, IsNull, Between, Like}
use Rattle.definitions.specs.Queries.BoundBlock.{InList, InQuery, Not, And, Or, Block}
use Rattle.definitions.specs.Estimates.BlockTables.{table_at}
use Rattle.definitions.specs.Estimates.Fractions.{million, fraction, rest_of, negated_if, either_of, one_tenth}
use Rattle.definitions.specs.Estimates.Fractions.{one_quarter, one_third, one_half}
use Rattle.definitions.specs.Estimates.Sides.{Side, PlainColumn, KnownNumber, side_of}
use Rattle.definitions.specs.Estimates.KeyRanges.{extent, drawn, part_above, part_below, part_between}

-- one of as many keys as there are; a tenth without an index
abbrev pub one_key : Option ℕ → ℕ
one_key None = one_tenth
one_key (Some keys) = fraction 1 keys

abbrev pub greater_of : Option ℕ → Option ℕ → Option ℕ
greater_of None b = b
greater_of (Some a) None = Some a
greater_of (Some a) (Some b) = Some (max a b)

module _ (db : Database) (block : Block) where
  -- ---- what is known of a column

  -- the index on it alone
  abbrev pub own_index : BlockColumn → Option Index
  own_index column =
      option_and_then (λ (t : Table). index_on t.indexes (column.number ∷ [])) (table_at db block column.table)

  -- how many keys that has, if it is there; one at least (ICARD)
  abbrev pub keys_of : BlockColumn → Option ℕ
  keys_of column = option_map (λ (i : Index). max 1 i.statistics.keys) (own_index column)

  -- the range of its keys, if it is known and has an extent
  abbrev pub range_over : BlockColumn → Option KeyRange
  range_over column = option_and_then extent (option_and_then (λ (i : Index). i.statistics.range) (own_index column))

  -- a part of that range, or else another share
  abbrev pub part_or : BlockColumn → (KeyRange → ℕ) → ℕ → ℕ
  part_or column part other = unwrap_or (option_map part (range_over column)) other

  -- ---- the table, line by line

  -- column1 = column2     one of the keys of the index that has more of them
  -- column = value        one of the keys
  abbrev pub equal_share : Side → Side → ℕ
  equal_share (PlainColumn x _) (PlainColumn y _) = one_key (greater_of (keys_of x) (keys_of y))
  equal_share (PlainColumn x _) _ = one_key (keys_of x)
  equal_share _ (PlainColumn y _) = one_key (keys_of y)
  equal_share _ _ = one_third

  -- column > value        the part of the range above the value
  -- value > column        the part below it
  -- any other >           a third
  abbrev pub greater_share : Side → Side → ℕ
  greater_share (PlainColumn x key_scale) (KnownNumber v scale) =
      part_or x (λ range. part_above range (drawn range key_scale v scale)) one_third
  greater_share (KnownNumber v scale) (PlainColumn x key_scale) =
      part_or x (λ range. part_below range (drawn range key_scale v scale)) one_third
  greater_share _ _ = one_third

  -- a >= b is as a > b, a < b as b > a, and a <> b as NOT a = b
  abbrev pub comparison_share : ComparisonOperator → Side → Side → ℕ
  comparison_share Equals a b = equal_share a b
  comparison_share NotEquals a b = rest_of (equal_share a b)
  comparison_share GreaterThan a b = greater_share a b
  comparison_share GreaterOrEquals a b = greater_share a b
  comparison_share LessThan a b = greater_share b a
  comparison_share LessOrEquals a b = greater_share b a

  -- column BETWEEN value1 AND value2     the part of the range between them
  -- column BETWEEN any other             a quarter
  abbrev pub between_share : Side → Side → Side → ℕ
  between_share (PlainColumn x key_scale) (KnownNumber v v_scale) (KnownNumber w w_scale) =
      part_or x (λ range. part_between range (drawn range key_scale v v_scale)
      (drawn range key_scale w w_scale)) one_quarter
  between_share (PlainColumn x _) _ _ = one_quarter
  between_share _ _ _ = one_third

  -- column IN (list of values)     as many times one key as there are members, NULL too, but at most a half
  abbrev pub list_share : Side → ℕ → ℕ
  list_share (PlainColumn x _) count = min one_half (count * one_key (keys_of x))
  list_share _ count = one_third

  -- column IS NULL                 a tenth
  abbrev pub null_share : Side → ℕ
  null_share (PlainColumn x _) = one_tenth
  null_share _ = one_third

  -- LIKE is a tenth, NOT and what is negated leave the rest, and any other shape is a third; OR and AND take their
  -- parts to be independent
  abbrev mutual
    pub selectivity : Condition → ℕ
    selectivity (Compare op a b) = comparison_share op (side_of a) (side_of b)
    selectivity (Between negated e low high) =
        negated_if negated (between_share (side_of e) (side_of low) (side_of high))
    selectivity (InList negated e members) = negated_if negated (list_share (side_of e) (length members))
    selectivity (IsNull negated e) = negated_if negated (null_share (side_of e))
    selectivity (Like negated e pattern) = negated_if negated one_tenth
    selectivity (InQuery negated e inner) = negated_if negated one_third
    selectivity (Or parts) = fold either_of 0 (selectivities parts)
    selectivity (And parts) = fold share million (selectivities parts)
    selectivity (Not operand) = rest_of (selectivity operand)
    selectivity _ = one_third

    pub selectivities : Conditions → List ℕ
    selectivities NoPart = []
    selectivities (Part part others) = selectivity part ∷ selectivities others
