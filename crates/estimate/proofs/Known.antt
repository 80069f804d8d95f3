-- What is known of a column, as it decides shares.
use Rattle.std.proofs.Common.{◌≡◌, refl, sym, ap, ℕ, ◌*◌, ◌-◌, ◌^◌, min, Option, Some, None, arith}
use Rattle.std.specs.Prelude.{option_map, unwrap_or}
use Rattle.definitions.specs.Table.{KeyRange, Database}
use Rattle.definitions.specs.Plans.Order.{BlockColumn}
use Rattle.definitions.specs.Queries.BoundBlock.{Block}
use Rattle.definitions.specs.Estimates.Fractions.{one_half, one_third}
use Rattle.definitions.specs.Estimates.Sides.{Side, PlainColumn, KnownNumber, OtherValue}
use Rattle.definitions.specs.Estimates.Selectivity.{equal_share, greater_of, keys_of, one_key, part_or, range_over}

-- a part of a range that is known
pub part_known : (db : Database) (block : Block) (column : BlockColumn) (part : KeyRange → ℕ) (other : ℕ) (range : KeyRange) → Some range ≡ range_over db block column → part_or db block column part other ≡ part range
part_known db block column part other range e = sym (ap (λ (o : Option KeyRange). unwrap_or (option_map part o) other) e)

-- the column that a side is
abbrev pub column_in : Side → Option BlockColumn
column_in (PlainColumn column scale) = Some column
column_in _ = None

-- `=` goes by the columns that its sides are
abbrev pub by_columns : Database → Block → Option BlockColumn → Option BlockColumn → ℕ
by_columns db block (Some x) (Some y) = one_key (greater_of (keys_of db block x) (keys_of db block y))
by_columns db block (Some x) None = one_key (keys_of db block x)
by_columns db block None (Some y) = one_key (keys_of db block y)
by_columns db block None None = one_third

pub equal_by_columns : (db : Database) (block : Block) (a b : Side) → equal_share db block a b ≡ by_columns db block (column_in a) (column_in b)
equal_by_columns db block (PlainColumn x m) (PlainColumn y n) = refl
equal_by_columns db block (PlainColumn x m) (KnownNumber v n) = refl
equal_by_columns db block (PlainColumn x m) OtherValue = refl
equal_by_columns db block (KnownNumber u m) (PlainColumn y n) = refl
equal_by_columns db block (KnownNumber u m) (KnownNumber v n) = refl
equal_by_columns db block (KnownNumber u m) OtherValue = refl
equal_by_columns db block OtherValue (PlainColumn y n) = refl
equal_by_columns db block OtherValue (KnownNumber v n) = refl
equal_by_columns db block OtherValue OtherValue = refl

-- so many times a key, at most a half
pub at_most_half : (members key product share : ℕ) → product ≡ min (members * key) (2 ^ 64 - 1) → share ≡ min product one_half → share ≡ min one_half (members * key)
at_most_half members key product share e f = omega (arith, e, f)
