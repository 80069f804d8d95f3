-- The tables and blocks of the worked examples. Their statistics stand as SET STATISTICS writes them; no row is looked
-- at.
use Rattle.std.specs.Prelude.{ℕ, pos, Bool, false, List, [], ◌∷◌, Option, Some, None, map, codes}
use Rattle.definitions.specs.Value.{Integer}
use Rattle.definitions.specs.Statement.{Name, Equals, Nullable}
use Rattle.definitions.specs.Table.{Column, KeyRange, Index, Table, Database}
use Rattle.definitions.specs.Plans.Order.{BlockColumn}
use Rattle.definitions.specs.Plans.Path.{Path, SegmentScan, MatchingScan}
use Rattle.definitions.specs.Plans.Plan.{Plan, Access}
use Rattle.definitions.specs.Plans.Certificate.{StateCost, Certificate}
use Rattle.definitions.specs.Queries.BoundBlock as bound
use Rattle.definitions.specs.Queries.BoundBlock.{ValueExpr, Condition, Item, OrderKey, Block}
use Rattle.definitions.specs.Estimates.Version.{Version}
use Rattle.definitions.specs.Estimates.Paths.{paths_of}
use Rattle.definitions.specs.Estimates.PathCost.{path_cost}

-- ---- tables

abbrev pub integer : Name → Column
integer name = record { name = name; type = Integer; constraint = Nullable }

-- a table of INTEGER columns, of so many rows on so many pages
abbrev pub table_with : Name → List Name → ℕ → ℕ → List Index → Table
table_with name names rows pages indexes =
    record {
      name = name;
      columns = map integer names;
      indexes = indexes;
      rows = [];
      statistics = record { rows = rows; pages = pages };
    }

-- an index that isn't clustered, of so many keys on so many pages
abbrev pub index_with : Bool → List ℕ → ℕ → ℕ → Option KeyRange → Index
index_with unique columns keys pages range =
    record {
      columns = columns;
      unique = unique;
      statistics = record { keys = keys; pages = pages; clustered = false; range = range };
    }

abbrev pub from_to : ℕ → ℕ → Option KeyRange
from_to low high = Some (record { low = pos low; high = pos high })

-- T (A, B) of 1000 rows on 50 pages, an index on A of 100 keys on 5 pages
abbrev pub indexed_table : Bool → Option KeyRange → Table
indexed_table unique range =
    table_with (codes "T") (codes "A" ∷ codes "B" ∷ []) 1000 50 (index_with unique (0 ∷ []) 100 5 range ∷ [])

-- the database of it, not unique
abbrev pub one_index : Option KeyRange → Database
one_index range = indexed_table false range ∷ []

-- T1 (X, P) of 100 rows on 10 pages and T2 (Y, Q) of 1000 rows on 100 pages
abbrev pub two_tables : List Index → Database
two_tables indexes =
    table_with (codes "T1") (codes "X" ∷ codes "P" ∷ []) 100 10 []
    ∷ table_with (codes "T2") (codes "Y" ∷ codes "Q" ∷ []) 1000 100 indexes
    ∷ []

-- ---- expressions

abbrev pub column_at : ℕ → ℕ → BlockColumn
column_at table number = record { table = table; number = number }

-- an INTEGER column
abbrev pub col : ℕ → ℕ → ValueExpr
col table number = bound.Column (column_at table number) Integer

-- a whole number of so many digits
abbrev pub whole : ℕ → ℕ → ValueExpr
whole units digits = bound.Numeral units digits 0

abbrev pub plus : ValueExpr → ValueExpr → ValueExpr
plus x y = bound.Chain x (bound.Operand bound.Plus y bound.NoOperand)

abbrev pub divided_by : ValueExpr → ValueExpr → ValueExpr
divided_by x y = bound.Chain x (bound.Operand bound.Over y bound.NoOperand)

-- ---- conditions

abbrev pub equals : ValueExpr → ValueExpr → Condition
equals x y = bound.Compare Equals x y

abbrev pub parts_of : List Condition → bound.Conditions
parts_of [] = bound.NoPart
parts_of (c ∷ cs) = bound.Part c (parts_of cs)

abbrev pub all_hold : List Condition → Condition
all_hold cs = bound.And (parts_of cs)

abbrev pub some_holds : List Condition → Condition
some_holds cs = bound.Or (parts_of cs)

-- ---- blocks

abbrev pub item : Name → ValueExpr → Item
item name value = record { name = name; value = value }

-- SELECT .. FROM .. WHERE .. ORDER BY ..
abbrev pub select_from : List Item → List ℕ → Option Condition → List OrderKey → Block
select_from items tables condition order =
    record {
      tables = tables;
      distinct = false;
      items = items;
      condition = condition;
      groups = [];
      having = None;
      functions = [];
      order = order;
    }

-- SELECT B FROM T WHERE ..
abbrev pub select_b : Condition → Block
select_b condition = select_from (item (codes "B") (col 0 1) ∷ []) (0 ∷ []) (Some condition) []

-- ---- plans and certificates

abbrev pub scan_of : ℕ → Plan
scan_of table = Access (SegmentScan table)

-- what conjuncts match of the first index of the first table
abbrev pub match_of : List ℕ → Bool → Path
match_of conjuncts backward = MatchingScan 0 0 conjuncts backward

abbrev pub state : ℕ → ℕ → ℕ → StateCost
state tables order cost = record { tables = tables; order = order; cost = cost }

abbrev pub certificate_of : ℕ → List StateCost → Certificate
certificate_of target states = record { target = target; states = states }

-- the costs of the paths of a table where the rows of a set of tables are known
abbrev pub path_costs : Version → Database → Block → ℕ → ℕ → List ℕ
path_costs version db block tables table = map (path_cost db block tables) (paths_of version db block tables table)
