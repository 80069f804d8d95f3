-- What a matching scan opens of an index on two columns. T (A, B): 1, 1; 1, 3; 2, 9; null, 5; 1, null; 1, 4. WHERE A =
-- 1 AND 2 < B, and WHERE A = 1 AND B BETWEEN 3 AND 4.
use Rattle.std.specs.Prelude.{◌≡◌, false, true, [], ◌∷◌, Some, None, codes}
use Rattle.definitions.specs.Value.{Null}
use Rattle.definitions.specs.Statement.{LessThan}
use Rattle.definitions.specs.Table.{Database}
use Rattle.definitions.specs.IndexRun.{Unlimited, Inclusive, Exclusive, entry_rows, equal_part, range_part}
use Rattle.definitions.specs.Plans.TableSet.{no_tables}
use Rattle.definitions.specs.Plans.Path.{MatchingScan}
use Rattle.definitions.specs.Plans.PlanSpace.{IsPath}
use Rattle.definitions.specs.Queries.BoundBlock.{Condition, Compare, Between, Block}
use Rattle.definitions.specs.Estimates.Version.{Two}
use Rattle.definitions.specs.Estimates.BlockSpace.{space_of}
use Rattle.definitions.specs.Examples.Estimates.Setups.{index_with, col, whole, equals, all_hold, select_from}
use Rattle.definitions_execution.specs.Running.{run}
use Rattle.definitions_execution.specs.OfBlock.{index_run, stored_of}
use Rattle.definitions_execution.specs.Asking.{EqualTo, InRange}
use Rattle.definitions_execution.specs.PathAsks.{AreAsked}
use Rattle.definitions_execution.specs.Examples.TwoTables.{number, filled, alone_in}

abbrev pub two_columns : Database
two_columns =
    filled (codes "T") (codes "A" ∷ codes "B" ∷ []) (index_with false (0 ∷ 1 ∷ []) 5 1 None ∷ [])
    ((number 1 ∷ number 1 ∷ []) ∷ (number 1 ∷ number 3 ∷ []) ∷ (number 2 ∷ number 9 ∷ []) ∷ (Null ∷ number 5 ∷ []) ∷
    (number 1 ∷ Null ∷ []) ∷ (number 1 ∷ number 4 ∷ []) ∷ []) ∷ []

abbrev pub one_and : Condition → Block
one_and condition = select_from [] (0 ∷ []) (Some (all_hold (equals (col 0 0) (whole 1 1) ∷ condition ∷ []))) []

abbrev pub above_two : Block
above_two = one_and (Compare LessThan (whole 2 1) (col 0 1))

abbrev pub three_to_four : Block
three_to_four = one_and (Between false (col 0 1) (whole 3 1) (whole 4 1))

-- by key, null first
abbrev pub RunByKey : Type 0
RunByKey = entry_rows (index_run two_columns above_two 0 0) ≡ 3 ∷ 4 ∷ 0 ∷ 1 ∷ 5 ∷ 2 ∷ []

-- A = 1 alone opens four rows, and neither range the null
abbrev pub MatchedRows : Type 0
MatchedRows =
    (run (stored_of (alone_in two_columns) above_two) (MatchingScan 0 0 (0 ∷ []) false) (0 ∷ []) ≡ 4 ∷ 0 ∷ 1 ∷ 5 ∷ [])
    × (run (stored_of (alone_in two_columns) above_two) (MatchingScan 0 0 (0 ∷ 1 ∷ []) false) (0 ∷ []) ≡ 1 ∷ 5 ∷ [])
    × (run (stored_of (alone_in two_columns) three_to_four) (MatchingScan 0 0 (0 ∷ 1 ∷ []) true) (0 ∷ []) ≡ 5 ∷ 1 ∷ [])

-- which are the parts that the conjuncts ask for
abbrev pub MatchedParts : Type 0
MatchedParts =
    (entry_rows (equal_part (number 1 ∷ []) (index_run two_columns above_two 0 0)) ≡ 4 ∷ 0 ∷ 1 ∷ 5 ∷ [])
    × (entry_rows (range_part (number 1 ∷ []) (Exclusive (number 2)) Unlimited (index_run two_columns above_two 0 0))
    ≡ 1 ∷ 5 ∷ [])
    × AreAsked (alone_in two_columns) above_two (0 ∷ []) 0 (0 ∷ 1 ∷ []) (0 ∷ 1 ∷ []) (EqualTo (number 1) ∷
    InRange (Exclusive (number 2)) Unlimited ∷ [])
    × AreAsked (alone_in two_columns) three_to_four (0 ∷ []) 0 (0 ∷ 1 ∷ []) (0 ∷ 1 ∷ []) (EqualTo (number 1) ∷
    InRange (Inclusive (number 3)) (Inclusive (number 4)) ∷ [])

-- and the paths are of the block's space
abbrev pub MatchesArePaths : Type 0
MatchesArePaths = IsPath (space_of Two two_columns above_two) no_tables (MatchingScan 0 0 (0 ∷ 1 ∷ []) false)
    × IsPath (space_of Two two_columns three_to_four) no_tables (MatchingScan 0 0 (0 ∷ 1 ∷ []) true)
