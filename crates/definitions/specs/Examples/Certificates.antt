-- Worked examples: texts of certificates, and texts that have a fault.
use Rattle.std.specs.Prelude.{ℕ, ◌<◌, ◌≡◌, zero, suc, List, [], ◌∷◌, ◌++◌, length, take, true, false, codes}
use Rattle.definitions.specs.Ended.{Well, Refused}
use Rattle.definitions.specs.Plans.Order.{ascending}
use Rattle.definitions.specs.Plans.Path.{SegmentScan, IndexScan, MatchingScan}
use Rattle.definitions.specs.Plans.Plan.{Plan, Access, Loop, Merge, Sort}
use Rattle.definitions.specs.Plans.Space.{Space}
use Rattle.definitions.specs.Plans.Certificate.{StateCost, Certificate}
use Rattle.definitions.specs.Plans.Numbering.{numbered}
use Rattle.definitions.specs.Examples.Plans.{x_column, y_column, x_is_y, two_tables, scan_of, two_sorts}
use Rattle.definitions.specs.Examples.Plans.{two_tables_certificate}
use Rattle.definitions.specs.Estimates.Version.{Version, One, Two, Three}
use Rattle.definitions.specs.Certificates.CertifiedBlock.{CertifiedBlock}
use Rattle.definitions.specs.Certificates.Spelling.{Spells}
use Rattle.definitions.specs.Certificates.Fault.{BadForm, NoSuchNumber, BadStates, HasFault}
use Rattle.definitions.specs.Certificates.File.{lines_of, own_text, lines_behind, version_of}
use Rattle.definitions.specs.Certificates.Verdicts.{AreTold}

abbrev pub state : (tables order cost : ℕ) → StateCost
state tables order cost = record { tables = tables; order = order; cost = cost }

abbrev pub claim : (target : ℕ) → List StateCost → Certificate
claim target states = record { target = target; states = states }

-- ---- one table with an index on its first column, one conjunct

abbrev pub one_table : Space
one_table = record two_tables { table_count = 1; orders = [] ∷ ascending x_column ∷ [] }

abbrev pub one_table_block : CertifiedBlock
one_table_block = record { version = One; number = 0; space = one_table; indexes = ((0 ∷ []) ∷ []) ∷ [] }

-- in version 1 an index is named by its column
abbrev pub OneTableIsSpelled : Type 0
OneTableIsSpelled =
    Spells one_table_block (codes "CERTIFICATE 1\nBLOCK 1\nPLAN ACCESS(MATCH 1.1/1)\nTARGET 20\nEND\n")
    (Access (MatchingScan 0 0 (0 ∷ []) false)) (claim 20 [])

-- here that of the only index is the second
abbrev pub second_indexed_block : CertifiedBlock
second_indexed_block = record one_table_block { indexes = ((1 ∷ []) ∷ []) ∷ [] }

abbrev pub ColumnIsNamed : Type 0
ColumnIsNamed =
    Spells second_indexed_block (codes "CERTIFICATE 1\nBLOCK 1\nPLAN ACCESS(IDX 1.2)\nTARGET 560\nEND\n")
    (Access (IndexScan 0 0 false)) (claim 560 [])
    × HasFault second_indexed_block (codes "CERTIFICATE 1\nBLOCK 1\nPLAN ACCESS(IDX 1.1)\nTARGET 560\nEND\n")
    NoSuchNumber

-- ---- two tables, merged

abbrev pub two_tables_block : CertifiedBlock
two_tables_block = record { version = One; number = 0; space = two_tables; indexes = [] ∷ [] ∷ [] }

abbrev pub two_sorts_text : List ℕ
two_sorts_text =
    codes "CERTIFICATE 1\nBLOCK 1\nPLAN MERGE(SORT(ACCESS(SEG 1),1),1,SORTED SEG 2)\nTARGET 13400\n"
    ++ codes "STATE 1 0 200\nSTATE 1 1 320\nSTATE 2 0 2000\nSTATE 2 2 3080\nEND\n"

abbrev pub TwoTablesAreSpelled : Type 0
TwoTablesAreSpelled = Spells two_tables_block two_sorts_text two_sorts two_tables_certificate

-- with ORDER BY Y the orders have other numbers
abbrev pub two_tables_by_y : Space
two_tables_by_y = record two_tables { orders = numbered (ascending y_column) (x_is_y ∷ []) [] }

abbrev pub OrderedIsSpelled : Type 0
OrderedIsSpelled =
    Spells (record two_tables_block { space = two_tables_by_y })
    (codes "CERTIFICATE 1\nBLOCK 1\nPLAN MERGE(SORT(ACCESS(SEG 1),2),1,SORTED SEG 2)\nTARGET 13400\n"
    ++ codes "STATE 1 0 200\nSTATE 1 2 320\nSTATE 2 0 2000\nSTATE 2 1 3080\nEND\n")
    (Merge (Sort (scan_of 0) 2) 0 (record { path = SegmentScan 1; sorted = true }))
    (claim 13400 (state 1 0 200 ∷ state 1 2 320 ∷ state 2 0 2000 ∷ state 2 1 3080 ∷ []))

-- with an index on the second table a loop matches it
abbrev pub LoopIsSpelled : Type 0
LoopIsSpelled =
    Spells (record two_tables_block { indexes = [] ∷ ((0 ∷ []) ∷ []) ∷ [] })
    (codes "CERTIFICATE 1\nBLOCK 1\nPLAN LOOP(ACCESS(SEG 1),MATCH 2.1/1)\nTARGET 2300\n"
    ++ codes "STATE 1 0 200\nSTATE 1 1 320\nSTATE 2 0 2000\nEND\n")
    (Loop (scan_of 0) (MatchingScan 1 0 (0 ∷ []) false)) (claim 2300 (state 1 0 200 ∷ state 1 1 320 ∷ state 2 0 2000 ∷
    []))

-- ---- texts of the two tables that have a fault

-- the lines before the TARGET of the first text above, and one with other lines behind them
abbrev pub two_sorts_plan : List ℕ
two_sorts_plan = codes "CERTIFICATE 1\nBLOCK 1\nPLAN MERGE(SORT(ACCESS(SEG 1),1),1,SORTED SEG 2)\n"

abbrev pub FaultsOfStates : Type 0
FaultsOfStates =
    -- a state twice
    HasFault two_tables_block (two_sorts_plan
    ++ codes "TARGET 13400\nSTATE 1 0 200\nSTATE 1 0 200\nSTATE 1 1 320\nSTATE 2 0 2000\nSTATE 2 2 3080\nEND\n")
    BadStates
    -- a state at the target
    × HasFault two_tables_block (two_sorts_plan
    ++ codes "TARGET 13400\nSTATE 1 0 13400\nSTATE 1 1 320\nSTATE 2 0 2000\nSTATE 2 2 3080\nEND\n") BadStates

abbrev pub FaultsOfNumbers : Type 0
FaultsOfNumbers =
    -- a second conjunct
    HasFault two_tables_block
    (codes "CERTIFICATE 1\nBLOCK 1\nPLAN MERGE(SORT(ACCESS(SEG 1),1),2,SORTED SEG 2)\nTARGET 13400\nEND\n") NoSuchNumber
    -- no table, and one more than there are
    × HasFault two_tables_block (two_sorts_plan ++ codes "TARGET 13400\nSTATE 0 0 1\nEND\n") NoSuchNumber
    × HasFault two_tables_block (two_sorts_plan ++ codes "TARGET 13400\nSTATE 1 0 200\nSTATE 4 0 1\nEND\n") NoSuchNumber
    -- the order of the second table at the first
    × HasFault two_tables_block (two_sorts_plan ++ codes "TARGET 13400\nSTATE 1 2 320\nEND\n") NoSuchNumber
    -- the second block of the query
    × HasFault two_tables_block (codes "CERTIFICATE 1\nBLOCK 2\nPLAN ACCESS(SEG 1)\nTARGET 200\nEND\n") NoSuchNumber

abbrev pub FaultsOfForm : Type 0
FaultsOfForm =
    -- a leading zero
    HasFault two_tables_block (codes "CERTIFICATE 1\nBLOCK 1\nPLAN ACCESS(SEG 1)\nTARGET 013400\nEND\n") BadForm
    -- 10^18 + 1
    × HasFault two_tables_block (two_sorts_plan ++ codes "TARGET 1000000000000000001\nEND\n") BadForm
    -- CR LF
    × HasFault two_tables_block
    (codes "CERTIFICATE 1\r\nBLOCK 1\r\nPLAN ACCESS(SEG 1)\r\nTARGET 13400\r\nEND\r\n") BadForm

-- a text that breaks off has no form, even before its last byte
abbrev pub BeginningsHaveNoForm : Type 0
BeginningsHaveNoForm = (n : ℕ) → n < length two_sorts_text → HasFault two_tables_block (take n two_sorts_text) BadForm

-- ---- 64 words of a plan, and 65

abbrev pub repeated : ℕ → List ℕ → List ℕ
repeated zero text = []
repeated (suc n) text = text ++ repeated n text

abbrev pub sorted_times : ℕ → Plan → Plan
sorted_times zero plan = plan
sorted_times (suc n) plan = Sort (sorted_times n plan) 1

-- the match of the one table, sorted so many times
abbrev pub sorts_text : ℕ → List ℕ
sorts_text n =
    codes "CERTIFICATE 1\nBLOCK 1\nPLAN " ++ (repeated n (codes "SORT(") ++ (codes "ACCESS(MATCH 1.1/1)"
    ++ (repeated n (codes ",1)") ++ codes "\nTARGET 1910\nSTATE 1 0 20\nEND\n")))

abbrev pub WordsAreCounted : Type 0
WordsAreCounted =
    Spells one_table_block (sorts_text 63) (sorted_times 63 (Access (MatchingScan 0 0 (0 ∷
    []) false))) (claim 1910 (state 1 0 20 ∷ []))
    × HasFault one_table_block (sorts_text 64) BadForm

-- ---- the later versions

-- one table with an index on its first two columns, two conjuncts, and the orders of the index, forward and backward
abbrev pub two_columns : CertifiedBlock
two_columns = record {
  version = Two;
  number = 0;
  indexes = ((0 ∷ 1 ∷ []) ∷ []) ∷ [];
  space =
      record two_tables {
        table_count = 1;
        conjuncts = x_is_y ∷ x_is_y ∷ [];
        orders = [] ∷ ascending x_column ∷ ascending x_column ∷ [];
      };
}

-- the same bytes but for the first line: in version 1 there is no BACK, there is one conjunct in a match, and an index
-- on two columns has no name
abbrev pub LaterPathsAreSpelled : Type 0
LaterPathsAreSpelled =
    Spells two_columns (codes "CERTIFICATE 2\nBLOCK 1\nPLAN ACCESS(MATCH 1.1/1 BACK)\nTARGET 160\nEND\n")
    (Access (MatchingScan 0 0 (0 ∷ []) true)) (claim 160 [])
    × Spells two_columns (codes "CERTIFICATE 2\nBLOCK 1\nPLAN ACCESS(MATCH 1.1/1/2)\nTARGET 20\nEND\n")
    (Access (MatchingScan 0 0 (0 ∷ 1 ∷ []) false)) (claim 20 [])
    × HasFault (record two_columns { version = One })
    (codes "CERTIFICATE 1\nBLOCK 1\nPLAN ACCESS(MATCH 1.1/1 BACK)\nTARGET 160\nEND\n") BadForm
    × HasFault (record two_columns { version = One })
    (codes "CERTIFICATE 1\nBLOCK 1\nPLAN ACCESS(MATCH 1.1/1/2)\nTARGET 20\nEND\n") BadForm
    × HasFault (record two_columns { version = One })
    (codes "CERTIFICATE 1\nBLOCK 1\nPLAN ACCESS(MATCH 1.1/1)\nTARGET 160\nEND\n") NoSuchNumber

-- a plan that is not in the space has its spelling: a sort by the empty order, and more conjuncts in a match than the
-- index has columns
abbrev pub OtherPlansAreSpelled : Type 0
OtherPlansAreSpelled =
    Spells two_columns (codes "CERTIFICATE 2\nBLOCK 1\nPLAN SORT(ACCESS(SEG 1),0)\nTARGET 20\nEND\n")
    (Sort (scan_of 0) 0) (claim 20 [])
    × Spells two_columns (codes "CERTIFICATE 2\nBLOCK 1\nPLAN ACCESS(MATCH 1.1/1/2/1)\nTARGET 20\nEND\n")
    (Access (MatchingScan 0 0 (0 ∷ 1 ∷ 0 ∷ []) false)) (claim 20 [])

-- a text of another version has no form
abbrev pub VersionIsPartOfForm : Type 0
VersionIsPartOfForm =
    HasFault two_columns (codes "CERTIFICATE 1\nBLOCK 1\nPLAN SORT(ACCESS(SEG 1),1)\nTARGET 720\nSTATE 1 0 600\nEND\n")
    BadForm
    × Spells (record two_columns { version = One })
    (codes "CERTIFICATE 1\nBLOCK 1\nPLAN SORT(ACCESS(SEG 1),1)\nTARGET 720\nSTATE 1 0 600\nEND\n")
    (Sort (scan_of 0) 1) (claim 720 (state 1 0 600 ∷ []))

-- three tables, the third with an index on two columns, in version 3
abbrev pub three_tables_block : CertifiedBlock
three_tables_block = record {
  version = Three;
  number = 0;
  indexes = [] ∷ [] ∷ ((0 ∷ 1 ∷ []) ∷ []) ∷ [];
  space = record two_tables {
    table_count = 3;
    conjuncts = x_is_y ∷ x_is_y ∷ [];
    orders =
        [] ∷ ascending (record { table = 0; number = 0 }) ∷ ascending (record {
          table = 2;
          number = 0;
        }) ∷ ascending (record { table = 1; number = 0 }) ∷ [];
  };
}

abbrev pub ProductIsSpelled : Type 0
ProductIsSpelled =
    Spells three_tables_block
    (codes "CERTIFICATE 3\nBLOCK 1\nPLAN LOOP(LOOP(ACCESS(SEG 1),SEG 2),MATCH 3.1/1/2)\nTARGET 2320\n"
    ++ codes "STATE 1 0 20\nSTATE 1 1 50\nSTATE 2 0 20\nSTATE 2 3 50\n"
    ++ codes "STATE 3 0 220\nSTATE 3 1 250\nSTATE 3 3 250\nEND\n")
    (Loop (Loop (scan_of 0) (SegmentScan 1)) (MatchingScan 2 0 (0 ∷ 1 ∷ []) false))
    (claim 2320 (state 1 0 20 ∷ state 1 1 50 ∷ state 2 0 20 ∷ state 2 3 50 ∷ state 3 0 220 ∷ state 3 1 250 ∷
    state 3 3 250 ∷ []))

-- ---- files

-- two texts and what is left; a line that only begins with END ends none
abbrev pub FilesAreCut : Type 0
FilesAreCut =
    (own_text (lines_of (codes "A\nENDS\nEND\nB\nEND\nX\n")) ≡ codes "A\nENDS\nEND\n")
    × (own_text (lines_behind (lines_of (codes "A\nENDS\nEND\nB\nEND\nX\n"))) ≡ codes "B\nEND\n")
    × (own_text (lines_behind (lines_behind (lines_of (codes "A\nENDS\nEND\nB\nEND\nX\n")))) ≡ codes "X\n")
    × (own_text [] ≡ [])
    -- the last line may lack its LF
    × (own_text (lines_of (codes "A\nEND")) ≡ codes "A\nEND")

abbrev pub VersionsOfTexts : Type 0
VersionsOfTexts =
    (version_of Three (lines_of (codes "CERTIFICATE 1\nBLOCK 1\n")) ≡ One)
    × (version_of Three (lines_of (codes "CERTIFICATE 2\n")) ≡ Two)
    × (version_of Two (lines_of (codes "CERTIFICATE 3\n")) ≡ Two)
    × (version_of One (lines_of (codes "CERTIFICATE 2\n")) ≡ One)
    -- without LF, with CR LF, or with nothing at all it is read by the current version
    × (version_of Three (lines_of (codes "CERTIFICATE 1")) ≡ Three)
    × (version_of Three (lines_of (codes "CERTIFICATE 1\r\n")) ≡ Three)
    × (version_of Three (lines_of []) ≡ Three)

-- ---- what is told

abbrev pub two_tables_in : Version → CertifiedBlock
two_tables_in version = record two_tables_block { version = version }

-- the valid text, with a line behind it
abbrev pub RestIsRefused : Type 0
RestIsRefused =
    AreTold One (two_tables_in ∷ []) (lines_of (two_sorts_text
    ++ codes "X\n")) (codes "block 1 pass\nrest refused C1\n") Refused

-- where version 3 is the current one
abbrev pub EarlierSpaceIsNamed : Type 0
EarlierSpaceIsNamed = AreTold Three (two_tables_in ∷ []) (lines_of two_sorts_text) (codes "block 1 pass space 1\n") Well

-- without its states, and then with one of them lowered
abbrev pub RulesAreNamed : Type 0
RulesAreNamed =
    AreTold One (two_tables_in ∷ []) (lines_of (two_sorts_plan
    ++ codes "TARGET 13400\nEND\n")) (codes "block 1 refused K1\n") Refused
    × AreTold One (two_tables_in ∷ []) (lines_of (two_sorts_plan
    ++ codes "TARGET 13400\nSTATE 1 0 200\nSTATE 1 1 320\nSTATE 2 0 2000\nSTATE 2 2 3079\nEND\n"))
    (codes "block 1 refused K2\n") Refused

-- a file of no bytes
abbrev pub NothingIsRefused : Type 0
NothingIsRefused = AreTold Three (two_tables_in ∷ []) (lines_of []) (codes "block 1 refused C1\n") Refused
