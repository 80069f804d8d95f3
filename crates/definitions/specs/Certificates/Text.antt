-- The text of a certificate (own). Here the numbers stand as they are written; what they mean is said in Spelling.
use Rattle.std.specs.Prelude.{ℕ, List, [], ◌∷◌, ◌++◌, Bool, true, false, codes, decimal, flat_map}
use Rattle.definitions.specs.Printing.{line}
use Rattle.definitions.specs.Plans.Path.{Path, SegmentScan, IndexScan, MatchingScan}
use Rattle.definitions.specs.Plans.Plan.{Plan, Access, Loop, Merge, Sort}
use Rattle.definitions.specs.Plans.Certificate.{StateCost, Certificate}
use Rattle.definitions.specs.Estimates.Version.{Version, One, Two, Three}

-- what a text says, with the numbers that stand there
pub record Written : Type 0 where
  pub block : ℕ
  pub plan : Plan
  pub certificate : Certificate

abbrev pub conjuncts_text : List ℕ → List ℕ
conjuncts_text [] = []
conjuncts_text (number ∷ numbers) = codes "/" ++ decimal number ++ conjuncts_text numbers

abbrev pub direction_text : (backward : Bool) → List ℕ
direction_text false = []
direction_text true = codes " BACK"

abbrev pub path_text : Path → List ℕ
path_text (SegmentScan table) = codes "SEG " ++ decimal table
path_text (IndexScan table index backward) =
    codes "IDX " ++ decimal table ++ codes "." ++ decimal index ++ direction_text backward
path_text (MatchingScan table index conjuncts backward) =
    codes "MATCH " ++ decimal table ++ codes "." ++ decimal index ++ conjuncts_text conjuncts ++ direction_text backward

abbrev pub sorted_text : (sorted : Bool) → List ℕ
sorted_text false = []
sorted_text true = codes "SORTED "

abbrev pub plan_text : Plan → List ℕ
plan_text (Access path) = codes "ACCESS(" ++ path_text path ++ codes ")"
plan_text (Loop outer path) = codes "LOOP(" ++ plan_text outer ++ codes "," ++ path_text path ++ codes ")"
plan_text (Merge outer conjunct inner) =
    codes "MERGE(" ++ plan_text outer ++ codes "," ++ decimal conjunct ++ codes ","
    ++ sorted_text inner.sorted ++ path_text inner.path ++ codes ")"
plan_text (Sort input order) = codes "SORT(" ++ plan_text input ++ codes "," ++ decimal order ++ codes ")"

abbrev pub state_line : StateCost → List ℕ
state_line state =
    line (codes "STATE " ++ decimal state.tables ++ codes " " ++ decimal state.order ++ codes " " ++ decimal state.cost)

-- a text names the version of the plan space that it speaks of
abbrev pub number_of_version : Version → ℕ
number_of_version One = 1
number_of_version Two = 2
number_of_version Three = 3

abbrev pub first_line : Version → List ℕ
first_line version = line (codes "CERTIFICATE " ++ decimal (number_of_version version))

abbrev pub end_line : List ℕ
end_line = line (codes "END")

abbrev pub text_of : Version → Written → List ℕ
text_of version written =
    first_line version
    ++ line (codes "BLOCK " ++ decimal written.block)
    ++ line (codes "PLAN " ++ plan_text written.plan)
    ++ line (codes "TARGET " ++ decimal written.certificate.target)
    ++ flat_map state_line written.certificate.states
    ++ end_line
