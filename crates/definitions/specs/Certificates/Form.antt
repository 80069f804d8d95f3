-- What can be written in a certificate, whatever block it is of (own).
use Rattle.std.specs.Prelude.{ℕ, ◌+◌, ◌≡◌, List, [], ◌∷◌, Bool, true, false, not, ◌&&◌, nat_le, IsTrue}
use Rattle.std.specs.List.{list_all}
use Rattle.definitions.specs.Plans.Path.{Path, SegmentScan, IndexScan, MatchingScan}
use Rattle.definitions.specs.Plans.Plan.{Plan, Access, Loop, Merge, Sort}
use Rattle.definitions.specs.Plans.Cost.{limit}
use Rattle.definitions.specs.Plans.Certificate.{StateCost}
use Rattle.definitions.specs.Estimates.Version.{Version, One}
use Rattle.definitions.specs.Certificates.Text.{Written, text_of}

-- no number is above 10^18
abbrev pub is_number : ℕ → Bool
is_number n = nat_le n limit

-- in version 1 each index is read forward, and matched by one conjunct
abbrev pub is_direction : Version → (backward : Bool) → Bool
is_direction One backward = not backward
is_direction _ backward = true

abbrev pub is_match : Version → List ℕ → Bool
is_match version [] = false
is_match One (number ∷ other ∷ numbers) = false
is_match version (number ∷ numbers) = is_number number && list_all is_number numbers

abbrev pub is_path : Version → Path → Bool
is_path version (SegmentScan table) = is_number table
is_path version (IndexScan table index backward) = is_number table && is_number index && is_direction version backward
is_path version (MatchingScan table index conjuncts backward) =
    is_number table && is_number index && is_match version conjuncts && is_direction version backward

abbrev pub is_plan : Version → Plan → Bool
is_plan version (Access path) = is_path version path
is_plan version (Loop outer path) = is_plan version outer && is_path version path
is_plan version (Merge outer conjunct inner) = is_plan version outer && is_number conjunct && is_path version inner.path
is_plan version (Sort input order) = is_plan version input && is_number order

-- the words ACCESS, LOOP, MERGE and SORT of a plan
abbrev pub word_count : Plan → ℕ
word_count (Access path) = 1
word_count (Loop outer path) = word_count outer + 1
word_count (Merge outer conjunct inner) = word_count outer + 1
word_count (Sort input order) = word_count input + 1

abbrev pub word_limit : ℕ
word_limit = 64

abbrev pub is_state : StateCost → Bool
is_state state = is_number state.tables && is_number state.order && is_number state.cost

abbrev pub has_form : Version → Written → Bool
has_form version written =
    is_number written.block && is_plan version written.plan && nat_le (word_count written.plan) word_limit
    && is_number written.certificate.target && list_all is_state written.certificate.states

-- the bytes say that, in the form of a version
abbrev pub Says : Version → List ℕ → Written → Type 0
Says version bytes said = IsTrue (has_form version said) × (bytes ≡ text_of version said)
