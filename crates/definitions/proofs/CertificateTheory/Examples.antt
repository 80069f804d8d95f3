-- The worked texts.
use Rattle.std.proofs.Common.{◌≡◌, refl, sym, subst, ℕ, List, [], ◌∷◌, ◌++◌, arith, inl, inr, true, false}
use Rattle.std.specs.Prelude.{codes, decimal, ◌+◌, ◌^◌, ◌<◌, ◌≤◌}
use Rattle.definitions.specs.Ended.{Ended, Well, Refused, both_ended}
use Rattle.definitions.specs.Plans.Path.{SegmentScan, IndexScan, MatchingScan}
use Rattle.definitions.specs.Plans.Plan.{Plan, Access, Loop, Merge, Sort}
use Rattle.definitions.specs.Examples.Plans.{two_sorts, two_tables_certificate, two_tables, x_is_y, y_column, scan_of}
use Rattle.definitions.specs.Plans.Order.{ascending}
use Rattle.definitions.specs.Plans.Numbering.{numbered}
use Rattle.definitions.specs.Plans.Certificate.{Certificate, Precedes}
use Rattle.definitions.specs.Estimates.Version.{Version, One, Two, Three}
use Rattle.definitions.specs.Plans.Checking.{Accesses, Joins}
use Rattle.definitions.specs.Certificates.File.{lines_of, own_text, lines_behind, version_of}
use Rattle.definitions.specs.Certificates.Verdicts.{TextVerdict, Passes, FailsAt, IsFaulty, IsTextVerdict, ended_of, block_line, AreTold}
use Rattle.definitions.proofs.PlanTheory.TwoTables.{two_tables_valid, empty_refused, lower_refused}
use Rattle.definitions.specs.Certificates.CertifiedBlock.{CertifiedBlock}
use Rattle.definitions.specs.Certificates.Text.{Written, text_of}
use Rattle.definitions.specs.Certificates.Spelling.{Spells}
use Rattle.definitions.specs.Certificates.Writing.{plan_written}
use Rattle.definitions.proofs.CertificateTheory.Files.{broken_has_no_form}
use Rattle.definitions.specs.Certificates.Fault.{BadForm, HasFault}
use Rattle.definitions.specs.Examples.Certificates.{one_table_block, two_tables_block, claim, OneTableIsSpelled, TwoTablesAreSpelled, two_sorts_text, two_sorts_plan, state, sorts_text, sorted_times, two_columns, three_tables_block, ColumnIsNamed, OrderedIsSpelled, LoopIsSpelled, FaultsOfStates, FaultsOfNumbers, FaultsOfForm, BeginningsHaveNoForm, WordsAreCounted, LaterPathsAreSpelled, OtherPlansAreSpelled, VersionIsPartOfForm, ProductIsSpelled, FilesAreCut, VersionsOfTexts, two_tables_in, RestIsRefused, EarlierSpaceIsNamed, RulesAreNamed, NothingIsRefused}
use Rattle.definitions.proofs.CertificateTheory.Texts.{plain, leading_zero, other_first, misformed, no_number, bad_states, spelled_by}

d1 : decimal 1 ≡ codes "1"
d1 = plain (codes "1") refl

d2 : decimal 2 ≡ codes "2"
d2 = plain (codes "2") refl

d0 : decimal 0 ≡ codes "0"
d0 = plain (codes "0") refl

d20 : decimal 20 ≡ codes "20"
d20 = plain (codes "20") refl

d200 : decimal 200 ≡ codes "200"
d200 = plain (codes "200") refl

d320 : decimal 320 ≡ codes "320"
d320 = plain (codes "320") refl

d2000 : decimal 2000 ≡ codes "2000"
d2000 = plain (codes "2000") refl

d3079 : decimal 3079 ≡ codes "3079"
d3079 = plain (codes "3079") refl

d3080 : decimal 3080 ≡ codes "3080"
d3080 = plain (codes "3080") refl

d13400 : decimal 13400 ≡ codes "13400"
d13400 = plain (codes "13400") refl

abbrev second_column : CertifiedBlock
second_column = record one_table_block { indexes = ((1 ∷ []) ∷ []) ∷ [] }

d3 : decimal 3 ≡ codes "3"
d3 = plain (codes "3") refl

d4 : decimal 4 ≡ codes "4"
d4 = plain (codes "4") refl

d50 : decimal 50 ≡ codes "50"
d50 = plain (codes "50") refl

d160 : decimal 160 ≡ codes "160"
d160 = plain (codes "160") refl

d220 : decimal 220 ≡ codes "220"
d220 = plain (codes "220") refl

d250 : decimal 250 ≡ codes "250"
d250 = plain (codes "250") refl

d560 : decimal 560 ≡ codes "560"
d560 = plain (codes "560") refl

d600 : decimal 600 ≡ codes "600"
d600 = plain (codes "600") refl

d720 : decimal 720 ≡ codes "720"
d720 = plain (codes "720") refl

d1910 : decimal 1910 ≡ codes "1910"
d1910 = plain (codes "1910") refl

d2300 : decimal 2300 ≡ codes "2300"
d2300 = plain (codes "2300") refl

d2320 : decimal 2320 ≡ codes "2320"
d2320 = plain (codes "2320") refl

d_over : decimal (10 ^ 18 + 1) ≡ codes "1000000000000000001"
d_over = plain (codes "1000000000000000001") refl

pub one_table_spelled : OneTableIsSpelled
one_table_spelled = spelled_by one_table_block (codes "CERTIFICATE 1\nBLOCK 1\nPLAN ACCESS(MATCH 1.1/1)\nTARGET 20\nEND\n") (Access (MatchingScan 0 0 (0 ∷ []) false)) (claim 20 []) refl refl refl refl (rw (d1, d20) refl)

pub two_tables_spelled : TwoTablesAreSpelled
two_tables_spelled = spelled_by two_tables_block two_sorts_text two_sorts two_tables_certificate refl refl refl refl (rw (d0, d1, d2, d200, d320, d2000, d3080, d13400) refl)

pub column_named : ColumnIsNamed
column_named = (
  spelled_by second_column (codes "CERTIFICATE 1\nBLOCK 1\nPLAN ACCESS(IDX 1.2)\nTARGET 560\nEND\n") (Access (IndexScan 0 0 false)) (claim 560 []) refl refl refl refl (rw (d1, d2, d560) refl),
  no_number second_column (codes "CERTIFICATE 1\nBLOCK 1\nPLAN ACCESS(IDX 1.1)\nTARGET 560\nEND\n") (record { block = 1; plan = Access (IndexScan 1 1 false); certificate = claim 560 [] }) refl (rw (d1, d560) refl) (λ h. cc),
)

pub ordered_spelled : OrderedIsSpelled
ordered_spelled = spelled_by (record two_tables_block { space = record two_tables { orders = numbered (ascending y_column) (x_is_y ∷ []) [] } })
    (codes "CERTIFICATE 1\nBLOCK 1\nPLAN MERGE(SORT(ACCESS(SEG 1),2),1,SORTED SEG 2)\nTARGET 13400\nSTATE 1 0 200\nSTATE 1 2 320\nSTATE 2 0 2000\nSTATE 2 1 3080\nEND\n")
    (Merge (Sort (scan_of 0) 2) 0 (record { path = SegmentScan 1; sorted = true }))
    (claim 13400 (state 1 0 200 ∷ state 1 2 320 ∷ state 2 0 2000 ∷ state 2 1 3080 ∷ [])) refl refl refl refl (rw (d0, d1, d2, d200, d320, d2000, d3080, d13400) refl)

pub loop_spelled : LoopIsSpelled
loop_spelled = spelled_by (record two_tables_block { indexes = [] ∷ ((0 ∷ []) ∷ []) ∷ [] })
    (codes "CERTIFICATE 1\nBLOCK 1\nPLAN LOOP(ACCESS(SEG 1),MATCH 2.1/1)\nTARGET 2300\nSTATE 1 0 200\nSTATE 1 1 320\nSTATE 2 0 2000\nEND\n")
    (Loop (scan_of 0) (MatchingScan 1 0 (0 ∷ []) false)) (claim 2300 (state 1 0 200 ∷ state 1 1 320 ∷ state 2 0 2000 ∷ [])) refl refl refl refl (rw (d0, d1, d2, d200, d320, d2000, d2300) refl)

-- ---- faults

said : Plan → Certificate → Written
said plan certificate = record { block = 1; plan = plan; certificate = certificate }

merged : ℕ → Plan
merged number = Merge (Sort (Access (SegmentScan 1)) 1) number (record { path = SegmentScan 2; sorted = true })

pub faults_of_states : FaultsOfStates
unfolding said merged
faults_of_states = (
  bad_states two_tables_block _ (said (merged 1) (claim 13400 (state 1 0 200 ∷ state 1 0 200 ∷ state 1 1 320 ∷ state 2 0 2000 ∷ state 2 2 3080 ∷ [])))
      refl (rw (d0, d1, d2, d200, d320, d2000, d3080, d13400) refl) refl (λ h. twice (h.0.0 0 (state 1 0 200) (omega arith))),
  bad_states two_tables_block _ (said (merged 1) (claim 13400 (state 1 0 13400 ∷ state 1 1 320 ∷ state 2 0 2000 ∷ state 2 2 3080 ∷ [])))
      refl (rw (d0, d1, d2, d320, d2000, d3080, d13400) refl) refl (λ h. let k : 13400 < 13400 = h.1 0 (state 1 0 0) (omega arith) in omega (arith, k)),
)
  where
    twice : Precedes (state 1 0 200) (state 1 0 200) → ⊥
    twice (inl h) = omega (arith, h)
    twice (inr h) = omega (arith, h.1)

pub faults_of_numbers : FaultsOfNumbers
unfolding said merged
faults_of_numbers = (
  no_number two_tables_block _ (said (merged 2) (claim 13400 [])) refl (rw (d1, d2, d13400) refl) (λ h. let k : 2 ≤ 1 = h.1.1.1 in omega (arith, k)),
  no_number two_tables_block _ (said (merged 1) (claim 13400 (state 0 0 1 ∷ []))) refl (rw (d0, d1, d2, d13400) refl) (λ h. let k : 0 < 0 = (h.2 0 (state 0 0 0) (omega arith)).0 in omega (arith, k)),
  no_number two_tables_block _ (said (merged 1) (claim 13400 (state 1 0 200 ∷ state 4 0 1 ∷ []))) refl (rw (d0, d1, d2, d4, d200, d13400) refl) (λ h. let k : 4 ≤ 3 = (h.2 1 (state 0 0 0) (omega arith)).1 in omega (arith, k)),
  no_number two_tables_block _ (said (merged 1) (claim 13400 (state 1 2 320 ∷ []))) refl (rw (d1, d2, d320, d13400) refl) (λ h. let k : 0 ≡ 1 = (h.2 0 (state 0 0 0) (omega arith)).2.1 0 (record { column = y_column; descending = false }) (omega arith) in omega (arith, k)),
  no_number two_tables_block _ (record { block = 2; plan = Access (SegmentScan 1); certificate = claim 200 [] }) refl (rw (d1, d2, d200) refl) (λ h. let k : 2 ≡ 1 = h.0 in omega (arith, k)),
)

pub faults_of_form : FaultsOfForm
unfolding said merged
faults_of_form = (
  leading_zero two_tables_block (codes "CERTIFICATE 1\nBLOCK 1\nPLAN ACCESS(SEG 1)\nTARGET 013400\nEND\n") (codes "CERTIFICATE 1\nBLOCK 1\nPLAN ACCESS(SEG 1)\nTARGET 13400\nEND\n")
      (record { block = 1; plan = Access (SegmentScan 1); certificate = claim 13400 [] }) refl (rw (d1, d13400) refl) (rw (d1, d13400) refl) refl,
  misformed 64 (omega arith) One two_tables_block (two_sorts_plan ++ codes "TARGET 1000000000000000001\nEND\n") (said (merged 1) (claim (10 ^ 18 + 1) []))
      (omega arith) refl refl (omega arith) refl refl (rw (d1, d2, d_over) refl),
  other_first two_tables_block (codes "CERTIFICATE 1\r\nBLOCK 1\r\nPLAN ACCESS(SEG 1)\r\nTARGET 13400\r\nEND\r\n") refl,
)

pub beginnings : BeginningsHaveNoForm
beginnings n lt = broken_has_no_form two_tables_block two_sorts_text two_tables_spelled.said two_tables_spelled.says n lt

-- ---- words

abbrev matched : Plan
matched = Access (MatchingScan 0 0 (0 ∷ []) false)

words_fit : Spells one_table_block (sorts_text 63) (sorted_times 63 matched) (claim 1910 (state 1 0 20 ∷ []))
words_fit = spelled_by one_table_block (sorts_text 63) (sorted_times 63 matched) (claim 1910 (state 1 0 20 ∷ [])) refl refl refl refl (rw (d0, d1, d20, d1910) refl)

abbrev too_long : Written
too_long = record { block = 1; plan = plan_written one_table_block (sorted_times 64 matched); certificate = claim 1910 (state 1 0 20 ∷ []) }

too_long_text : text_of One too_long ≡ sorts_text 64
too_long_text = rw (d0, d1, d20, d1910) refl

words_over : HasFault one_table_block (sorts_text 64) BadForm
words_over = misformed 65 (omega arith) One one_table_block (sorts_text 64) too_long (omega arith) refl refl (omega arith) refl refl too_long_text

pub words_counted : WordsAreCounted
words_counted = (words_fit, words_over)

-- ---- later versions

pub later_paths : LaterPathsAreSpelled
later_paths = (
  spelled_by two_columns _ (Access (MatchingScan 0 0 (0 ∷ []) true)) (claim 160 []) refl refl refl refl (rw (d1, d2, d160) refl),
  spelled_by two_columns _ (Access (MatchingScan 0 0 (0 ∷ 1 ∷ []) false)) (claim 20 []) refl refl refl refl (rw (d1, d2, d20) refl),
  misformed 64 (omega arith) Two (record two_columns { version = One }) (codes "CERTIFICATE 1\nBLOCK 1\nPLAN ACCESS(MATCH 1.1/1 BACK)\nTARGET 160\nEND\n")
      (record { block = 1; plan = Access (MatchingScan 1 1 (1 ∷ []) true); certificate = claim 160 [] }) (omega arith) refl refl (omega arith) refl refl (rw (d1, d160) refl),
  misformed 64 (omega arith) Two (record two_columns { version = One }) (codes "CERTIFICATE 1\nBLOCK 1\nPLAN ACCESS(MATCH 1.1/1/2)\nTARGET 20\nEND\n")
      (record { block = 1; plan = Access (MatchingScan 1 1 (1 ∷ 2 ∷ []) false); certificate = claim 20 [] }) (omega arith) refl refl (omega arith) refl refl (rw (d1, d2, d20) refl),
  no_number (record two_columns { version = One }) (codes "CERTIFICATE 1\nBLOCK 1\nPLAN ACCESS(MATCH 1.1/1)\nTARGET 160\nEND\n") (record { block = 1; plan = Access (MatchingScan 1 1 (1 ∷ []) false); certificate = claim 160 [] }) refl (rw (d1, d160) refl) (λ h. cc),
)

pub other_plans : OtherPlansAreSpelled
other_plans = (
  spelled_by two_columns _ (Sort (scan_of 0) 0) (claim 20 []) refl refl refl refl (rw (d0, d1, d2, d20) refl),
  spelled_by two_columns _ (Access (MatchingScan 0 0 (0 ∷ 1 ∷ 0 ∷ []) false)) (claim 20 []) refl refl refl refl (rw (d1, d2, d20) refl),
)

pub version_in_form : VersionIsPartOfForm
version_in_form = (
  other_first two_columns _ refl,
  spelled_by (record two_columns { version = One }) _ (Sort (scan_of 0) 1) (claim 720 (state 1 0 600 ∷ [])) refl refl refl refl (rw (d0, d1, d600, d720) refl),
)

pub product_spelled : ProductIsSpelled
product_spelled =
    spelled_by three_tables_block _ (Loop (Loop (scan_of 0) (SegmentScan 1)) (MatchingScan 2 0 (0 ∷ 1 ∷ []) false))
    (claim 2320 (state 1 0 20 ∷ state 1 1 50 ∷ state 2 0 20 ∷ state 2 3 50 ∷ state 3 0 220 ∷ state 3 1 250 ∷ state 3 3 250 ∷ []))
    refl refl refl refl (rw (d0, d1, d2, d3, d20, d50, d220, d250, d2320) refl)

pub files_cut : FilesAreCut
files_cut = (refl, refl, refl, refl, refl)

pub versions : VersionsOfTexts
versions = (rw d1 refl, rw (d1, d2) refl, rw d1 refl, refl, rw (d1, d2) refl, rw (d1, d2) refl, refl)

-- ---- what is told

told_as : (current : Version) (block_in : Version → CertifiedBlock) (lines : List (List ℕ)) (version : Version) → version_of current lines ≡ version
    → (told : TextVerdict) (rest : List ℕ) (later : Ended) (text : List ℕ) (ended : Ended) → IsTextVerdict (block_in version) (own_text lines) told
    → AreTold current [] (lines_behind lines) rest later → block_line current (block_in version) told ++ rest ≡ text → both_ended (ended_of told) later ≡ ended
    → AreTold current (block_in ∷ []) lines text ended
told_as current block_in lines version e told rest later text ended is behind t w = (
  told,
  rest,
  later,
  subst (λ (v : Version). IsTextVerdict (block_in v) (own_text lines) told) (sym e) is,
  behind,
  subst (λ (v : Version). text ≡ block_line current (block_in v) told ++ rest) (sym e) (sym t),
  sym w,
)

pub rest_refused : RestIsRefused
rest_refused = told_as One two_tables_in (lines_of (two_sorts_text ++ codes "X\n")) One refl Passes (codes "rest refused C1\n") Refused (codes "block 1 pass\nrest refused C1\n") Refused
    (two_sorts, two_tables_certificate, two_tables_spelled, two_tables_valid.0) (refl, refl) (rw d1 refl) refl

is_first : version_of Three (lines_of two_sorts_text) ≡ One
is_first = rw d1 refl

pub space_named : EarlierSpaceIsNamed
space_named = told_as Three two_tables_in (lines_of two_sorts_text) One is_first Passes [] Well (codes "block 1 pass space 1\n") Well
    (two_sorts, two_tables_certificate, two_tables_spelled, two_tables_valid.0) (refl, refl) (rw d1 refl) refl

empty_spelled : Spells two_tables_block (two_sorts_plan ++ codes "TARGET 13400\nEND\n") two_sorts (claim 13400 [])
empty_spelled = spelled_by two_tables_block (two_sorts_plan ++ codes "TARGET 13400\nEND\n") two_sorts (claim 13400 []) refl refl refl refl (rw (d1, d2, d13400) refl)

abbrev lower : Certificate
lower = claim 13400 (state 1 0 200 ∷ state 1 1 320 ∷ state 2 0 2000 ∷ state 2 2 3079 ∷ [])

abbrev lower_text : List ℕ
lower_text = two_sorts_plan ++ codes "TARGET 13400\nSTATE 1 0 200\nSTATE 1 1 320\nSTATE 2 0 2000\nSTATE 2 2 3079\nEND\n"

lower_spelled : Spells two_tables_block lower_text two_sorts lower
lower_spelled = spelled_by two_tables_block lower_text two_sorts lower refl refl refl refl (rw (d0, d1, d2, d200, d320, d2000, d3079, d13400) refl)

pub rules_named : RulesAreNamed
rules_named = (
  told_as One two_tables_in (lines_of (two_sorts_plan ++ codes "TARGET 13400\nEND\n")) One refl (FailsAt Accesses) [] Well (codes "block 1 refused K1\n") Refused
      (two_sorts, claim 13400 [], empty_spelled, (1, 0, empty_refused)) (refl, refl) (rw d1 refl) refl,
  told_as One two_tables_in (lines_of lower_text) One refl (FailsAt Joins) [] Well (codes "block 1 refused K2\n") Refused
      (two_sorts, lower, lower_spelled, (2, 2, lower_refused)) (refl, refl) (rw d1 refl) refl,
)

pub nothing_refused : NothingIsRefused
nothing_refused = told_as Three two_tables_in (lines_of []) Three refl (IsFaulty BadForm) [] Well (codes "block 1 refused C1\n") Refused
    (other_first (two_tables_in Three) [] refl) (refl, refl) (rw d1 refl) refl
