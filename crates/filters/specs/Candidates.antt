-- Composites to which rows of a table come, and the words that tell of these rows.
use Rattle.std.specs.Prelude.{ℕ, Bool, List, Option, length, set}
use Rattle.definitions.specs.Queries.BoundBlock.{Condition}
use Rattle.definitions.specs.Queries.Evaluation.{Environment}
use Rattle.definitions_execution.specs.Stored.{Composite}
use Rattle.filters.specs.Composites.{numbers_in}
use Rattle.filters.specs.JoinFilters.{all_true_with, met_with, passes_member, true_with, CanCome}
use Rattle.filters.specs.Sources.{block_in, environment_at}
use Rattle.filters.specs.Words.{word_by}
use Rattle.filters.specs.declared.candidate_rows.CandidateRows.{CandidateRows}
use Rattle.filters.specs.declared.comparison.Comparison.{Comparison}
use Rattle.filters.specs.declared.outer_rows.OuterRows.{Ghosts}

-- of the rows that come, the word of those that pass a test
abbrev pub rows_by : {A : Type 0} {g : Ghosts A} → CandidateRows A g → (ℕ → Bool) → ℕ
rows_by c test = word_by test c.first c.count

abbrev pub numbers_of : {A : Type 0} {g : Ghosts A} → CandidateRows A g → Composite
numbers_of c = numbers_in (length (block_in c.source.now).tables) c.from

-- what conditions are evaluated in on the composite with a row
abbrev pub environment_of : {A : Type 0} {g : Ghosts A} → CandidateRows A g → (row : ℕ) → Environment
environment_of {g = g} c row =
    environment_at c.source.now (g.combinations c.around.now) (set (numbers_of c) c.table row)

-- the table is one of a block that is evaluated
abbrev pub CanTest : {A : Type 0} {g : Ghosts A} → CandidateRows A g → Type 0
CanTest {g = g} c = CanCome c.source.now (g.combinations c.around.now) c.table

-- what is true of the composite with a row: a condition, all conditions, a comparison, and that with a member of a list
abbrev pub is_true_of : {A : Type 0} {g : Ghosts A} → CandidateRows A g → Condition → ℕ → Bool
is_true_of {g = g} c = true_with c.source.now (g.combinations c.around.now) (numbers_of c) c.table

abbrev pub are_true_of : {A : Type 0} {g : Ghosts A} → CandidateRows A g → List Condition → ℕ → Bool
are_true_of {g = g} c = all_true_with c.source.now (g.combinations c.around.now) (numbers_of c) c.table

abbrev pub is_met_of : {A : Type 0} {g : Ghosts A} → CandidateRows A g → Comparison → ℕ → Bool
is_met_of {g = g} c = met_with c.source.now (g.combinations c.around.now) (numbers_of c) c.table

abbrev pub is_passed_of : {A : Type 0} {g : Ghosts A} → CandidateRows A g → Option Comparison → ℕ → Bool
is_passed_of {g = g} c = passes_member c.source.now (g.combinations c.around.now) (numbers_of c) c.table
