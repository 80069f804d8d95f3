-- The blocks of a statement that are ready to be evaluated.
use Rattle.std.specs.Prelude.{ℕ, ◌<◌, ◌≡◌, sum_by, List, [], ◌∷◌, Option, None, Some, length, map, slice_get}
use Rattle.std.specs.Prelude.{IsPermutation}
use Rattle.definitions.specs.Arithmetic.{Meaning}
use Rattle.definitions.specs.Table.{Database, Row}
use Rattle.definitions.specs.Invariant.{IsDatabase}
use Rattle.definitions.specs.Binding.Answerable.{IsAnswerable}
use Rattle.definitions.specs.Estimates.BlockSpace.{space_of}
use Rattle.definitions.specs.Estimates.Version.{current_version}
use Rattle.definitions.specs.Plans.Certificate.{Certificate}
use Rattle.definitions.specs.Plans.Exact.{IsCertified}
use Rattle.definitions.specs.Plans.Plan.{Plan}
use Rattle.definitions.specs.Plans.PlanSpace.{GivesRequired, InSpace}
use Rattle.definitions.specs.Queries.BoundBlock.{Blocks}
use Rattle.definitions.specs.Queries.Conjuncts.{late_conjuncts}
use Rattle.definitions.specs.Queries.Evaluation.{Combination}
use Rattle.definitions.specs.Queries.Answer.{meanings}
use Rattle.definitions_execution.specs.Total as total
use Rattle.definitions_execution.specs.Total.{subqueries}
use Rattle.definitions_answers.specs.Kept.{IsRight}
use Rattle.definitions_answers.specs.Parameters.{parameters}
use Rattle.definitions_answers.specs.Seen.{seen_subqueries}
use Rattle.definitions_answers.specs.Told.{TellsAsked}
use Rattle.plan_tree.specs.Plans.{plan_of}
use Rattle.plan_space.specs.Planned.{space_in}
use Rattle.filters.specs.Sources.{block_in}
use Rattle.subqueries.specs.BlockText.{Rising}
use Rattle.subqueries.specs.Keeping.{told_by, AllKept}
use Rattle.subqueries.specs.OuterColumns.{outer_columns_of}
use Rattle.subqueries.specs.declared.kept_results.KeptResults.{KeptResults}
use Rattle.block_answers.specs.Views.{conditions_of}
use Rattle.executor.specs.declared.ready_block.ReadyBlock.{ReadyBlock}

abbrev pub database_in : List ReadyBlock → Database
database_in [] = []
database_in (r ∷ rs) = r.source.database

abbrev pub blocks_in : List ReadyBlock → Blocks
blocks_in query = map (λ (r : ReadyBlock). block_in r.source) query

abbrev pub plans_in : List ReadyBlock → List Plan
plans_in query = map (λ (r : ReadyBlock). plan_of r.plan) query

-- all is the block's: its plan gives the order that it requires, and it asks for no block but in its late conjuncts
pub record IsReadyIn (db : Database) (blocks : Blocks) (number : ℕ) (r : ReadyBlock) : Type 0 where
  pub database : r.source.database ≡ db
  pub valid : IsDatabase r.source.database
  pub block : r.block.now ≡ r.source.block
  pub space : space_in r.space ≡ space_of current_version r.source.database (block_in r.source)
  pub within : InSpace (space_of current_version r.source.database (block_in r.source)) (plan_of r.plan)
  pub required : GivesRequired (space_of current_version r.source.database (block_in r.source)) (plan_of r.plan)
  pub answerable : IsAnswerable (block_in r.source)
  pub late : conditions_of r.late.items ≡ late_conjuncts (block_in r.source)
  pub asked : IsPermutation (subqueries (block_in r.source)) r.subqueries.items
  pub rising : Rising r.subqueries.items
  pub seen : r.seen.items ≡ seen_subqueries (block_in r.source)
  pub parameters : outer_columns_of r.parameters.items ≡ parameters blocks number

abbrev pub IsReady : List ReadyBlock → ℕ → ReadyBlock → Type 0
IsReady query number r = IsReadyIn (database_in query) (blocks_in query) number r

-- its plan is a least one, for which there is an exact certificate
abbrev pub HasLeast : Database → ReadyBlock → Type 0
HasLeast db r = (certificate : Certificate)
    × IsCertified (space_of current_version db (block_in r.source)) (plan_of r.plan) certificate

abbrev pub AreReady : List ReadyBlock → Type 0
AreReady query = (number : ℕ) (r : ReadyBlock) → slice_get query number ≡ Some r → IsReady query number r

abbrev pub subqueries_of : Option ReadyBlock → List ℕ
subqueries_of None = []
subqueries_of (Some r) = r.subqueries.items

abbrev pub seen_of : Option ReadyBlock → List ℕ
seen_of None = []
seen_of (Some r) = r.seen.items

module _ (query : List ReadyBlock) where
  -- the total of a block in rows of the blocks around it
  abbrev pub total_at : List Combination → ℕ → ℕ
  total_at outer number =
      total.totals current_version (database_in query) 0 (blocks_in query) (plans_in query) number outer

  -- what was told last of a block is what it may tell there to those who see the values of these blocks alone
  abbrev pub IsToldLast : (seen : List ℕ) → List Combination → List KeptResults → ℕ → Type 0
  IsToldLast seen outer results number =
      TellsAsked seen (meanings (database_in query) 0 (blocks_in query) number outer) (told_by results number) number

  -- results that are kept are right wherever the parameters have their values, and there is a list of them for each
  -- block
  pub record AreRight (results : List KeptResults) : Type 0 where
    pub count : length results ≡ length query
    pub each : (number : ℕ) (own : KeptResults) → slice_get results number ≡ Some own
        → AllKept (IsRight current_version (database_in query) (blocks_in query) (plans_in query) number) own

  -- of the blocks below a number nothing is told anew
  abbrev pub AreLeft : ℕ → List KeptResults → List KeptResults → Type 0
  AreLeft below results results' = (number : ℕ) → number < below → told_by results' number ≡ told_by results number

  -- what is so of the block of a number
  abbrev pub OfBlock : ℕ → (ReadyBlock → Type 0) → Type 0
  OfBlock number P = (r : ReadyBlock) → slice_get query number ≡ Some r → P r

  -- it has no parameters, so that what is told of it is the same in all rows around
  abbrev pub HasNoParameters : ℕ → Type 0
  HasNoParameters number = OfBlock number (λ r. r.parameters.items ≡ [])

  -- the blocks that its late conjuncts ask for, as code goes through them
  abbrev pub subqueries_at : ℕ → List ℕ
  subqueries_at number = subqueries_of (slice_get query number)

  -- those whose values they see
  abbrev pub seen_at : ℕ → List ℕ
  seen_at number = seen_of (slice_get query number)

  -- what all blocks mean
  abbrev pub meanings_in : ℕ → List Combination → Meaning (List Row)
  meanings_in = meanings (database_in query) 0 (blocks_in query)

  -- the totals of a block's subqueries at a combination of it
  abbrev pub totals_in : List Combination → ReadyBlock → Combination → ℕ
  totals_in outer r c = sum_by (total_at (c ∷ outer)) (subqueries (block_in r.source))
