-- The work of a SELECT: that of its blocks' plans, an inner block's as often as it is evaluated (own; Selinger et al.
-- 1979, section 6, has nested queries). Nothing is kept between evaluations.
use Rattle.std.specs.Prelude.{ℕ, ◌+◌, ◌==◌, ◌≡◌, ⊤, List, [], ◌∷◌, flat_map, sum_by, if◌then◌else◌}
use Rattle.definitions.specs.Table.{Database}
use Rattle.definitions.specs.Plans.Plan.{Plan}
use Rattle.definitions.specs.Plans.Cost.{saturated}
use Rattle.definitions.specs.Plans.Certificate.{Certificate}
use Rattle.definitions.specs.Plans.Exact.{IsCertified}
use Rattle.definitions.specs.Queries.BoundBlock.{Block, Blocks}
use Rattle.definitions.specs.Queries.Evaluation.{Combination}
use Rattle.definitions.specs.Queries.Conjuncts.{blocks_of, late_conjuncts}
use Rattle.definitions.specs.Queries.Combinations.{Context, passing}
use Rattle.definitions.specs.Queries.Answer.{meanings}
use Rattle.definitions.specs.Estimates.Version.{Version}
use Rattle.definitions.specs.Estimates.BlockSpace.{space_of}
use Rattle.definitions_execution.specs.BlockRuns.{delivered_combinations, rows_opened, plan_work}

-- what evaluating a block costs, given the combinations of the blocks around it, the nearest first
abbrev pub BlockWork : Type 0
BlockWork = List Combination → ℕ

abbrev pub no_work : BlockWork
no_work outer = 0

-- the subqueries in the text of late conjuncts, not inside another: all of them are evaluated wherever a late conjunct
-- is
abbrev pub subqueries : Block → List ℕ
subqueries block = flat_map blocks_of (late_conjuncts block)

-- at a combination, the total of each subquery
abbrev pub inner_work : Context → Block → (ℕ → BlockWork) → Combination → ℕ
inner_work context block total combination =
    sum_by (λ number. total number (combination ∷ context.outer)) (subqueries block)

module _ (version : Version) where
  -- the work of the block's plan, and the totals of its subqueries at each combination that passes
  abbrev pub block_total : Context → Block → Plan → (ℕ → BlockWork) → ℕ
  block_total context block plan total =
      saturated (plan_work version context block plan + sum_by (inner_work context block total) (passing context block))

  -- of the blocks from a number on, the total of the one of a number; the inner blocks mean what the definition of the
  -- answer says
  abbrev pub totals : Database → ℕ → Blocks → List Plan → ℕ → BlockWork
  totals db number [] plans k = no_work
  totals db number (b ∷ bs) [] k = no_work
  totals db number (b ∷ bs) (p ∷ ps) k =
      if k == number
      then (λ outer. block_total (record { database = db; outer = outer; inner = meanings db (number + 1) bs })
      b p (totals db (number + 1) bs ps))
      else totals db (number + 1) bs ps k

  -- the total of a statement is that of its outermost block
  abbrev pub total_of : Database → Blocks → List Plan → ℕ
  total_of db blocks plans = totals db 0 blocks plans 0 []

  -- the same, as an executor counts it: over what the plan delivers, and the rows that it opens
  abbrev pub counted_total : Context → Block → Plan → (ℕ → BlockWork) → ℕ
  counted_total context block plan total =
      saturated (rows_opened version context block plan + sum_by (inner_work context block total)
      (delivered_combinations version context block plan))

  -- ---- least plans

  -- of each block a plan of its space that gives the required order and costs no more than any that does, with its
  -- exact certificate
  abbrev pub AreCertified : Database → Blocks → List Plan → Type 0
  AreCertified db [] [] = ⊤
  AreCertified db (b ∷ bs) (p ∷ ps) =
      ((certificate : Certificate) × IsCertified (space_of version db b) p certificate) × AreCertified db bs ps
  AreCertified db _ _ = ⊥

  -- what a SELECT's work may be: the total under such plans, of which there may be several
  abbrev pub IsTotal : Database → Blocks → ℕ → Type 0
  IsTotal db blocks total = (plans : List Plan) × AreCertified db blocks plans × (total ≡ total_of db blocks plans)
