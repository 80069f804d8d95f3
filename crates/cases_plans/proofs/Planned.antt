-- A formed block has plans, and what is a plan in its space is one where its rows are read.
use Rattle.std.proofs.Common.{◌≡◌, sym, subst, List}
use Rattle.definitions.specs.Table.{Database}
use Rattle.definitions.specs.Plans.Order.{Order}
use Rattle.definitions.specs.Plans.Plan.{Plan}
use Rattle.definitions.specs.Plans.PlanSpace.{IsPlan}
use Rattle.definitions.specs.Queries.BoundBlock as spec
use Rattle.definitions.specs.Estimates.BlockSpace.{space_of}
use Rattle.definitions.specs.Estimates.Laws.{HasPlans}
use Rattle.definitions.specs.Estimates.Version.{Version}
use Rattle.definitions.proofs.EstimateTheory.FormedSpaces.{formed_has_plans}
use Rattle.query_tree.specs.Bound.{block_of}
use Rattle.query_tree.specs.declared.block.Block.{Block}
use Rattle.estimate.specs.Estimated.{IsFormed}
use Rattle.plan_space.specs.Planned.{Planned, space_in}
use Rattle.scans.specs.Sources.{BlockSource, block_in}
use Rattle.operators.specs.Running.{IsPlanOf}

of_formed : (db : Database) (block : spec.Block) → IsFormed db block → HasPlans block
of_formed db block (blocks, around, n, formed) = formed_has_plans db blocks around n block formed

pub has_plans : (db : Database) (given told : Block) → told ≡ given → IsFormed db (block_of given) → HasPlans (block_of told)
has_plans db given told same formed = let P : Block → Type 0 = λ b. IsFormed db (block_of b) in of_formed db (block_of told) (subst P (sym same) formed)

pub formed_in : (db : Database) (block : Block) (s : BlockSource) → s.database ≡ db → s.block ≡ block → IsFormed db (block_of block) → IsFormed s.database (block_in s)
formed_in db block s of_db of_block formed =
    let moved : IsFormed s.database (block_of block) = subst (λ x. IsFormed x (block_of block)) (sym of_db) formed in
    subst (λ b. IsFormed s.database (block_of b)) (sym of_block) moved

pub is_plan_of : (p : Planned) (s : BlockSource) (plan : Plan) (orders : List Order) → p.database ≡ s.database → p.block ≡ s.block
    → IsPlan (space_in p) plan → orders ≡ (space_in p).orders → (version : Version) × IsPlanOf s orders version plan
unfolding space_in
is_plan_of p s plan orders of_db of_block is same =
    let Both : Database → Block → Type 0 = λ db b. IsPlan (space_of p.version db (block_of b)) plan × (orders ≡ (space_of p.version db (block_of b)).orders) in
    let own : Both p.database p.block = (is, same) in
    let moved : Both s.database p.block = subst (λ db. Both db p.block) of_db own in
    (p.version, subst (λ b. Both s.database b) of_block moved)
