-- Plans of a query's blocks, each with the space that it is of.
use Rattle.std.specs.Prelude.{◌≡◌, ⊤, List, [], ◌∷◌}
use Rattle.definitions.specs.Table.{Database}
use Rattle.definitions.specs.Estimates.BlockSpace.{space_of}
use Rattle.definitions.specs.Estimates.Version.{current_version}
use Rattle.definitions.specs.Plans.Certificate.{Certificate}
use Rattle.definitions.specs.Plans.Exact.{IsCertified}
use Rattle.definitions.specs.Queries.BoundBlock.{Block, Blocks}
use Rattle.estimate.specs.Parts.{AreConjunctsOf}
use Rattle.plan_tree.specs.Plans.{plan_of}
use Rattle.plan_space.specs.Planned.{space_in}
use Rattle.plan_space.specs.declared.block_plan.BlockPlan.{BlockPlan}

-- a least plan of the block, for which there is an exact certificate
pub record IsLeastOf (db : Database) (block : Block) (p : BlockPlan) : Type 0 where
  pub space : space_in p.space ≡ space_of current_version db block
  pub conjuncts : AreConjunctsOf block p.conjuncts.items
  pub certified : (certificate : Certificate) × IsCertified (space_of current_version db block) (plan_of p.plan) certificate

-- one of each block, in their order
abbrev pub AreLeastOf : Database → Blocks → List BlockPlan → Type 0
AreLeastOf db [] [] = ⊤
AreLeastOf db (b ∷ bs) (p ∷ ps) = IsLeastOf db b p × AreLeastOf db bs ps
AreLeastOf db _ _ = ⊥
