-- A block's least plan, made in its own plan space.
use Rattle.std.specs.Prelude.{ℕ, ◌+◌, ◌≤◌, ⊤, List, [], ◌∷◌}
use Rattle.definitions.specs.Table.{Database}
use Rattle.definitions.specs.Certificates.Explaining.{certified}
use Rattle.definitions.specs.Estimates.BlockSpace.{space_of}
use Rattle.definitions.specs.Estimates.Version.{current_version}
use Rattle.definitions.specs.Plans.Exact.{IsCertified}
use Rattle.definitions.specs.Queries.BoundBlock.{Block, Blocks}
use Rattle.plan_tree.specs.Certificates.{certificate_of}
use Rattle.plan_tree.specs.Plans.{plan_of}
use Rattle.certificate.specs.Spaces.{IsBlockSpace}
use Rattle.join_dp.specs.Words.{words_in}
use Rattle.planner.specs.declared.planned_block.PlannedBlock.{PlannedBlock}

-- the space is the block's, and the certificate shows that the plan is least in it; the plan has no more words than a text may
pub record IsPlanned (db : Database) (number : ℕ) (block : Block) (p : PlannedBlock) : Type 0 where
  pub own : IsBlockSpace (certified db number block current_version) p.own
  pub certified : IsCertified (space_of current_version db block) (plan_of p.plan) (certificate_of p.certificate)
  pub short : words_in (plan_of p.plan) ≤ 64

-- each block is, the first having that number
abbrev pub ArePlannedFrom : Database → ℕ → Blocks → List PlannedBlock → Type 0
ArePlannedFrom db number [] [] = ⊤
ArePlannedFrom db number (b ∷ bs) (p ∷ ps) = IsPlanned db number b p × ArePlannedFrom db (number + 1) bs ps
ArePlannedFrom db number _ _ = ⊥
