-- Least plans, one behind the other.
use Rattle.std.proofs.Common.{◌≡◌, ◌∙◌, sym, ap, subst, ℕ, suc, ◌+◌, ◌≤◌, List, [], ◌∷◌, ◌++◌, length, drop}
use Rattle.std.proofs.lemmas.List.{append-nil, append_assoc}
use Rattle.definitions.specs.Binding.Formed.{IsFormedSomewhere}
use Rattle.definitions.specs.Estimates.BlockSpace.{space_of}
use Rattle.definitions.specs.Estimates.Laws.{HasPlans}
use Rattle.definitions.specs.Estimates.Version.{current_version}
use Rattle.definitions.specs.Plans.Certificate.{Certificate}
use Rattle.definitions.specs.Plans.Exact.{IsCertified}
use Rattle.definitions.specs.Queries.BoundBlock as spec
use Rattle.definitions.specs.Queries.BoundBlock.{Blocks}
use Rattle.definitions.specs.Table.{Database}
use Rattle.definitions.proofs.EstimateTheory.FormedSpaces.{formed_has_plans}
use Rattle.query_tree.specs.Bound.{block_of}
use Rattle.query_tree.specs.declared.block.Block.{Block}
use Rattle.plan_tree.specs.Plans.{plan_of}
use Rattle.plan_space.specs.BlockPlans.{IsLeastOf, AreLeastOf}
use Rattle.plan_space.specs.Parts.{AreConjunctsOf}
use Rattle.plan_space.specs.Planned.{Planned, space_in}
use Rattle.plan_space.specs.declared.block_plan.BlockPlan.{BlockPlan}
use Rattle.planner.proofs.Explained.{next, past}

-- ---- one block

of_formed : (db : Database) (block : spec.Block) → IsFormedSomewhere db block → HasPlans block
of_formed db block (blocks, around, n, formed) = formed_has_plans db blocks around n block formed

pub has_plans : (db : Database) (given told : Block) → told ≡ given → IsFormedSomewhere db (block_of given) → HasPlans (block_of told)
has_plans db given told same formed = rw same (of_formed db (block_of given) formed)

-- the space of a block is that of the definitions
pub same_space : (p : Planned) (db : Database) (block : Block) → p.version ≡ current_version → p.database ≡ db → p.block ≡ block → space_in p ≡ space_of current_version db (block_of block)
unfolding space_in
same_space p db block a b c =
    ap (λ x. space_of x p.database (block_of p.block)) a ∙ ap (λ x. space_of current_version x (block_of p.block)) b ∙ ap (λ x. space_of current_version db (block_of x)) c

pub least_of : (p : BlockPlan) (db : Database) (block : Block) → AreConjunctsOf (block_of block) p.conjuncts.items → space_in p.space ≡ space_of current_version db (block_of block)
    → (certificate : Certificate) × IsCertified (space_in p.space) (plan_of p.plan) certificate → IsLeastOf db (block_of block) p
least_of p db block own same (certificate, holds) = record { conjuncts = own; space = same; certified = (certificate, subst (λ s. IsCertified s (plan_of p.plan) certificate) same holds) }

-- ---- the blocks of a query, one after another

-- the plans so far are those of the blocks before one, whatever plans those behind have
abbrev pub LeastTo : Database → Blocks → ℕ → List BlockPlan → Type 0
LeastTo db blocks number plans = (rest : List BlockPlan) → AreLeastOf db (drop number blocks) rest → AreLeastOf db blocks (plans ++ rest)

pub next_least : (db : Database) (blocks : Blocks) (number : ℕ) (block : spec.Block) (plans : List BlockPlan) (own : BlockPlan) → drop number blocks ≡ block ∷ drop (suc number) blocks
    → IsLeastOf db block own → LeastTo db blocks number plans → LeastTo db blocks (number + 1) (plans ++ own ∷ [])
next_least db blocks number block plans own first is so_far rest behind =
    subst (AreLeastOf db blocks) (sym (append_assoc plans (own ∷ []) rest))
    (so_far (own ∷ rest) (subst (λ bs. AreLeastOf db bs (own ∷ rest)) (sym (first ∙ ap (λ n. block ∷ drop n blocks) (sym (next number)))) (is, behind)))

pub all_least : (db : Database) (blocks : Blocks) (number : ℕ) (plans : List BlockPlan) → length blocks ≤ number → LeastTo db blocks number plans → AreLeastOf db blocks plans
all_least db blocks number plans behind so_far =
    subst (AreLeastOf db blocks) (append-nil plans) (so_far [] (subst (λ bs. AreLeastOf db bs []) (sym (past blocks number behind)) tt))
