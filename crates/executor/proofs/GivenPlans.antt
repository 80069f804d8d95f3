-- The plans that are left are of the blocks that are left.
use Rattle.std.proofs.Common.{◌≡◌, sym, subst, ℕ, zero, suc, ◌≤◌, ◌<◌, List, [], ◌∷◌, Some, length, drop, arith}
use Rattle.std.specs.Prelude.{slice_get}
use Rattle.definitions.specs.Table.{Database}
use Rattle.definitions.specs.Queries.BoundBlock.{Block, Blocks}
use Rattle.plan_space.specs.BlockPlans.{IsLeastOf, AreLeastOf}
use Rattle.plan_space.specs.declared.block_plan.BlockPlan.{BlockPlan}
use Rattle.executor.proofs.InnerBlocks.{some_is}

module _ (db : Database) where
  -- the next plan is of the next block
  pub given_at : (bs : Blocks) (n : ℕ) (p : BlockPlan) (ps : List BlockPlan) (b : Block) → slice_get bs n ≡ Some b → AreLeastOf db (drop n bs) (p ∷ ps)
      → IsLeastOf db b p × AreLeastOf db (drop (suc n) bs) ps
  given_at [] n p ps b e h = absurd cc
  given_at (x ∷ bs) zero p ps b e h = (subst (λ y. IsLeastOf db y p) (some_is x b e) h.0, h.1)
  given_at (x ∷ bs) (suc n) p ps b e h = given_at bs n p ps b e h

  -- which is there
  pub one_left : (bs : Blocks) (n : ℕ) (p : BlockPlan) (ps : List BlockPlan) → AreLeastOf db (drop n bs) (p ∷ ps) → n < length bs
  one_left [] zero p ps h = absurd h
  one_left [] (suc n) p ps h = absurd h
  one_left (b ∷ bs) zero p ps h = omega arith
  one_left (b ∷ bs) (suc n) p ps h = let more = one_left bs n p ps h in omega (arith, more)

  -- where none is left, no block is
  pub none_left : (bs : Blocks) (n : ℕ) (ps : List BlockPlan) → length ps ≡ 0 → AreLeastOf db (drop n bs) ps → length bs ≤ n
  none_left bs n (p ∷ ps) none h = absurd (omega (arith, none))
  none_left [] n [] none h = omega arith
  none_left (b ∷ bs) zero [] none h = absurd h
  none_left (b ∷ bs) (suc n) [] none h = let fewer = none_left bs n [] none h in omega (arith, fewer)

  -- the plans that are left, by the number of blocks that are ready
  pub left_at : (bs : Blocks) (ready n : ℕ) (rest : List BlockPlan) (p : BlockPlan) (ps : List BlockPlan) → n ≡ ready → rest ≡ p ∷ ps → AreLeastOf db (drop ready bs) rest → AreLeastOf db (drop n bs) (p ∷ ps)
  left_at bs ready n rest p ps same first left = subst (λ k. AreLeastOf db (drop k bs) (p ∷ ps)) (sym same) (subst (AreLeastOf db (drop ready bs)) first left)
