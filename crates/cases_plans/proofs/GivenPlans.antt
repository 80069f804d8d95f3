-- Blocks that are ready stay so where one of them is given another plan.
use Rattle.std.proofs.Common.{◌≡◌, ◌∙◌, sym, ap, subst, ℕ, zero, suc, List, [], ◌∷◌, Option, None, Some, length, map, set}
use Rattle.std.specs.Prelude.{slice_get}
use Rattle.std.proofs.lemmas.List.{length-map}
use Rattle.query_tree.specs.Bound.{block_of}
use Rattle.query_tree.specs.declared.block.Block.{Block}
use Rattle.scans.specs.Sources.{block_in}
use Rattle.executor.specs.ReadyBlocks.{blocks_in}
use Rattle.executor.specs.declared.ready_block.ReadyBlock.{ReadyBlock}

some_is : {X : Type 0} (x y : X) → Some x ≡ Some y → x ≡ y
some_is {X} x y e = ap (λ (o : Option X). given o) e
  where
    given : Option X → X
    given None = x
    given (Some z) = z

-- what holds of each element by its place still does where one is another
pub each_stays : {X : Type 0} (P : ℕ → X → Type 0) (xs : List X) (i : ℕ) (x : X) → ((k : ℕ) (y : X) → slice_get xs k ≡ Some y → P k y) → P i x → (k : ℕ) (y : X) → slice_get (set xs i x) k ≡ Some y → P k y
each_stays P [] i x h own k y e = absurd cc
each_stays P (z ∷ xs) zero x h own zero y e = subst (P 0) (some_is x y e) own
each_stays P (z ∷ xs) zero x h own (suc k) y e = h (suc k) y e
each_stays P (z ∷ xs) (suc i) x h own zero y e = h 0 y e
each_stays P (z ∷ xs) (suc i) x h own (suc k) y e = each_stays (λ n. P (suc n)) xs i x (λ n w is. h (suc n) w is) own k y e

pub blocks_stay : (query : List ReadyBlock) (i : ℕ) (old new : ReadyBlock) → slice_get query i ≡ Some old → block_in new.source ≡ block_in old.source → blocks_in (set query i new) ≡ blocks_in query
blocks_stay [] i old new e same = absurd cc
blocks_stay (r ∷ rs) zero old new e same = ap (λ b. b ∷ blocks_in rs) (same ∙ ap (λ (x : ReadyBlock). block_in x.source) (sym (some_is r old e)))
blocks_stay (r ∷ rs) (suc i) old new e same = ap (λ bs. block_in r.source ∷ bs) (blocks_stay rs i old new e same)

pub as_many : (query : List ReadyBlock) (blocks : List Block) → blocks_in query ≡ map block_of blocks → length query ≡ length blocks
as_many query blocks e = sym (length-map query (λ (r : ReadyBlock). block_in r.source)) ∙ ap length e ∙ length-map blocks block_of
