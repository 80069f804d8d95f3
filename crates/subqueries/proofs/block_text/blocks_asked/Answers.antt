use Rattle.std.proofs.Common.{◌≡◌, ◌∙◌, sym, ap, ap₂, ℕ, ◌+◌, List, [], ◌∷◌, get_or, arith}
use Rattle.std.specs.Ordering.{is_lt, nat_cmp}
use Rattle.std.specs.Prelude.{IsSorted}
use Rattle.std.proofs.lemmas.Grind.{get_or_tail}
use Rattle.std.proofs.lemmas.Map.Keys.{ge_from_not_lt}
use Rattle.subqueries.specs.BlockText.{Rising}
use Rattle.subqueries.proofs.block_text.blocks_asked.Goals as goal

behind_first : (n : ℕ) (rest : List ℕ) (i d : ℕ) → get_or (n ∷ rest) (i + 1) d ≡ get_or rest i d
behind_first n rest i d = get_or_tail n rest (i + 1) d (omega arith) ∙ ap (λ j. get_or rest j d) (omega arith)

rises : (ns : List ℕ) → IsSorted nat_cmp ns → Rising ns
rises [] h = tt
rises (n ∷ []) h = tt
rises (n ∷ m ∷ ms) h = (
  ge_from_not_lt m n (h 0 0 (omega arith) (omega arith)),
  rises (m ∷ ms) (λ k d low high. ap₂ (λ a b. is_lt (nat_cmp a b)) (sym (behind_first n (m ∷ ms) (k + 1) d)) (sym (behind_first n (m ∷ ms) k d)) ∙ h (k + 1) d (omega arith) (omega (arith, high))),
)

pub returns-clause-rising : goal.returns-clause-rising
returns-clause-rising c = rises c.sort_unstable.new.self.items c.sort_unstable.ensures.sorted
