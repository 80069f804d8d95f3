-- A block's total may be counted over what its plan delivers, since that is an arrangement of what passes; and it goes by the blocks behind it.
use Prim.Native.Nat.{zero}
use Rattle.std.proofs.Common.{suc, sym, ap, ap₂, ◌∙◌, ◌≡◌, ℕ, ◌+◌, ◌≤◌, ◌<◌, List, [], ◌∷◌, map, slice_get, Bool, Some, is_some, true, false, refl, true≢false, arith}
use Rattle.std.proofs.lemmas.Bool.Decides.{nat_tests}
use Rattle.std.specs.Prelude.{drop, unwrap_or, if◌then◌else◌, ◌==◌}
use Rattle.std.proofs.lemmas.List.Sorted.{sum_by-IsPermutation}
use Rattle.definitions.specs.Table.{Database}
use Rattle.definitions.specs.Plans.Plan.{Plan}
use Rattle.definitions.specs.Plans.Cost.{saturated}
use Rattle.definitions.specs.Queries.BoundBlock.{Block, Blocks}
use Rattle.definitions.specs.Queries.Evaluation.{Combination}
use Rattle.definitions.specs.Queries.Combinations.{passing}
use Rattle.definitions.specs.Queries.Answer.{meanings}
use Rattle.definitions.specs.Estimates.Version.{Version}
use Rattle.definitions.specs.Estimates.BlockSpace.{space_of}
use Rattle.definitions_execution.specs.Running.{delivered}
use Rattle.definitions_execution.specs.OfBlock.{combination_of, stored_of}
use Rattle.definitions_execution.specs.Total.{no_work, inner_work, block_total, totals}
use Rattle.definitions_execution.specs.TotalLaws.{CountedIsTotal, TotalsGoByThoseBehind, TotalsBehindAreTheSame}
use Rattle.definitions_execution.proofs.WholeBlock.{gives_passing}

pub counted : CountedIsTotal
counted version context block plan total own is =
    let w = gives_passing version context block own plan is in
    ap₂ (λ a b. saturated (a + b)) w.opened
    (sum_by-IsPermutation (inner_work context block total) (passing context block) (map (combination_of context.database block) (delivered (space_of version context.database block) (stored_of context block) plan)) w.each)

-- ---- the blocks behind

is_itself : (n k : ℕ) → k ≡ n → (k == n) ≡ true
is_itself n k e = grind (arith, nat_tests, e)

is_other : (n k : ℕ) → n < k → (k == n) ≡ false
is_other n k h = grind (arith, nat_tests, h)

module _ (version : Version) (db : Database) where
  abbrev first_total : ℕ → Block → Blocks → Plan → List Plan → List Combination → ℕ
  first_total n b bs p ps outer = block_total version (record { database = db; outer = outer; inner = meanings db (n + 1) bs }) b p (totals version db (n + 1) bs ps)

  chosen_total : (n : ℕ) (c : Block) (bs : Blocks) (q : Plan) (ps : List Plan) (m : ℕ) (outer : List Combination) (t : Bool) → (m == n) ≡ t
      → totals version db n (c ∷ bs) (q ∷ ps) m outer ≡ (if t then first_total n c bs q ps else totals version db (n + 1) bs ps m) outer
  chosen_total n c bs q ps m outer t e = ap (λ t. (if t then first_total n c bs q ps else totals version db (n + 1) bs ps m) outer) e

  by_those_behind : (n : ℕ) (blocks : Blocks) (plans : List Plan) (k m : ℕ) (b : Block) (p : Plan) (outer : List Combination) → m ≡ n + k → slice_get blocks k ≡ Some b → slice_get plans k ≡ Some p
      → totals version db n blocks plans m outer ≡ first_total m b (drop (suc k) blocks) p (drop (suc k) plans) outer
  by_those_behind n [] plans k m b p outer e h g = absurd (true≢false (sym (ap is_some h)))
  by_those_behind n (c ∷ bs) [] k m b p outer e h g = absurd (true≢false (sym (ap is_some g)))
  by_those_behind n (c ∷ bs) (q ∷ ps) zero m b p outer e h g =
      let is : m ≡ n = omega (arith, e) in
      let same : c ≡ b = ap (λ o. unwrap_or o c) h in
      let plan : q ≡ p = ap (λ o. unwrap_or o q) g in
      chosen_total n c bs q ps m outer true (is_itself n m is)
      ∙ ap₂ (λ start d. first_total start d bs q ps outer) (sym is) same
      ∙ ap (λ r. first_total m b bs r ps outer) plan
  by_those_behind n (c ∷ bs) (q ∷ ps) (suc k) m b p outer e h g =
      chosen_total n c bs q ps m outer false (is_other n m (omega (arith, e)))
      ∙ by_those_behind (n + 1) bs ps k m b p outer (omega (arith, e)) h g

  no_plans : (n : ℕ) (blocks : Blocks) (j : ℕ) → totals version db n blocks [] j ≡ no_work
  no_plans n [] j = refl
  no_plans n (c ∷ bs) j = refl

  no_blocks : (n : ℕ) (plans : List Plan) (j : ℕ) → totals version db n [] plans j ≡ no_work
  no_blocks n plans j = refl

  behind_the_same : (n : ℕ) (blocks : Blocks) (plans : List Plan) (k m j : ℕ) → m ≡ n + k → m ≤ j → totals version db m (drop k blocks) (drop k plans) j ≡ totals version db n blocks plans j
  behind_the_same n blocks plans zero m j e h = let is : m ≡ n = omega (arith, e) in ap (λ start. totals version db start blocks plans j) is
  behind_the_same n [] plans (suc k) m j e h = refl
  behind_the_same n (c ∷ bs) [] (suc k) m j e h = no_plans m (drop k bs) j
  behind_the_same n (c ∷ bs) (q ∷ ps) (suc k) m j e h =
      behind_the_same (n + 1) bs ps k m j (omega (arith, e)) h
      ∙ sym (ap (λ t. if t then first_total n c bs q ps else totals version db (n + 1) bs ps j) (is_other n j (omega (arith, e, h))))

pub by_behind : TotalsGoByThoseBehind
by_behind version db blocks plans k b p outer h g =
    let next : suc k ≡ k + 1 = omega arith in
    by_those_behind version db 0 blocks plans k k b p outer (omega arith) h g
    ∙ ap (λ n. first_total version db k b (drop n blocks) p (drop n plans) outer) next

pub behind_same : TotalsBehindAreTheSame
behind_same version db blocks plans k j h = behind_the_same version db 0 blocks plans (k + 1) (k + 1) j (omega arith) (omega (arith, h))
