-- What a join that can be made is.
use Rattle.std.proofs.Common.{◌≡◌, ℕ, ◌^◌, ◌<◌, ◌≤◌, arith, refl}
use Rattle.std.proofs.lemmas.Nat.{or_lt}
use Rattle.std.proofs.Math.Pow.{pow-lt}
use Rattle.definitions.specs.Plans.TableSet.{with_table}
use Rattle.definitions.specs.Plans.Space.{Space}
use Rattle.definitions.specs.Plans.PlanSpace.{MayFollow}
use Rattle.definitions.specs.Plans.Cost.{limit, saturated}
use Rattle.plan_space.proofs.Merging.{is_merge, goes_by, can_merge}
use Rattle.join_dp.specs.Joining.{CanJoin, join_cost, IsJoin, GoesWith}
use Rattle.join_dp.specs.Steps.{Join, Loop, Merge, table_in}

saturated_small : (n : ℕ) → saturated n ≤ limit
saturated_small n = omega arith

module _ (space : Space) where
  pub follows : (s k : ℕ) (join : Join) → CanJoin space s k join → MayFollow space s (table_in join)
  follows s k (Loop path) can = can.0
  follows s k (Merge number inner) can = can.0

  pub is_join : (s k : ℕ) (join : Join) → CanJoin space s k join → IsJoin space s (table_in join) join
  is_join s k (Loop path) can = (refl, can.1)
  is_join s k (Merge number inner) can = is_merge space s k number inner can

  pub goes_with : (s k : ℕ) (join : Join) → CanJoin space s k join → GoesWith space s k (table_in join) join
  goes_with s k (Loop path) can = tt
  goes_with s k (Merge number inner) can = goes_by space s k number inner can

  -- a join that may follow and that the order allows can be made
  pub can_join : (tables order table : ℕ) (join : Join) → MayFollow space tables table → IsJoin space tables table join → GoesWith space tables order table join → CanJoin space tables order join × (table_in join ≡ table)
  can_join tables order table (Loop path) follows is goes = ((rw is.0 follows, is.1), is.0)
  can_join tables order table (Merge number inner) follows is goes = (can_merge space tables order table number inner follows is goes, is.0)

  pub join_small : (s : ℕ) (join : Join) → join_cost space s join ≤ limit
  join_small s (Loop path) = saturated_small _
  join_small s (Merge number inner) = saturated_small _

-- a set with one more of the tables is still one of them
pub still_inside : (n s t : ℕ) → s < 2 ^ n → t < n → with_table s t < 2 ^ n
still_inside n s t inside lt = or_lt n s (2 ^ t) inside (pow-lt lt)
