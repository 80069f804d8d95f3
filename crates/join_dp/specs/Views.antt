-- What the types of this crate stand for.
use Rattle.std.specs.Prelude.{ℕ}
use Rattle.plan_tree.specs.Plans.{path_of}
use Rattle.join_dp.specs.Steps as spec
use Rattle.join_dp.specs.declared.step.Join.{Join}
use Rattle.join_dp.specs.declared.step.Join.TheVariants as join
use Rattle.join_dp.specs.declared.step.Step.{Step}
use Rattle.join_dp.specs.declared.step.Step.TheVariants as step
use Rattle.join_dp.specs.declared.step.AddedJoin.{AddedJoin}
use Rattle.join_dp.specs.declared.step.Candidate.{Candidate}

abbrev pub join_of : Join → spec.Join
join_of (join.Loop path) = spec.Loop (path_of path.now)
join_of (join.Merge conjunct path sorted) = spec.Merge conjunct (record { path = path_of path.now; sorted = sorted })

abbrev pub step_of : Step → spec.Step
step_of (step.Access path) = spec.AccessOf (path_of path.now)
step_of (step.Join from join) = spec.JoinOn from (join_of join)
step_of (step.Sort from order) = spec.SortOn from order

abbrev pub candidate_of : Candidate → spec.Candidate
candidate_of c = record { step = step_of c.step; cost = c.cost.number }

-- a join with a table, and what it adds to the cost of a plan
pub record Added : Type 0 where
  pub table : ℕ
  pub join : spec.Join
  pub cost : ℕ

abbrev pub added_of : AddedJoin → Added
added_of a = record { table = a.table; join = join_of a.join; cost = a.cost.number }
