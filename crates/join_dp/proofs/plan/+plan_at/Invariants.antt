use Rattle.join_dp.proofs.plan.+plan_at.Given as goal

abbrev pub decreases-plan_at : goal.decreases-plan_at
decreases-plan_at l = l.place
