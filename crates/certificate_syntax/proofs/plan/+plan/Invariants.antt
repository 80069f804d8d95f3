use Rattle.certificate_syntax.proofs.plan.+plan.Given as goal

abbrev pub decreases-plan : goal.decreases-plan
decreases-plan l = l.words
