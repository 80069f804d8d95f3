use Rattle.cases_plans.proofs.Planned.{formed_in}
use Rattle.cases_plans.proofs.running.run_in.Goals as goal

pub run-requires-clause-formed : goal.run-requires-clause-formed
run-requires-clause-formed c = formed_in c.args.database.now c.args.block.now c.in_ok-source.source c.in_ok-source.ensures.database c.in_ok-source.ensures.block c.requires.formed
