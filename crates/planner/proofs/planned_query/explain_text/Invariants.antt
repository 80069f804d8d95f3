use Rattle.planner.proofs.Plans.{TextsTo}
use Rattle.planner.proofs.planned_query.explain_text.Given as goal

abbrev pub invariant-texts : goal.invariant-texts
invariant-texts l = record { told : TextsTo l.planned l.block-index l.text.items }
