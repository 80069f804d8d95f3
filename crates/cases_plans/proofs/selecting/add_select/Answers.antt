use Rattle.cases_plans.proofs.selecting.add_select.Goals as goal

pub add_planned-requires-clause-formed : goal.add_planned-requires-clause-formed
add_planned-requires-clause-formed c = rw c.deref.ensures.value c.in-Some.ensures.formed

pub add_planned-requires-clause-each : goal.add_planned-requires-clause-each
add_planned-requires-clause-each c = rw c.deref.ensures.value c.in-Some.ensures.each

pub add_planned-requires-clause-answerable : goal.add_planned-requires-clause-answerable
add_planned-requires-clause-answerable c = rw c.deref.ensures.value c.in-Some.ensures.answerable
