use Rattle.sqlr.specs.Outcomes.{made}
use Rattle.sqlr.proofs.Changing.{refusal_told}
use Rattle.sqlr.proofs.changes.set_table_statistics.Goals as goal

pub returns-in-Ok-clause-changes : goal.returns-in-Ok-clause-changes
returns-in-Ok-clause-changes c = made (rw c.as_str.ensures.value at c.in-Ok.ensures.accepted) (rw c.as_str.ensures.value at c.in-Ok.ensures.made) (rw c.done.ensures.text c.in_ok-text.ensures.items) c.done.ensures.ended

pub returns-clause-changes : goal.returns-clause-changes
returns-clause-changes c = refusal_told _ _ _ _ _ c.refusal_line.result (rw c.as_str.ensures.value at c.in-Err.ensures.refused) c.refusal.ensures c.in-Err.ensures.err c.refusal_line.ensures.text c.refusal_line.ensures.ended
