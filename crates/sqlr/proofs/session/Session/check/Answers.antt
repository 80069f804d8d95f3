use Rattle.sqlr.proofs.CheckingRuns.{fault_put, fault_begun, nothing_read}
use Rattle.sqlr.proofs.Running.{line_unasked}
use Rattle.sqlr.proofs.Headlines.{check_kept}
use Rattle.sqlr.proofs.session.Session.check.Goals as goal

pub returns-in-Ok-clause-headline : goal.returns-in-Ok-clause-headline
returns-in-Ok-clause-headline g c = check_kept _ _ _ _ _ _ _ _ ((rw c.deref.ensures.value at c.check_statements.ensures.checks) _ c.in-Ok.ensures.statements)

pub returns-in-Ok-clause-checks : goal.returns-in-Ok-clause-checks
returns-in-Ok-clause-checks g c = (rw c.deref.ensures.value at c.check_statements.ensures.checks) _ c.in-Ok.ensures.statements

pub returns-in-Ok-clause-breaks : goal.returns-in-Ok-clause-breaks
returns-in-Ok-clause-breaks g c = (rw c.deref.ensures.value at c.check_statements.ensures.breaks) _ c.in-Ok.ensures.statements

pub returns-in-Err-Refused-clause-checks : goal.returns-in-Err-Refused-clause-checks
returns-in-Err-Refused-clause-checks g c = fault_put _ _ _ _ _ _ _ _ (rw c.in-Err-Refused.field-0-is at c.in-Err-Refused.ensures.fault) (rw c.report.ensures.taken at c.put_fault.ensures.prints)

pub returns-in-Err-Refused-clause-breaks : goal.returns-in-Err-Refused-clause-breaks
returns-in-Err-Refused-clause-breaks g c = fault_begun _ _ _ _ _ _ _ _ _ (rw c.in-Err-Refused.field-0-is at c.in-Err-Refused.ensures.fault) (rw c.report.ensures.taken at c.put_fault.ensures.breaks)

pub returns-in-Err-Memory-clause-breaks : goal.returns-in-Err-Memory-clause-breaks
returns-in-Err-Memory-clause-breaks g c = nothing_read _ _ _ _ _ _ c.in-Err-Memory.offset

pub returns-in-Err-Refused-clause-library : goal.returns-in-Err-Refused-clause-library
returns-in-Err-Refused-clause-library g c = line_unasked _ _ _ _ _ c.put_fault.ensures.breaks

pub returns-in-Err-Refused-clause-sink : goal.returns-in-Err-Refused-clause-sink
returns-in-Err-Refused-clause-sink g c = rw c.report.ensures.counted at c.put_fault.ensures.blamed

pub returns-in-Err-Refused-clause-headline : goal.returns-in-Err-Refused-clause-headline
returns-in-Err-Refused-clause-headline g c = check_kept _ _ _ _ _ _ _ _ (returns-in-Err-Refused-clause-checks g c)
