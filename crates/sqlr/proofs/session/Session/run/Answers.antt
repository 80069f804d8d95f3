use Rattle.sqlr.proofs.Running.{script_ran, script_broke, line_printed, line_broke, nothing_done}
use Rattle.sqlr.proofs.Running.{line_unasked}
use Rattle.sqlr.proofs.session.Session.run.Goals as goal

pub returns-in-Ok-clause-headline : goal.returns-in-Ok-clause-headline
returns-in-Ok-clause-headline g c = script_ran _ _ _ _ c.in-Ok.tokens.items _ _ _ c.in-Ok.ensures.script (rw c.deref.ensures.value at c.run_statements.ensures.runs)

pub returns-in-Ok-clause-breaks : goal.returns-in-Ok-clause-breaks
returns-in-Ok-clause-breaks g c = script_broke _ _ _ _ _ c.in-Ok.tokens.items _ _ _ c.in-Ok.ensures.script (rw c.deref.ensures.value at c.run_statements.ensures.breaks)

pub returns-in-Err-Refused-clause-headline : goal.returns-in-Err-Refused-clause-headline
returns-in-Err-Refused-clause-headline g c = line_printed _ _ _ _ _ _ _ (rw c.in-Err-Refused.field-0-is at c.in-Err-Refused.ensures.fault) (rw c.report.ensures.taken at c.put_fault.ensures.prints)

pub returns-in-Err-Refused-clause-breaks : goal.returns-in-Err-Refused-clause-breaks
returns-in-Err-Refused-clause-breaks g c = line_broke _ _ _ _ _ _ _ _ (rw c.in-Err-Refused.field-0-is at c.in-Err-Refused.ensures.fault) (rw c.report.ensures.taken at c.put_fault.ensures.breaks)

pub returns-in-Err-Memory-clause-breaks : goal.returns-in-Err-Memory-clause-breaks
returns-in-Err-Memory-clause-breaks g c = nothing_done _ _ _ _ _ c.in-Err-Memory.offset

pub returns-in-Err-Refused-clause-library : goal.returns-in-Err-Refused-clause-library
returns-in-Err-Refused-clause-library g c = line_unasked _ _ _ _ _ c.put_fault.ensures.breaks

pub returns-in-Err-Refused-clause-sink : goal.returns-in-Err-Refused-clause-sink
returns-in-Err-Refused-clause-sink g c = rw c.report.ensures.counted at c.put_fault.ensures.blamed
