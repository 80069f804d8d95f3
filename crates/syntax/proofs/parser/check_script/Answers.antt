use Rattle.syntax.proofs.Scripts.{script_fails}
use Rattle.syntax.proofs.parser.check_script.Goals as goal

pub returns-in-Ok-clause-derived : goal.returns-in-Ok-clause-derived
returns-in-Ok-clause-derived c = rw c.new-cursor.ensures at c.in-Ok.ensures

pub returns-clause-fault : goal.returns-clause-fault
returns-clause-fault c = script_fails c.args.tokens.now c.args.end c.in-Err.stop c.fault_at.result (rw c.new-cursor.ensures at c.in-Err.ensures) c.fault_at.ensures
