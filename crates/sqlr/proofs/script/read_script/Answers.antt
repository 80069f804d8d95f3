use Rattle.sqlr.proofs.Scripts.{lexical_told, syntax_told}
use Rattle.sqlr.proofs.script.read_script.Goals as goal

pub returns-in-Err-clause-fault : goal.returns-in-Err-clause-fault
returns-in-Err-clause-fault c = lexical_told _ _ _ c.lexical.ensures c.in-Err.ensures.fault

pub returns-clause-fault : goal.returns-clause-fault
returns-clause-fault c = syntax_told _ c.in-Ok.tokens.items c.in-Err-check_script.fault _ c.syntactic.ensures c.in-Ok.ensures.tokens (rw c.deref.ensures.value at c.in-Err-check_script.ensures.fault)
