use Rattle.std.proofs.Common.{◌∙◌, ap, subst, [], arith}
use Rattle.syntax_cursor.specs.Places.{Stand, left_at}
use Rattle.syntax.specs.Places.{all, statement_leaves}
use Rattle.syntax_cursor.proofs.Places.{more}
use Rattle.syntax.proofs.Places.{left_at_first}
use Rattle.syntax.proofs.Scripts.{script_fails}
use Rattle.syntax.proofs.parser.parse.Goals as goal

pub returns-in-Ok-clause-derived : goal.returns-in-Ok-clause-derived
returns-in-Ok-clause-derived c = rw c.new-cursor.ensures at c.in-Ok.ensures.reads

pub returns-in-Err-clause-fault : goal.returns-in-Err-clause-fault
returns-in-Err-clause-fault c = script_fails c.args.tokens.now c.args.end c.in-Err.stop c.fault_at.result (rw c.new-cursor.ensures at c.in-Err.ensures.reads) c.fault_at.ensures

pub returns-in-Ok-clause-placed : goal.returns-in-Ok-clause-placed
returns-in-Ok-clause-placed c =
    let d = c.in-Ok.ensures.placed in
    let n = d.noted in
    let first = ap (λ p. p.long_lists) c.new-cursor.ensures in
    let count = c.into_long_lists.ensures in
    more _ (omega (arith, n, first, count)) (subst (λ z. Stand d.lists z (all statement_leaves c.in-Ok.statements.items) []) (ap left_at c.new-cursor.ensures ∙ left_at_first c.args.tokens.now) d.stand)
