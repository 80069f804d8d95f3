use Rattle.std.proofs.Common.{◌∙◌}
use Rattle.std.proofs.lemmas.Result.{err_from_is_err_and}
use Rattle.parse_tree.specs.Trees.{statement_of}
use Rattle.sqlr.proofs.Turns.{one_more, all_ran, broke_reading, broke_at}
use Rattle.sqlr.proofs.session.Session.run_statements.Goals as goal

pub statements-preserved : goal.statements-preserved
statements-preserved g c = record {
  ran = one_more _ _ _ _ _ _ _ (statement_of c.in-Ok.read.statement) _ _ _ _ c.in_ok-own.own _ c.statements.invariant.ran c.in-Ok.ensures.first c.in_ok-own.ensures.runs c.both-ended.ensures;
  fetches = c.in_ok-own.ensures.library ∙ c.statements.invariant.fetches;
  puts = c.in_ok-own.ensures.sink ∙ c.statements.invariant.puts;
}

pub returns-clause-runs : goal.returns-clause-runs
returns-clause-runs g c = all_ran _ _ _ _ _ _ _ _ c.statements-test.false c.statements.invariant.ran

pub returns-in-Err-clause-breaks : goal.returns-in-Err-clause-breaks
returns-in-Err-clause-breaks g c = broke_reading _ _ _ _ _ _ _ _ _ c.in-Err.offset c.statements-test.true c.statements.invariant.ran

pub returns-in_err-own-clause-breaks : goal.returns-in_err-own-clause-breaks
returns-in_err-own-clause-breaks g c =
    let fault = err_from_is_err_and c.from_residual.result c.from_residual.ensures.1 in
    λ statements derived. rw (fault.1, fault.2) (broke_at _ _ _ _ _ _ _ _ (statement_of c.in-Ok.read.statement) _ _ _ _ c.in_err-own.field-0.0 c.statements.invariant.ran c.in-Ok.ensures.first c.in_err-own.ensures.breaks statements derived)
