use Rattle.std.proofs.Common.{◌∙◌, ◌<◌, refl, arith}
use Rattle.sqlr.specs.declared.ended.RunFault.TheVariants as r
use Rattle.sqlr.specs.declared.outcome.StepFault.TheVariants as f
use Rattle.sqlr.proofs.Running.{next}
use Rattle.sqlr.proofs.Preparing.{one_more_prepared, one_refused, broke_preparing}
use Rattle.sqlr.proofs.session.Session.prepare.Goals as goal

pub returns-in-Ok-Some-clause-prepared : goal.returns-in-Ok-Some-clause-prepared
returns-in-Ok-Some-clause-prepared g c =
    one_refused _ _ _ _ c.args.statements.now _ _ c.in-Ok-Some.printed c.statements-test.true c.statement-item.is c.statements.invariant.prepared (rw c.in-Ok-Some.field-0-is at c.in-Ok-Some.ensures.prepared)

pub returns-in-Err-Memory-clause-breaks : goal.returns-in-Err-Memory-clause-breaks
returns-in-Err-Memory-clause-breaks g c = broke_preparing _ _ _ c.statements.self c.prepare_statement.new.self c.args.statements.now _ _ f.Memory (r.Memory c.place_of-offset.result) c.statements-test.true c.statement-item.is c.statements.invariant.prepared (rw c.in-Err-Memory.field-0-is at c.in-Err-Memory.ensures.breaks) refl

pub returns-in-Err-Library-clause-breaks : goal.returns-in-Err-Library-clause-breaks
returns-in-Err-Library-clause-breaks g c = broke_preparing _ _ _ c.statements.self c.prepare_statement.new.self c.args.statements.now _ _ f.Library (r.Library c.place_of-offset.result) c.statements-test.true c.statement-item.is c.statements.invariant.prepared (rw c.in-Err-Library.field-0-is at c.in-Err-Library.ensures.breaks) refl

pub statements-preserved : goal.statements-preserved
statements-preserved g c = record {
  prepared = rw (next c.statements.statement-index) (one_more_prepared _ _ _ _ c.args.statements.now _ _ c.statements-test.true c.statement-item.is c.statements.invariant.prepared (rw c.in-Ok-None.field-0-is at c.in-Ok-None.ensures.prepared));
  fetches = c.in-Ok-None.ensures.blamed ∙ c.statements.invariant.fetches;
}

pub returns-in-Err-Memory-clause-library : goal.returns-in-Err-Memory-clause-library
returns-in-Err-Memory-clause-library g c = (rw c.in-Err-Memory.field-0-is at c.in-Err-Memory.ensures.blamed) ∙ c.statements.invariant.fetches

pub returns-in-Err-Library-clause-library : goal.returns-in-Err-Library-clause-library
returns-in-Err-Library-clause-library g c =
    let rose : g.L.Library.failures c.statements.self.library < g.L.Library.failures c.prepare_statement.new.self.library = rw c.in-Err-Library.field-0-is at c.in-Err-Library.ensures.blamed in
    omega (arith, rose, c.statements.invariant.fetches)

pub returns-in-Ok-Some-clause-library : goal.returns-in-Ok-Some-clause-library
returns-in-Ok-Some-clause-library g c = c.in-Ok-Some.ensures.blamed ∙ c.statements.invariant.fetches
