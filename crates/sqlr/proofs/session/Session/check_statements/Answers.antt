use Rattle.std.proofs.Common.{rules, refl, ◌≡◌, length}
use Rattle.definitions.specs.Ended as ends
use Rattle.definitions_execution.specs.CheckingRun.{nothing_text}
use Rattle.sqlr.proofs.CheckingRuns.{text_begun, no_statement_checked, last_checked, last_broke, refused_line, refused_line_begun, preparing_broke}
use Rattle.sqlr.proofs.CheckingRuns.{library_unasked, sink_blamed, sink_apart, never_library}
use Rattle.sqlr.proofs.session.Session.check_statements.Goals as goal

pub returns-in_default-clause-breaks : goal.returns-in_default-clause-breaks
returns-in_default-clause-breaks g c =
    let none : length c.args.statements.now ≡ 0 = search rules in
    λ script are. text_begun g.L.Library.answers g.L.Library.fails c.args.self.now c.args.self.now script c.args.certificates.now _ _ nothing_text ends.Faulted c.put_text.result (no_statement_checked g.L.Library.answers c.args.self.now script c.args.certificates.now c.args.statements.now none are) c.put_text.ensures.fault c.put_text.ensures.begun

pub returns-in-Ok-None-clause-checks : goal.returns-in-Ok-None-clause-checks
returns-in-Ok-None-clause-checks g c =
    λ script are. last_checked g.L.Library.answers g.L.Library.fails c.args.self.now c.prepare.new.self script c.args.certificates.now c.args.statements.now c.in-Some.before.now c.in-Some.last.now c.in-Some.ensures.cases.0 are (rw c.in-Ok-None.field-0-is at c.in-Ok-None.ensures.prepared) _ _ c.check_last.result c.check_last.ensures.checks

pub returns-in-Ok-None-clause-breaks : goal.returns-in-Ok-None-clause-breaks
returns-in-Ok-None-clause-breaks g c =
    λ script are. last_broke g.L.Library.answers g.L.Library.fails c.args.self.now c.prepare.new.self script c.args.certificates.now c.args.statements.now c.in-Some.before.now c.in-Some.last.now c.in-Some.ensures.cases.0 are (rw c.in-Ok-None.field-0-is at c.in-Ok-None.ensures.prepared) _ _ c.check_last.result c.check_last.ensures.breaks

pub returns-in-Ok-Some-clause-checks : goal.returns-in-Ok-Some-clause-checks
returns-in-Ok-Some-clause-checks g c =
    λ script are. refused_line g.L.Library.answers g.L.Library.fails c.args.self.now c.prepare.new.self script c.args.certificates.now c.args.statements.now c.in-Some.before.now c.in-Some.last.now c.in-Some.ensures.cases.0 are c.in-Ok-Some.printed _ _ c.put_refused.result (rw c.in-Ok-Some.field-0-is at c.in-Ok-Some.ensures.prepared) c.put_refused.ensures.ended c.put_refused.ensures.taken

pub returns-in-Ok-Some-clause-breaks : goal.returns-in-Ok-Some-clause-breaks
returns-in-Ok-Some-clause-breaks g c =
    λ script are. refused_line_begun g.L.Library.answers g.L.Library.fails c.args.self.now c.prepare.new.self script c.args.certificates.now c.args.statements.now c.in-Some.before.now c.in-Some.last.now c.in-Some.ensures.cases.0 are c.in-Ok-Some.printed _ _ c.put_refused.result (rw c.in-Ok-Some.field-0-is at c.in-Ok-Some.ensures.prepared) c.put_refused.ensures.fault c.put_refused.ensures.begun

pub returns-in-Err-clause-breaks : goal.returns-in-Err-clause-breaks
returns-in-Err-clause-breaks g c =
    λ script are. preparing_broke g.L.Library.answers g.L.Library.fails c.args.self.now c.prepare.new.self script c.args.certificates.now c.args.statements.now c.in-Some.before.now c.in-Some.last.now c.in-Some.ensures.cases.0 are c.in-Err.fault c.in-Err.ensures.breaks (g.S.Sink.taken c.args.sink.now)

pub returns-in_default-clause-library : goal.returns-in_default-clause-library
returns-in_default-clause-library g c = library_unasked _ _ c.put_text.result refl c.put_text.ensures.fault

pub returns-in_default-clause-sink : goal.returns-in_default-clause-sink
returns-in_default-clause-sink g c = sink_blamed _ _ c.put_text.result c.put_text.ensures.fault c.put_text.ensures.failed c.put_text.ensures.unfailed

pub returns-in-Ok-None-clause-library : goal.returns-in-Ok-None-clause-library
returns-in-Ok-None-clause-library g c = never_library _ _ _ _ _ _ _ c.check_last.result c.in-Ok-None.ensures.library c.check_last.ensures.breaks

pub returns-in-Ok-Some-clause-library : goal.returns-in-Ok-Some-clause-library
returns-in-Ok-Some-clause-library g c = library_unasked _ _ c.put_refused.result c.in-Ok-Some.ensures.library c.put_refused.ensures.fault

pub returns-in-Ok-Some-clause-sink : goal.returns-in-Ok-Some-clause-sink
returns-in-Ok-Some-clause-sink g c = sink_blamed _ _ c.put_refused.result c.put_refused.ensures.fault c.put_refused.ensures.failed c.put_refused.ensures.unfailed

pub returns-in-Err-clause-sink : goal.returns-in-Err-clause-sink
returns-in-Err-clause-sink g c = sink_apart _ _ c.in-Err.fault c.in-Err.ensures.apart refl
