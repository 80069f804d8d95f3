use Rattle.std.proofs.Common.{sym}
use Rattle.parse_tree.specs.Trees.{select_of}
use Rattle.sqlr.proofs.CheckingRuns.{refused_put, refused_begun}
use Rattle.sqlr.proofs.CheckingRuns.{sink_blamed}
use Rattle.sqlr.proofs.session.Session.check_last.Goals as goal

pub returns-in-Ok-Refused-clause-checks : goal.returns-in-Ok-Refused-clause-checks
returns-in-Ok-Refused-clause-checks g c =
    rw (sym c.self.view_is) (refused_put _ _ _ _ _ (select_of c.in-Some.query.now) c.in-Ok-Refused.printed c.put_refused.result c.in-Some.ensures (rw c.in-Ok-Refused.field-0-is at c.in-Ok-Refused.ensures.bound) c.put_refused.ensures.ended c.put_refused.ensures.taken)

pub returns-in-Ok-Refused-clause-breaks : goal.returns-in-Ok-Refused-clause-breaks
returns-in-Ok-Refused-clause-breaks g c =
    rw (sym c.self.view_is) (refused_begun _ _ _ _ _ (select_of c.in-Some.query.now) c.in-Ok-Refused.printed c.put_refused.result c.in-Some.ensures (rw c.in-Ok-Refused.field-0-is at c.in-Ok-Refused.ensures.bound) c.put_refused.ensures.fault c.put_refused.ensures.begun)

pub check_bound-requires-clause-blocks : goal.check_bound-requires-clause-blocks
check_bound-requires-clause-blocks g c = rw (sym c.self.view_is) (rw c.deref.ensures.value (rw c.in-Ok-Blocks.field-0-is at c.in-Ok-Blocks.ensures.bound))

pub returns-in_default-clause-sink : goal.returns-in_default-clause-sink
returns-in_default-clause-sink g c = sink_blamed _ _ c.put_text.result c.put_text.ensures.fault c.put_text.ensures.failed c.put_text.ensures.unfailed

pub returns-in-Ok-Refused-clause-sink : goal.returns-in-Ok-Refused-clause-sink
returns-in-Ok-Refused-clause-sink g c = sink_blamed _ _ c.put_refused.result c.put_refused.ensures.fault c.put_refused.ensures.failed c.put_refused.ensures.unfailed
