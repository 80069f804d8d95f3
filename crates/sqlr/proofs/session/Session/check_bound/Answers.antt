use Rattle.std.proofs.Common.{sym}
use Rattle.parse_tree.specs.Trees.{select_of}
use Rattle.sqlr.proofs.CheckingRuns.{binds_of, told_put, told_begun}
use Rattle.sqlr.proofs.Explained.{blocks_formed}
use Rattle.sqlr.proofs.Written.{written}
use Rattle.sqlr.proofs.CheckingRuns.{sink_blamed}
use Rattle.sqlr.proofs.session.Session.check_bound.Goals as goal

pub report_certificates-requires : goal.report_certificates-requires
report_certificates-requires g c =
    blocks_formed c.self.inside.database (select_of c.args.query.now) _ c.tables-tables.ensures.valid (written c.self.inside.database c.args.query.now)
    (binds_of c.self.inside.database (select_of c.args.query.now) c.args.certificates.now c.in-Ok.checked c.in-Ok.ensures)

pub returns-in-Ok-clause-checks : goal.returns-in-Ok-clause-checks
returns-in-Ok-clause-checks g c =
    rw (sym c.self.view_is) (told_put _ _ _ _ _ (select_of c.args.query.now) c.in-Ok.checked c.end_of.result c.put_text.result c.requires.query c.in-Ok.ensures c.end_of.ensures c.put_text.ensures.ended (rw (c.deref-in-Ok.ensures.value, c.report_certificates.ensures.taken) at c.put_text.ensures.taken))

pub returns-in-Ok-clause-breaks : goal.returns-in-Ok-clause-breaks
returns-in-Ok-clause-breaks g c =
    rw (sym c.self.view_is) (told_begun _ _ _ _ _ (select_of c.args.query.now) c.in-Ok.checked c.put_text.result c.requires.query c.in-Ok.ensures c.put_text.ensures.fault (rw (c.deref-in-Ok.ensures.value, c.report_certificates.ensures.taken) at c.put_text.ensures.begun))

pub returns-in-Ok-clause-sink : goal.returns-in-Ok-clause-sink
returns-in-Ok-clause-sink g c =
    rw c.report_certificates.ensures.counted at (sink_blamed _ _ c.put_text.result c.put_text.ensures.fault c.put_text.ensures.failed c.put_text.ensures.unfailed)
