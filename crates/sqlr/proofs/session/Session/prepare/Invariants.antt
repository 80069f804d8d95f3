use Rattle.std.proofs.Common.{◌≡◌}
use Rattle.sqlr.proofs.Preparing.{PreparedTo}
use Rattle.sqlr.proofs.session.Session.prepare.Given as goal

abbrev pub invariant-statements : goal.invariant-statements
invariant-statements g l = record {
  prepared : PreparedTo g.L.Library.answers l.fn.self l.statements l.statement-index l.self;
  fetches : g.L.Library.failures l.self.library ≡ g.L.Library.failures l.fn.self.library;
}
