use Rattle.std.proofs.Common.{◌≡◌, ◌-◌, length}
use Rattle.sqlr.proofs.Turns.{RanTo}
use Rattle.sqlr.proofs.session.Session.run_statements.Given as goal

abbrev pub invariant-statements : goal.invariant-statements
invariant-statements g l = record {
  ran : RanTo g.L.Library.answers l.tokens l.fn.self l.at l.self (g.S.Sink.taken l.fn.sink) (g.S.Sink.taken l.sink) l.ended;
  fetches : g.L.Library.failures l.self.library ≡ g.L.Library.failures l.fn.self.library;
  puts : g.S.Sink.failures l.sink ≡ g.S.Sink.failures l.fn.sink;
}

abbrev pub decreases-statements : goal.decreases-statements
decreases-statements g l = length l.tokens - l.at
