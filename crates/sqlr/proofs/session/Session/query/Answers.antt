use Rattle.std.proofs.Common.{sym, ap}
use Rattle.sqlr.proofs.Taking.{query_taken}
use Rattle.sqlr.proofs.session.Session.query.Goals as goal

pub returns-clause-takes : goal.returns-clause-takes
returns-clause-takes g c =
    rw (sym c.self.view_is) (query_taken _ (record { library = c.self.inside.library; database = c.self.inside.database; work = c.self.inside.work }) _ _ c.in_ok-printed.printed c.in_ok-printed.ensures.answers
    (ap (λ w. record { library = c.self.inside.library; database = c.self.inside.database; work = w }) c.unwrap_or-self-inside.ensures))
