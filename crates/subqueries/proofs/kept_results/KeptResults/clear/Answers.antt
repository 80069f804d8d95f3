use Rattle.std.proofs.Common.{ap, set, arith}
use Rattle.std.proofs.lemmas.Bool.Decides.{nat_tests}
use Rattle.subqueries.proofs.KeptPlaces.{one_emptied}
use Rattle.subqueries.proofs.kept_results.KeptResults.clear.Goals as goal

pub returns-then-place-self-clause-left : goal.returns-then-place-self-clause-left
returns-then-place-self-clause-left c =
    let own = c.args.self.now in
    let items = set own.places.items c.args.place in
    one_emptied own c.args.place (items c.take-given_up.new.self) (ap items c.take-given_up.ensures.after) (λ e. grind (arith, nat_tests, c.if-place-self.true, e))
