use Rattle.std.proofs.Common.{sym, subst}
use Rattle.subqueries.specs.Keeping.{LeavesOut}
use Rattle.subqueries.proofs.KeptPlaces.{left_out_of_one, none_left_out_of_any}
use Rattle.subqueries.proofs.forgetting.forget_all.Goals as goal

pub blocks-2-init : goal.blocks-2-init
blocks-2-init c = none_left_out_of_any c.args.results.now

pub blocks-2-preserved : goal.blocks-2-preserved
blocks-2-preserved c =
    let results = c.blocks-2.results in
    left_out_of_one c.args.results.now results c.blocks-2.number c.index-results-number.result c.forget.new.self (rw c.blocks-2.auto.results c.blocks-2-test.true) c.index-results-number.is
    (subst (λ own. LeavesOut own c.forget.new.self) (sym c.index-results-number.is) c.forget.ensures) c.blocks-2.invariant
