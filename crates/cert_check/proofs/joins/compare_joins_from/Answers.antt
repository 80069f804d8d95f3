use Rattle.std.proofs.Common.{arith, subst, sym, ℕ, ◌≡◌}
use Rattle.plan_space.specs.Planned.{space_in}
use Rattle.plan_tree.specs.Certificates.{state_of, certificate_of}
use Rattle.cert_check.specs.Checks.{IsJoinWith, IsJoinFrom}
use Rattle.cert_check.specs.Comparisons.{comparison_of}
use Rattle.cert_check.proofs.JoinRule.{one_table}
use Rattle.cert_check.proofs.Handing.{Before, at_zero, number_more, number_stops, the_same}
use Rattle.cert_check.proofs.joins.compare_joins_from.Goals as goal

pub tables-init : goal.tables-init
tables-init g c = at_zero g.L.Listener.hears (IsJoinWith (space_in c.args.space.now) (certificate_of c.args.certificate.now) (state_of c.args.from)) _

pub tables-preserved : goal.tables-preserved
tables-preserved g c =
    let space = space_in c.args.space.now in
    let certificate = certificate_of c.args.certificate.now in
    number_more g.L.Listener.hears (IsJoinWith space certificate (state_of c.args.from)) (one_table space certificate (state_of c.args.from)) c.tables.table _ _ _ c.tables.invariant c.in_default.ensures

pub returns-in-Some : goal.returns-in-Some
returns-in-Some g c =
    let space = space_in c.args.space.now in
    let certificate = certificate_of c.args.certificate.now in
    number_stops g.L.Listener.hears (IsJoinWith space certificate (state_of c.args.from)) (one_table space certificate (state_of c.args.from)) c.tables.table _ _ _ c.tables.invariant space.table_count (comparison_of c.in-Some.last) (omega (arith, c.tables-test.true, c.table_count-table-end.ensures.exact)) c.in-Some.ensures

pub returns : goal.returns
returns g c =
    let space = space_in c.args.space.now in
    let certificate = certificate_of c.args.certificate.now in
    let from = state_of c.args.from in
    let is_end : c.tables.table ≡ space.table_count = omega (arith, c.tables-test.false, c.tables.auto.table-end, c.table_count-table-end.ensures.exact) in
    the_same g.L.Listener.hears (Before (IsJoinWith space certificate from) c.tables.table) (IsJoinFrom space certificate from) _ _ _ c.tables.invariant
    (λ x is. subst (λ (n : ℕ). Before (IsJoinWith space certificate from) n x) is_end is)
    (λ e x is. subst (λ (n : ℕ). Before (IsJoinWith space certificate from) n x) (sym is_end) is)
