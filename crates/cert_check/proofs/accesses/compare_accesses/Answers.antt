use Rattle.std.proofs.Common.{arith, subst, sym, ℕ, ◌≡◌}
use Rattle.definitions.specs.Plans.Checking.{Accesses}
use Rattle.plan_space.specs.Planned.{space_in}
use Rattle.plan_tree.specs.Certificates.{certificate_of}
use Rattle.cert_check.specs.Checks.{IsAccessOf}
use Rattle.cert_check.specs.Compared.{IsCompared}
use Rattle.cert_check.specs.Comparisons.{comparison_of}
use Rattle.cert_check.proofs.AccessRule.{one_table, access_is, access_of}
use Rattle.cert_check.proofs.Handing.{Before, at_zero, number_more, number_stops, the_same}
use Rattle.cert_check.proofs.accesses.compare_accesses.Goals as goal

pub tables-init : goal.tables-init
tables-init g c = at_zero g.L.Listener.hears (IsAccessOf (space_in c.args.space.now) (certificate_of c.args.certificate.now)) _

pub tables-preserved : goal.tables-preserved
tables-preserved g c =
    number_more g.L.Listener.hears (IsAccessOf (space_in c.args.space.now) (certificate_of c.args.certificate.now)) (one_table (space_in c.args.space.now) (certificate_of c.args.certificate.now)) c.tables.table _ _ _ c.tables.invariant c.in_default.ensures

pub returns-in-Some : goal.returns-in-Some
returns-in-Some g c =
    let space = space_in c.args.space.now in
    let certificate = certificate_of c.args.certificate.now in
    let count = space.table_count in
    the_same g.L.Listener.hears (Before (IsAccessOf space certificate) count) (IsCompared space certificate Accesses) _ _ _
    (number_stops g.L.Listener.hears (IsAccessOf space certificate) (one_table space certificate) c.tables.table _ _ _ c.tables.invariant count (comparison_of c.in-Some.last) (omega (arith, c.tables-test.true, c.table_count-table-end.ensures.exact)) c.in-Some.ensures)
    (access_is space certificate) (λ e. absurd cc)

pub returns : goal.returns
returns g c =
    let space = space_in c.args.space.now in
    let certificate = certificate_of c.args.certificate.now in
    let is_end : c.tables.table ≡ space.table_count = omega (arith, c.tables-test.false, c.tables.auto.table-end, c.table_count-table-end.ensures.exact) in
    the_same g.L.Listener.hears (Before (IsAccessOf space certificate) c.tables.table) (IsCompared space certificate Accesses) _ _ _ c.tables.invariant
    (λ x is. access_is space certificate x (subst (λ (n : ℕ). Before (IsAccessOf space certificate) n x) is_end is))
    (λ e x is. subst (λ (n : ℕ). Before (IsAccessOf space certificate) n x) (sym is_end) (access_of space certificate x is))
