use Rattle.std.proofs.Common.{sym, subst}
use Rattle.definitions.specs.Plans.PlanSpace.{MayFollow}
use Rattle.definitions.specs.Plans.TableSet.{TableSet}
use Rattle.plan_space.proofs.Deciding.{holds, fails}
use Rattle.plan_space.specs.Planned.{space_in}
use Rattle.plan_tree.specs.Certificates.{state_of, certificate_of}
use Rattle.plan_tree.specs.Sets.{set_of}
use Rattle.cert_check.specs.Comparisons.{comparison_of}
use Rattle.cert_check.proofs.JoinRule.{none_follows, loops_stop, joins_with}
use Rattle.cert_check.proofs.joins.compare_joins_with.Goals as goal

pub returns-then-not-can_join_next : goal.returns-then-not-can_join_next
returns-then-not-can_join_next g c =
    none_follows (space_in c.args.space.now) (certificate_of c.args.certificate.now) (state_of c.args.from) c.args.table g.L.Listener.hears _ (λ may. fails _ (c.if-not-can_join_next.ensures (space_in c.args.space.now) c.requires.outer c.requires.table) (subst (λ (s : TableSet). MayFollow (space_in c.args.space.now) s c.args.table) (sym c.requires.from) may))

pub returns-in-Some : goal.returns-in-Some
returns-in-Some g c =
    let space = space_in c.args.space.now in
    let certificate = certificate_of c.args.certificate.now in
    loops_stop space certificate (state_of c.args.from) c.args.table g.L.Listener.hears _ (subst (λ (s : TableSet). MayFollow space s c.args.table) c.requires.from (holds _ (c.if-not-can_join_next.ensures space c.requires.outer c.requires.table))) (set_of c.with-tables.result) c.fold-order.result c.bound-bound.result c.with-tables.ensures
    c.fold-order.ensures.exact c.bound-bound.ensures _ (comparison_of c.in-Some.last) c.in-Some.ensures

pub returns : goal.returns
returns g c =
    let space = space_in c.args.space.now in
    let certificate = certificate_of c.args.certificate.now in
    joins_with space certificate (state_of c.args.from) c.args.table g.L.Listener.hears _ (subst (λ (s : TableSet). MayFollow space s c.args.table) c.requires.from (holds _ (c.if-not-can_join_next.ensures space c.requires.outer c.requires.table))) (set_of c.with-tables.result) c.fold-order.result c.bound-bound.result c.with-tables.ensures
    c.fold-order.ensures.exact c.bound-bound.ensures _ _ _ c.in_default.ensures c.compare_merges.ensures
