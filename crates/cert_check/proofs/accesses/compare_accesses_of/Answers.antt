use Rattle.std.proofs.Common.{subst}
use Rattle.definitions.specs.Plans.TableSet.{TableSet, no_tables}
use Rattle.plan_tree.specs.Sets.{set_of}
use Rattle.plan_tree.specs.Certificates.{certificate_of}
use Rattle.plan_space.specs.Item.{AreItems}
use Rattle.plan_space.specs.Items.{item_of}
use Rattle.plan_space.specs.Planned.{space_in}
use Rattle.cert_check.specs.Checks.{IsAccessOf}
use Rattle.cert_check.proofs.AccessRule.{AccessBy, access_with, is_access, one_is, access_apart, access_of_item, item_of_access}
use Rattle.cert_check.proofs.Handing.{begins, goes_on, stops, item_more, item_stops, ends}
use Rattle.cert_check.proofs.accesses.compare_accesses_of.Goals as goal

pub paths-init : goal.paths-init
paths-init g c =
    let space = space_in c.args.space.now in
    let are = subst (λ (known : TableSet). AreItems space known c.args.table c.paths-item-items.result) c.none.ensures c.paths-item-items.ensures in
    rw c.into_iter-item-iterator.ensures.into_iter_gives (begins g.L.Listener.hears (AccessBy space (certificate_of c.args.certificate.now) c.args.table) (AreItems space no_tables c.args.table) _ _ are)

pub paths-preserved : goal.paths-preserved
paths-preserved g c =
    let space = space_in c.args.space.now in
    let certificate = certificate_of c.args.certificate.now in
    let table = c.args.table in
    let item = item_of c.in-Some.item in
    let x = access_with space certificate table item (set_of c.only-tables.result) c.fold-order.result c.bound.result in
    let is = is_access space certificate table item (set_of c.only-tables.result) c.fold-order.result c.bound.result c.only-tables.ensures c.bound.ensures c.fold-order.ensures.exact in
    let one = one_is space certificate table item (set_of c.only-tables.result) c.fold-order.result c.bound.result c.only-tables.ensures c.bound.ensures c.fold-order.ensures.exact in
    item_more g.L.Listener.hears (AccessBy space certificate table) (AreItems space no_tables table) _ _ _ _ _ item c.in-Some.ensures.steps c.paths.invariant
    (λ done are. access_apart space certificate table done _ item are) (goes_on g.L.Listener.hears (AccessBy space certificate table item) _ _ x c.if-not-hear.ensures is one)

pub returns-then-not-hear : goal.returns-then-not-hear
returns-then-not-hear g c =
    let space = space_in c.args.space.now in
    let certificate = certificate_of c.args.certificate.now in
    let table = c.args.table in
    let item = item_of c.in-Some.item in
    let x = access_with space certificate table item (set_of c.only-tables.result) c.fold-order.result c.bound.result in
    let is = is_access space certificate table item (set_of c.only-tables.result) c.fold-order.result c.bound.result c.only-tables.ensures c.bound.ensures c.fold-order.ensures.exact in
    item_stops g.L.Listener.hears (AccessBy space certificate table) (AreItems space no_tables table) _ _ _ _ _ item c.in-Some.ensures.steps c.paths.invariant
    (λ done are. access_apart space certificate table done _ item are) (IsAccessOf space certificate table) x (access_of_item space certificate table)
    (stops g.L.Listener.hears (AccessBy space certificate table item) _ _ x c.if-not-hear.ensures is)

pub returns : goal.returns
returns g c =
    let space = space_in c.args.space.now in
    let certificate = certificate_of c.args.certificate.now in
    let table = c.args.table in
    ends g.L.Listener.hears (AccessBy space certificate table) (AreItems space no_tables table) (IsAccessOf space certificate table) _ _ _ c.in-None.ensures.steps.0 c.paths.invariant (access_of_item space certificate table) (item_of_access space certificate table)
