use Rattle.plan_space.specs.Planned.{space_in}
use Rattle.std.proofs.Common.{ap, length, subst, sym, arith}
use Rattle.std.proofs.Math.Pow.{pow-lt}
use Rattle.std.proofs.lemmas.List.{length-map}
use Rattle.plan_space.specs.Item.{Item}
use Rattle.plan_space.specs.Items.{item_of}
use Rattle.join_dp.specs.Searching.{cost_at, IsOffer}
use Rattle.join_dp.specs.States.{search_of}
use Rattle.join_dp.specs.Steps.{AccessOf}
use Rattle.join_dp.proofs.Leading.{accesses_begin, access_numbered, access_offer, accesses_go, ends_low}
use Rattle.join_dp.proofs.accesses.take_accesses_of.Goals as goal

pub only-tables-requires : goal.only-tables-requires
only-tables-requires c = omega (arith, c.requires.few, c.requires.table)

pub paths-init : goal.paths-init
paths-init c =
    let are = rw c.none.ensures at c.paths-item-items.ensures in
    let few = ap length are.paths in
    rw c.into_iter-item-iterator.ensures.into_iter_gives (accesses_begin (space_in c.args.space.now) c.args.table (search_of c.args.states.now) _ c.requires.is_open are, omega (arith, few, length-map c.paths-item-items.result (λ (x : Item). x.path)))

pub offer-requires-clause-set : goal.offer-requires-clause-set
offer-requires-clause-set c =
    let e = c.paths.invariant.0.is_open.sets in
    rw c.only-tables.ensures (omega (arith, e, pow-lt c.requires.table))

pub offer-requires-clause-order : goal.offer-requires-clause-order
offer-requires-clause-order c =
    let e = c.paths.invariant.0.is_open.orders in
    let n = access_numbered (space_in c.args.space.now) c.args.table (search_of c.args.states.now) (search_of c.paths.states) _ _ (item_of c.in-Some.item) c.fold.result c.requires.table c.in-Some.ensures.steps c.fold.ensures.within (rw c.only-tables.ensures at c.fold.ensures.exact) c.paths.invariant.0 in
    omega (arith, e, n)

pub paths-preserved : goal.paths-preserved
paths-preserved c =
    let folds = rw c.only-tables.ensures at c.fold.ensures.exact in
    let off = access_offer (space_in c.args.space.now) c.args.table (search_of c.args.states.now) (search_of c.paths.states) _ _ (item_of c.in-Some.item) c.fold.result c.requires.table c.in-Some.ensures.steps c.fold.ensures.within folds c.paths.invariant.0 c.in-Some.item.cost.bounded in
    let off' = subst (λ t. IsOffer (space_in c.args.space.now) 0 (search_of c.paths.states) t c.fold.result (record { step = AccessOf (item_of c.in-Some.item).path; cost = (item_of c.in-Some.item).cost })) (sym c.only-tables.ensures) off in
    let here = rw c.only-tables.ensures at c.in_ok-offer.ensures.here in (
      accesses_go (space_in c.args.space.now) c.args.table (search_of c.args.states.now) (search_of c.paths.states) _ _ (item_of c.in-Some.item) c.fold.result c.requires.table c.in-Some.ensures.steps c.fold.ensures.within folds c.paths.invariant.0
          (search_of c.offer.new.self) (c.in_ok-offer.ensures.is_open (space_in c.args.space.now) 0 off') (c.in_ok-offer.ensures.more (space_in c.args.space.now) 0 off') here,
      omega (arith, c.in_ok-offer.ensures.steps, ap length c.in-Some.ensures.steps, c.paths.invariant.1),
    )

pub returns-clause-is_open : goal.returns-clause-is_open
returns-clause-is_open c = c.paths.invariant.0.is_open

pub returns-clause-more : goal.returns-clause-more
returns-clause-more c = c.paths.invariant.0.more

pub returns-clause-low : goal.returns-clause-low
returns-clause-low c = ends_low _ _ _ (cost_at (search_of c.paths.states)) _ c.in-None.ensures.steps.0 c.paths.invariant.0.leads

pub returns-clause-steps : goal.returns-clause-steps
returns-clause-steps c = let le = c.paths.invariant.1 in omega (arith, le)
