use Rattle.std.proofs.Common.{◌∙◌, length, None, arith}
use Rattle.plan_tree.specs.Sets.{set_of}
use Rattle.join_dp.proofs.Slots.{read_at, place_within}
use Rattle.join_dp.proofs.state_costs.StateCosts.is_settled.Goals as goal

pub overflow_add-start : goal.overflow_add-start
overflow_add-start c =
    let here = read_at c.args.self.now.rows.items c.place.result (set_of c.args.tables) c.index.result.now None c.index.ensures c.place.ensures.exact c.requires.set ∙ c.in-Some.is in
    let w = place_within c.args.self.now.orders c.args.self.now.rows.items (length c.args.self.now.costs.items) c.args.self.now.apart (set_of c.args.tables) c.args.order c.in-Some.start here c.requires.order in
    omega (arith, w, c.args.self.now.costs.small, c.args.self.now.costs.ok.0, c.args.self.now.costs.ok.1)

pub index-requires-in-Some : goal.index-requires-in-Some
index-requires-in-Some c =
    let here = read_at c.args.self.now.rows.items c.place.result (set_of c.args.tables) c.index.result.now None c.index.ensures c.place.ensures.exact c.requires.set ∙ c.in-Some.is in
    let w = place_within c.args.self.now.orders c.args.self.now.rows.items (length c.args.self.now.costs.items) c.args.self.now.apart (set_of c.args.tables) c.args.order c.in-Some.start here c.requires.order in
    omega (arith, w, c.args.self.now.clear.enough, c.args.self.now.settled.small, c.args.self.now.settled.ok.0, c.args.self.now.settled.ok.1)
