use Rattle.plan_space.specs.Planned.{space_in}
use Rattle.std.proofs.Common.{◌∙◌, ap}
use Rattle.std.proofs.lemmas.Result.{IfOk-weaker}
use Rattle.plan_tree.specs.Sets.{set_of}
use Rattle.join_dp.specs.JoinLists.{IsListed}
use Rattle.join_dp.specs.Searched.{AreSortsTaken}
use Rattle.join_dp.specs.Searching.{cost_at}
use Rattle.join_dp.specs.StatePlans.{StatePlan, at}
use Rattle.join_dp.specs.States.{search_of, states_in}
use Rattle.join_dp.proofs.JoinsListed.{sorts_taken}
use Rattle.join_dp.proofs.taking.list_joins.Goals as goal

pub returns-clause-sorts : goal.returns-clause-sorts
returns-clause-sorts c =
    let tables = ap set_of c.relation-outer.ensures.tables ∙ ap (λ (x : StatePlan). x.tables) c.at.ensures in
    IfOk-weaker c.list.result _ (λ r. AreSortsTaken (space_in c.args.space.now) (at (states_in c.args.states.now) c.args.place) (IsListed c.args.lists.now) (IsListed c.list.new.self) (cost_at (search_of c.take_sorts.new.states)))
    (λ r others. sorts_taken (space_in c.args.space.now) (at (states_in c.args.states.now) c.args.place) c.args.lists.now c.list.new.self (set_of c.relation-outer.result.tables) (cost_at (search_of c.take_sorts.new.states)) tables others c.in_ok-take_sorts.ensures.low) c.list.ensures.others
