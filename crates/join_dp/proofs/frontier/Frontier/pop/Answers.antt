use Rattle.std.proofs.Common.{map, subst, rules}
use Rattle.std.specs.BinaryHeap.{heap_items}
use Rattle.join_dp.specs.Waiting.{waiting_of, IsTaken}
use Rattle.join_dp.proofs.Taken.{taken}
use Rattle.join_dp.proofs.frontier.Frontier.pop.Goals as goal
use Rattle.join_dp.proofs.frontier.Frontier.pop.Goals.{in-Some, in-None}

pub returns-clause-taken : goal.returns-clause-taken
returns-clause-taken c =
    elim c.match-pop.branch [
      | in-Some w ↦ rw w.result-is (subst (λ old. IsTaken old (waiting_of (w.in-Some.field-0-0, w.in-Some.place)) (map waiting_of (heap_items c.pop.new.self))) c.self.view_is
          (taken (heap_items c.self.inside.heap) (heap_items c.pop.new.self) (w.in-Some.field-0-0, w.in-Some.place) w.in-Some.ensures.permutation (w.in-Some.ensures.heap_order c.self.invariant).1))
      | in-None w ↦ rw w.result-is (search rules)
    ]
