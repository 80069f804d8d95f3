use Rattle.std.proofs.Common.{map, subst}
use Rattle.std.specs.BinaryHeap.{heap_items}
use Rattle.join_dp.specs.Waiting.{waiting_of, IsPut}
use Rattle.join_dp.proofs.Taken.{put}
use Rattle.join_dp.proofs.frontier.Frontier.push.Goals as goal

pub returns-clause-put : goal.returns-clause-put
returns-clause-put c = subst (λ old. IsPut old (c.args.cost.number, c.args.place) (map waiting_of (heap_items c.push.new.self))) c.self.view_is (put (heap_items c.self.inside.heap) (heap_items c.push.new.self) _ c.in_ok-push.ensures.permutation)
