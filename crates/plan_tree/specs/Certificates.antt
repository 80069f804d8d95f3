-- What the certificates of this crate stand for.
use Rattle.std.specs.Prelude.{map}
use Rattle.definitions.specs.Plans.Certificate as spec
use Rattle.plan_tree.specs.Sets.{set_of}
use Rattle.plan_tree.specs.declared.states.State.{State}
use Rattle.plan_tree.specs.declared.states.Certificate.{Certificate}

abbrev pub state_of : State → spec.StateCost
state_of s = record { tables = set_of s.tables; order = s.order; cost = s.cost }

abbrev pub certificate_of : Certificate → spec.Certificate
certificate_of c = record { target = c.target; states = map state_of c.states.items }
