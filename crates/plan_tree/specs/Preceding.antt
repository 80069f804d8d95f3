-- Where a state stands among states in rising order.
use Rattle.std.specs.Prelude.{Bool, ◌&&◌, ◌||◌, nat_eq, nat_lt}
use Rattle.definitions.specs.Plans.TableSet.{TableSet}
use Rattle.definitions.specs.Plans.Order.{OrderNumber}
use Rattle.definitions.specs.Plans.Certificate.{StateCost}

-- before the state of a set of tables and an order
abbrev pub precedes : TableSet → OrderNumber → StateCost → Bool
precedes tables order state = nat_lt state.tables tables || nat_eq state.tables tables && nat_lt state.order order

-- it is that state
abbrev pub is_at : TableSet → OrderNumber → StateCost → Bool
is_at tables order state = nat_eq state.tables tables && nat_eq state.order order
