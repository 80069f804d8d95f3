use Rattle.definitions.proofs.EstimateTheory.PathOrders.{path_order_numbered}
use Rattle.definitions.proofs.estimates.path_order_is_numbered.Goals as goal

pub returns : goal.returns
returns c version db block tables table path lt there = path_order_numbered version db block tables table path lt there
