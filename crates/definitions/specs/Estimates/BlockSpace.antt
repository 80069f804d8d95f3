-- The plan space of a block, in each version: what the theory of plans is applied to.
use Rattle.std.specs.Prelude.{length}
use Rattle.definitions.specs.Table.{Database}
use Rattle.definitions.specs.Plans.Numbering.{number_of}
use Rattle.definitions.specs.Plans.Space.{Space}
use Rattle.definitions.specs.Queries.BoundBlock.{Block}
use Rattle.definitions.specs.Estimates.PlanConjuncts.{plan_conjuncts}
use Rattle.definitions.specs.Estimates.Cardinality.{cardinality, sort_cost}
use Rattle.definitions.specs.Estimates.Version.{Version, has_free_products}
use Rattle.definitions.specs.Estimates.Orders.{required_of, orders_of, order_of_path}
use Rattle.definitions.specs.Estimates.Paths.{paths_of}
use Rattle.definitions.specs.Estimates.PathCost.{path_cost}

abbrev pub space_of : Version → Database → Block → Space
space_of version db block = record {
  table_count = length block.tables;
  conjuncts = plan_conjuncts db block;
  required = required_of block;
  orders = orders_of version db block;
  free_products = has_free_products version;
  paths = paths_of version db block;
  path_order = λ path. number_of (orders_of version db block) (order_of_path db block path);
  path_cost = path_cost db block;
  cardinality = cardinality db block;
  sort_cost = sort_cost db block;
}
