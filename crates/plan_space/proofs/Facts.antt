-- The estimates of a space are those of its block.
use Rattle.std.proofs.Common.{◌≡◌, ◌<◌, refl, length, arith}
use Rattle.definitions.specs.Table.{Database}
use Rattle.definitions.specs.Plans.TableSet.{TableSet}
use Rattle.definitions.specs.Estimates.BlockSpace.{space_of}
use Rattle.definitions.specs.Estimates.Cardinality.{cardinality, sort_cost}
use Rattle.definitions.specs.Estimates.Orders.{orders_of}
use Rattle.definitions.specs.Estimates.PlanConjuncts.{plan_conjuncts}
use Rattle.definitions.specs.Estimates.Version.{Version, has_free_products}
use Rattle.definitions.specs.Queries.BoundBlock.{Block}
use Rattle.query_tree.specs.Bound.{block_of}
use Rattle.plan_space.specs.Planned.{Planned, space_in}

pub is_space : (p : Planned) → space_in p ≡ space_of p.version p.database (block_of p.block)
unfolding space_in
is_space p = refl

pub cardinality_is : (p : Planned) (tables : TableSet) → (space_in p).cardinality tables ≡ cardinality p.database (block_of p.block) tables
unfolding space_in
cardinality_is p tables = refl

pub sort_cost_is : (p : Planned) (tables : TableSet) → (space_in p).sort_cost tables ≡ sort_cost p.database (block_of p.block) tables
unfolding space_in
sort_cost_is p tables = refl

pub conjuncts_are : (p : Planned) → (space_in p).conjuncts ≡ plan_conjuncts p.database (block_of p.block)
unfolding space_in
conjuncts_are p = refl

pub frees_products : (p : Planned) → (space_in p).free_products ≡ has_free_products p.version
unfolding space_in
frees_products p = refl

-- the empty order is one
pub some_orders : (version : Version) (db : Database) (block : Block) → 0 < length (orders_of version db block)
some_orders version db block = omega arith
