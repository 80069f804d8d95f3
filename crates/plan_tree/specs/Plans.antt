-- What the paths, plans and orders of this crate stand for.
use Rattle.std.specs.Prelude.{List, map}
use Rattle.std.specs.Global.{Vec}
use Rattle.definitions.specs.Plans.Order as o
use Rattle.definitions.specs.Plans.Path as p
use Rattle.definitions.specs.Plans.Plan as spec
use Rattle.query_tree.specs.Bound.{column_of}
use Rattle.plan_tree.specs.declared.order.SortKey.{SortKey}
use Rattle.plan_tree.specs.declared.path.Path.{Path}
use Rattle.plan_tree.specs.declared.path.Path.TheVariants as path
use Rattle.plan_tree.specs.declared.plan.Inner.{Inner}
use Rattle.plan_tree.specs.declared.plan.Plan.{Plan}
use Rattle.plan_tree.specs.declared.plan.Plan.TheOpen.{Plan-F}
use Rattle.plan_tree.specs.declared.plan.Plan.TheOpen as plan
use Rattle.plan_tree.specs.declared.plan.Plan.TheFolds.{fold-Plan}

abbrev pub key_of : SortKey → o.SortKey
key_of k = record { column = column_of k.column; descending = k.descending }

abbrev pub order_of : List SortKey → o.Order
order_of = map key_of

abbrev pub orders_in : List (Vec SortKey) → List o.Order
orders_in = map (λ (keys : Vec SortKey). order_of keys.items)

abbrev pub path_of : Path → p.Path
path_of (path.Segment table) = p.SegmentScan table
path_of (path.Index table index backward) = p.IndexScan table index backward
path_of (path.Match table index conjuncts backward) = p.MatchingScan table index conjuncts.items backward

abbrev pub inner_of : Inner → spec.Inner
inner_of i = record { path = path_of i.path; sorted = i.sorted }

-- one layer of a plan, the plan below it in its place
abbrev pub plan_layer : Plan-F spec.Plan → spec.Plan
plan_layer (plan.Access path) = spec.Access (path_of path)
plan_layer (plan.Loop outer path) = spec.Loop outer.value (path_of path)
plan_layer (plan.Merge outer conjunct inner) = spec.Merge outer.value conjunct (inner_of inner)
plan_layer (plan.Sort input order) = spec.Sort input.value order

abbrev pub plan_of : Plan → spec.Plan
plan_of = fold-Plan spec.Plan plan_layer
