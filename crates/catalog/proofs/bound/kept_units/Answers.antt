use Rattle.sqlvalue.specs.Meaning.{type_of}
use Rattle.parse_tree.specs.Trees.{bound_of}
use Rattle.catalog.proofs.Bounds.{never, bound_is}
use Rattle.catalog.proofs.bound.kept_units.Goals as goal

pub returns-clause-none : goal.returns-clause-none
returns-clause-none c = never (type_of c.args.sql_type) c.units_in.result (bound_of c.args.bound) _ (bound_is c.args.bound.minus c.args.bound.number.units c.args.bound.number.digits c.args.bound.number.scale c.from.result c.from.ensures) c.units_in.ensures.none
