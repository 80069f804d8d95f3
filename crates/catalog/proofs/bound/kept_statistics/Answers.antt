use Rattle.std.proofs.Common.{rules}
use Rattle.sqlvalue.specs.Meaning.{type_of}
use Rattle.parse_tree.specs.Trees.{statistics_of, range_of}
use Rattle.catalog.proofs.Bounds.{given_refused}
use Rattle.catalog.proofs.bound.kept_statistics.Goals as goal

pub returns-in-Err-clause-refused : goal.returns-in-Err-clause-refused
returns-in-Err-clause-refused c = given_refused (type_of c.args.sql_type) (statistics_of c.args.given.now) (range_of c.in-Some-range.range) c.in-Err.fault (search rules) (c.in-Err.ensures).refused
