use Rattle.std.proofs.Common.{map}
use Rattle.parse_tree.specs.Trees.{select_of}
use Rattle.query_tree.specs.Bound.{block_of}
use Rattle.cases_plans.proofs.WholeQuery.{blocks_answerable, blocks_formed, written}
use Rattle.cases_plans.proofs.blocks.bound.Goals as goal

pub returns-clause-formed : goal.returns-clause-formed
returns-clause-formed c = c.in-Ok.ensures.formed (written c.args.database.now c.args.select.now)

pub returns-clause-each : goal.returns-clause-each
returns-clause-each c =
    blocks_formed c.args.database.now (select_of c.args.select.now) (map block_of c.in-Ok.blocks.items) c.tables-tables.ensures.valid (written c.args.database.now c.args.select.now) c.in-Ok.ensures.bound

pub returns-clause-answerable : goal.returns-clause-answerable
returns-clause-answerable c =
    blocks_answerable c.args.database.now (select_of c.args.select.now) (map block_of c.in-Ok.blocks.items) (written c.args.database.now c.args.select.now) c.in-Ok.ensures.bound
