use Rattle.std.proofs.Common.{map}
use Rattle.query_tree.specs.Bound.{block_of}
use Rattle.parse_tree.specs.Trees.{select_of}
use Rattle.sqlr.proofs.Explained.{blocks_formed, blocks_few}
use Rattle.sqlr.proofs.Written.{written}
use Rattle.sqlr.proofs.checked.check_blocks.Goals as goal

pub check_file-requires-clause-formed : goal.check_file-requires-clause-formed
check_file-requires-clause-formed c =
    blocks_formed c.args.database.now (select_of c.args.query.now) (map block_of c.args.blocks.now) c.tables-tables.ensures.valid (written c.args.database.now c.args.query.now) c.requires

pub check_file-requires-clause-few : goal.check_file-requires-clause-few
check_file-requires-clause-few c = blocks_few c.args.database.now (select_of c.args.query.now) c.args.blocks.now c.requires
