-- The literals of a script's trees are as they can be written.
use Rattle.definitions.specs.Table.{Database}
use Rattle.definitions.specs.Binding.Formed.{AreWritten}
use Rattle.definitions.proofs.WrittenParts.{written_query}
use Rattle.parse_tree.specs.declared.statement.Select.{Select}
use Rattle.parse_tree.specs.Trees.{select_of}
use Rattle.parse_tree.proofs.Written.{written_block}

pub written : (db : Database) (q : Select) → AreWritten db (select_of q)
written db q = written_query db (select_of q) (written_block q.block)
