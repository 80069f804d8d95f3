-- The faults of a FROM are faults of its block.
use Rattle.definitions.specs.Statement.{block_sources}
use Rattle.definitions.specs.Table.{Database}
use Rattle.definitions.specs.Refusal.{Refusal}
use Rattle.definitions.specs.Binding.Parts.{PlacedBlock}
use Rattle.definitions.specs.Binding.Faults as block
use Rattle.definitions.specs.Binding.Faults.{BlockFaulty}
use Rattle.query_rules.specs.SourceFaults.{SourcesFaulty, name_twice, no_table, many_tables}

pub block_faulty : (db : Database) (p : PlacedBlock) (r : Refusal) → SourcesFaulty db (block_sources p.block) r → BlockFaulty db p r
block_faulty db p r (name_twice h) = block.name_twice h
block_faulty db p r (no_table h) = block.no_table h
block_faulty db p r (many_tables h) = block.many_tables h
