use Rattle.std.proofs.Common.{◌≡◌, ◌≤◌, drop}
use Rattle.std.specs.Prelude.{fold, map}
use Rattle.definitions.specs.Table.{Database}
use Rattle.definitions.specs.Queries.BoundBlock.{Block}
use Rattle.definitions.specs.Plans.Cost.{share}
use Rattle.definitions.specs.Estimates.Fractions.{million, either_of}
use Rattle.definitions.specs.Estimates.Selectivity.{selectivity, selectivities}
use Rattle.query_tree.specs.Bound.{condition_of, conditions}
use Rattle.estimate.specs.Tables.{tables_of, AreTablesOf}
use Rattle.estimate.proofs.conditions.+part_selectivity.Given as goal

abbrev pub decreases-part_selectivity : goal.decreases-part_selectivity
decreases-part_selectivity l = goal.size-part_selectivity l

abbrev pub invariant-all : goal.invariant-all
invariant-all l = record {
  below : l.left ≤ million;
  so_far : (db : Database) (block : Block) → AreTablesOf db block (tables_of l.tables) → fold share l.left (selectivities db block (conditions (map condition_of (drop l.part-index l.part-items)))) ≡ selectivity db block (condition_of l.condition);
}

abbrev pub invariant-any : goal.invariant-any
invariant-any l = record {
  below : l.met ≤ million;
  so_far : (db : Database) (block : Block) → AreTablesOf db block (tables_of l.tables) → fold either_of l.met (selectivities db block (conditions (map condition_of (drop l.part-index l.part-items)))) ≡ selectivity db block (condition_of l.condition);
}
