use Rattle.indexes.specs.Keys.{columns_of}
use Rattle.indexes.proofs.MergedRows.{AreMerged}
use Rattle.indexes.proofs.Weaving.{AreSoFar}
use Rattle.indexes.proofs.merging.merged_rows.Given as goal

abbrev pub invariant-loop-row : goal.invariant-loop-row
invariant-loop-row l = record {
  merged : AreMerged (columns_of l.keys) l.old l.further l.rows.items l.from l.row-index l.key_count;
  woven : AreSoFar l.old l.further l.rows.items l.from l.row-index l.places.items;
}
