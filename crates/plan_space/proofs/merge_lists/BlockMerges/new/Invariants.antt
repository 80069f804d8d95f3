use Rattle.std.proofs.Common.{◌≡◌, length, map}
use Rattle.std.specs.Global.{Vec}
use Rattle.definitions.specs.Estimates.Version.{Version}
use Rattle.plan_space.specs.MergeSources.{estimated_space, AreOfBlock}
use Rattle.plan_space.proofs.Listing.{AreFirst}
use Rattle.plan_space.specs.MergeListed.{found_merge_of, AreMergesOf}
use Rattle.plan_space.specs.declared.listed.MergeJoinPath.{MergeJoinPath}
use Rattle.plan_space.proofs.merge_lists.BlockMerges.new.Given as goal

abbrev pub invariant-tables : goal.invariant-tables
invariant-tables l = record {
  len : length l.tables.items ≡ l.table;
  each : (version : Version) → AreOfBlock version l.estimate l.paths l.uses
      → AreFirst (AreMergesOf (estimated_space version l.estimate)) (λ (v : Vec MergeJoinPath). map found_merge_of v.items) l.tables.items l.table;
}
