-- What the merges of this crate say of a space.
use Rattle.std.specs.Prelude.{ℕ, ◌<◌, List, [], length, map, get_or}
use Rattle.std.specs.Global.{Vec}
use Rattle.definitions.specs.Plans.Space.{Space}
use Rattle.plan_space.specs.Merge.{FoundMerge}
use Rattle.plan_space.specs.MergeListed.{found_merge_of, AreMergesOf}
use Rattle.plan_space.specs.declared.listed.MergeJoinPath.{MergeJoinPath}
use Rattle.plan_space.specs.declared.merge_lists.BlockMerges.{BlockMerges}

abbrev pub tables_in : BlockMerges → ℕ
tables_in m = length m.tables.items

abbrev pub merges_at : BlockMerges → ℕ → List FoundMerge
merges_at m table = get_or (map (λ (xs : Vec MergeJoinPath). map found_merge_of xs.items) m.tables.items) table []

-- of each table they are its merges
abbrev pub AreBlockMerges : Space → BlockMerges → Type 0
AreBlockMerges space m = (table : ℕ) → table < tables_in m → AreMergesOf space table (merges_at m table)
