-- What the merges of this crate stand for.
use Rattle.plan_tree.specs.Plans.{path_of}
use Rattle.plan_space.specs.Merge.{Merge}
use Rattle.plan_space.specs.declared.merge_joins.CostedMerge.{CostedMerge}

abbrev pub merge_of : CostedMerge → Merge
merge_of item =
    record {
      conjunct = item.conjunct;
      inner = record { path = path_of item.path.now; sorted = item.sorted };
      cost =
          item.cost.number;
    }
