use Rattle.std.proofs.Common.{◌≡◌, ◌∙◌, sym, ap, subst, [], List, map}
use Rattle.std.specs.Global.{Vec}
use Rattle.std.proofs.lemmas.List.{get_or-map}
use Rattle.plan_tree.specs.Sets.{set_of}
use Rattle.plan_space.specs.Merge.{FoundMerge}
use Rattle.plan_space.specs.MergeListed.{found_merge_of, AreMergesOf}
use Rattle.plan_space.specs.MergeLists.{merges_at}
use Rattle.plan_space.specs.declared.listed.MergeJoinPath.{MergeJoinPath}
use Rattle.plan_space.proofs.Opening.{are_merges}
use Rattle.plan_space.proofs.merge_lists.BlockMerges.merges.Goals as goal

pub returns : goal.returns
returns c = λ space are pairs.
    let a = c.args in
    let xs = map found_merge_of c.deref.result.now in
    let here : merges_at a.self.now a.table ≡ xs =
    get_or-map (λ (v : Vec MergeJoinPath). map found_merge_of v.items) a.self.now.tables.items a.table c.index.result.now [] c.requires
    ∙ ap (λ (v : Vec MergeJoinPath). map found_merge_of v.items) (sym c.index.ensures) ∙ ap (map found_merge_of) (sym c.deref.ensures.value) in
    rw c.new.ensures (are_merges space (set_of a.tables) a.table a.pairs pairs xs (subst (λ (ys : List FoundMerge). AreMergesOf space a.table ys) here (are a.table c.requires)))
