use Rattle.std.proofs.Common.{◌∙◌, map, arith}
use Rattle.std.specs.Global.{Vec}
use Rattle.std.proofs.lemmas.List.{length-append}
use Rattle.definitions.specs.Estimates.BlockSpace.{space_of}
use Rattle.query_tree.specs.Bound.{block_of}
use Rattle.plan_space.proofs.Listing.{one_table_more}
use Rattle.plan_space.specs.MergeListed.{found_merge_of, AreMergesOf}
use Rattle.plan_space.specs.declared.listed.MergeJoinPath.{MergeJoinPath}
use Rattle.plan_space.proofs.merge_lists.BlockMerges.new.Goals as goal

pub tables-preserved : goal.tables-preserved
tables-preserved c =
    let db = c.args.estimate.now.database in
    let block = block_of c.args.estimate.now.block in
    let before = c.tables.tables.items in
    let new = c.in_ok-table_merges.field-0 in
    rw c.in_ok-push.ensures.items (record {
      len = length-append before _ ∙ omega (arith, c.tables.invariant.len);
      each = λ version of.
          one_table_more (AreMergesOf (space_of version db block)) (λ (v : Vec MergeJoinPath). map found_merge_of v.items) before new c.tables.table
          c.tables.invariant.len (c.tables.invariant.each version of) (c.in_ok-table_merges.ensures version of);
    })

pub returns-clause-merges : goal.returns-clause-merges
returns-clause-merges c = λ version of. λ table lt. c.tables.invariant.each version of table (omega (arith, lt, c.tables.invariant.len))
