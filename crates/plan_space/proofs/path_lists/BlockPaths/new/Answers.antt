use Rattle.std.proofs.Common.{◌∙◌, map, arith}
use Rattle.std.specs.Global.{Vec}
use Rattle.std.proofs.lemmas.List.{length-append}
use Rattle.query_tree.specs.Bound.{block_of}
use Rattle.plan_tree.specs.Versions.{version_of}
use Rattle.plan_space.specs.PathListed.{AreListed, listed_path_of}
use Rattle.plan_space.specs.declared.path_lists.NumberedPath.{NumberedPath}
use Rattle.plan_space.proofs.Listing.{one_table_more}
use Rattle.plan_space.proofs.path_lists.BlockPaths.new.Goals as goal

pub tables-preserved : goal.tables-preserved
tables-preserved c =
    let before = c.tables.tables.items in
    let new = c.in_ok-listed_paths.field-0 in
    rw c.in_ok-push.ensures.items (record {
      len = length-append before _ ∙ omega (arith, c.tables.invariant.len);
      each = one_table_more (AreListed (version_of c.args.version) c.args.estimate.now.database (block_of c.args.estimate.now.block)) (λ (v : Vec NumberedPath). map listed_path_of v.items) before new c.tables.table
          c.tables.invariant.len c.tables.invariant.each c.in_ok-listed_paths.ensures;
    })

pub returns-clause-tables : goal.returns-clause-tables
returns-clause-tables c = omega (arith, c.tables.invariant.len, c.tables-test.false, c.tables.auto.table-end, c.table_count-table-end.ensures.exact)

pub returns-clause-paths : goal.returns-clause-paths
returns-clause-paths c = λ table lt. c.tables.invariant.each table (omega (arith, lt, c.tables.invariant.len))
