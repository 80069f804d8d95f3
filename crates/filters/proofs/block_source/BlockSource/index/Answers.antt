use Rattle.std.proofs.Common.{sym}
use Rattle.filters.specs.Sources.{block_in}
use Rattle.filters.proofs.Paths.{columns_are, run_is, had_table, had_index}
use Rattle.filters.proofs.block_source.BlockSource.index.Goals as goal

pub table-requires : goal.table-requires
table-requires c =
    let s = c.args.self.now in
    let (i, is) = c.requires.there in
    had_table s.database (block_in s) c.args.table c.args.number i is

pub index-requires : goal.index-requires
index-requires c =
    let s = c.args.self.now in
    let (i, is) = c.requires.there in
    had_index s.database (block_in s) c.args.table c.args.number _ i c.table.ensures.exact is

pub returns-clause-columns : goal.returns-clause-columns
returns-clause-columns c =
    let s = c.args.self.now in
    sym (columns_are s.database (block_in s) c.args.table c.args.number _ _ c.table.ensures.exact c.index.ensures.exact)

pub returns-clause-run : goal.returns-clause-run
returns-clause-run c =
    let s = c.args.self.now in
    run_is s.database (block_in s) c.args.table c.args.number _ _ c.table.ensures.exact c.index.ensures.exact c.run_is_one.ensures c.index.result.now.entries c.index.ensures.run
