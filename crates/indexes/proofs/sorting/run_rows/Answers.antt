use Rattle.std.proofs.Common.{◌≡◌, ◌-◌, length, rules}
use Rattle.std.specs.Prelude.{IsPermutation}
use Rattle.std.specs.List.{range_with_len}
use Rattle.std.proofs.lemmas.List.Sorted.{IsPermutation-trans}
use Rattle.std.proofs.lemmas.Result.{IfOk-weaker}
use Rattle.indexes.specs.Keys.{columns_of, height}
use Rattle.indexes.proofs.SortedRows.{all_rows_there, rows_earlier}
use Rattle.indexes.proofs.sorting.run_rows.Goals as goal

pub merged_rows-requires-clause-earlier : goal.merged_rows-requires-clause-earlier
merged_rows-requires-clause-earlier c =
    let n : c.row_count.result ≡ height (columns_of c.args.keys.now) = c.row_count.ensures in
    let p : IsPermutation (range_with_len (length c.args.old.now) (height (columns_of c.args.keys.now) - length c.args.old.now)) c.as_slice.result.now = search rules in
    rows_earlier c.args.old.now c.as_slice.result.now (height (columns_of c.args.keys.now)) c.requires.same p

pub returns-clause-same : goal.returns-clause-same
returns-clause-same c =
    let n : c.row_count.result ≡ height (columns_of c.args.keys.now) = c.row_count.ensures in
    let p : IsPermutation (range_with_len (length c.args.old.now) (height (columns_of c.args.keys.now) - length c.args.old.now)) c.as_slice.result.now = search rules in
    IfOk-weaker c.merged_rows.result _ _ (λ run q. IsPermutation-trans _ _ run.rows.items (all_rows_there c.args.old.now c.as_slice.result.now (height (columns_of c.args.keys.now)) c.requires.same c.requires.within p) q) c.merged_rows.ensures.same
