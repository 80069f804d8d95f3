use Rattle.std.proofs.Common.{◌≡◌, ◌-◌, rules}
use Rattle.std.proofs.lemmas.Fn.{always_returns_same}
use Rattle.std.specs.Ordering.{is_lt}
use Rattle.indexes.specs.Keys.{columns_of}
use Rattle.indexes.proofs.SortedRows.{permuted_range, sorted_rising, standing, stands_before}
use Rattle.indexes.proofs.sorting.sorted_rows.Goals as goal

pub returns-clause-same : goal.returns-clause-same
returns-clause-same c = permuted_range c.args.first (c.args.end - c.args.first) c.in_ok-rows.rows.items _ c.in_ok-rows.ensures c.in_ok-sort_by.ensures.permutation

pub returns-clause-rising : goal.returns-clause-rising
returns-clause-rising c =
    sorted_rising (columns_of c.args.keys.now) c.args.first (c.args.end - c.args.first) _ (permuted_range c.args.first (c.args.end - c.args.first) c.in_ok-rows.rows.items _ c.in_ok-rows.ensures c.in_ok-sort_by.ensures.permutation)
    (c.in_ok-sort_by.ensures.sorted (stands_before (columns_of c.args.keys.now)) (standing (columns_of c.args.keys.now)) (always_returns_same _ (λ a r. is_lt r ≡ stands_before (columns_of c.args.keys.now) a.0.now a.1.0.now) _ (λ a r f' k. (search rules, search rules))))
