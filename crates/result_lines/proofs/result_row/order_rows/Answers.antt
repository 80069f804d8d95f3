use Rattle.std.proofs.Common.{◌≡◌, rules, map}
use Rattle.std.specs.Ordering.{is_lt}
use Rattle.std.proofs.lemmas.Fn.{always_returns_same}
use Rattle.std.proofs.lemmas.List.Sorted.{IsPermutation-map}
use Rattle.std.proofs.lemmas.Result.{on_ok_weaker}
use Rattle.definitions.specs.Queries.Outcomes.{row_order}
use Rattle.query_tree.specs.Bound.{key_of}
use Rattle.result_lines.specs.Rows.{row_of}
use Rattle.result_lines.proofs.Ordering.{row_strict, seen_sorted}
use Rattle.result_lines.proofs.result_row.order_rows.Goals as goal

pub returns-clause-same : goal.returns-clause-same
returns-clause-same c = IsPermutation-map row_of _ _ c.sort_by.ensures.permutation

pub returns-clause-sorted : goal.returns-clause-sorted
returns-clause-sorted c =
    on_ok_weaker c.sort_by.result
    (λ s. seen_sorted row_of (map key_of c.args.keys.now) _
    (s (λ x y. is_lt (row_order (map key_of c.args.keys.now) (row_of x) (row_of y))) (row_strict row_of (map key_of c.args.keys.now))
    (always_returns_same _ (λ a r. is_lt r ≡ is_lt (row_order (map key_of c.args.keys.now) (row_of a.0.now) (row_of a.1.0.now))) _ (λ a r f' k. (search rules, search rules)))))
    c.sort_by.ensures.sorted
