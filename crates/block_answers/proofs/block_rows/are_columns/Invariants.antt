use Rattle.std.proofs.Common.{◌≡◌, drop, map}
use Rattle.std.specs.Prelude.{is_some}
use Rattle.std.specs.List.{list_all}
use Rattle.definitions.specs.Estimates.Orders.{sort_key}
use Rattle.query_tree.specs.Bound.{block_of, key_of}
use Rattle.block_answers.proofs.block_rows.are_columns.Given as goal

-- those before one are columns
abbrev pub invariant-keys : goal.invariant-keys
invariant-keys l =
    list_all (λ key. is_some (sort_key (block_of l.block).items key)) (map key_of (drop l.key-index l.key-items))
    ≡ list_all (λ key. is_some (sort_key (block_of l.block).items key)) (map key_of l.key-items)
