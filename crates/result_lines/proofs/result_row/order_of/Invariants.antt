use Rattle.std.proofs.Common.{◌≡◌, drop, map}
use Rattle.definitions.specs.Queries.Outcomes.{row_order}
use Rattle.query_tree.specs.Bound.{key_of}
use Rattle.result_lines.specs.Rows.{row_of}
use Rattle.result_lines.proofs.result_row.order_of.Given as goal

-- the keys before one do not tell the rows apart
abbrev pub invariant-keys : goal.invariant-keys
invariant-keys l = row_order (map key_of (drop l.key-index l.keys)) (row_of l.a) (row_of l.b) ≡ row_order (map key_of l.keys) (row_of l.a) (row_of l.b)
