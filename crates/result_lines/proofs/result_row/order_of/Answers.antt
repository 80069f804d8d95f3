use Rattle.std.proofs.Common.{false}
use Rattle.query_tree.specs.declared.block.Key.{Key}
use Rattle.result_lines.specs.Rows.{row_of}
use Rattle.result_lines.proofs.Ordering.{decided, passed}
use Rattle.result_lines.proofs.result_row.order_of.Goals as goal

-- what stands behind the last key
abbrev none : Key
none = record { item = 0; descending = false }

pub returns-in_default : goal.returns-in_default
returns-in_default c =
    decided c.args.keys.now c.keys.key-index none (row_of c.args.a.now) (row_of c.args.b.now) c.keys-test.true c.by_direction.result _
    (rw (c.rank.ensures, c.value.ensures, c.value-in-keys.ensures) at c.by_direction.ensures) c.in_default.not-Equal c.keys.invariant

pub keys-preserved : goal.keys-preserved
keys-preserved c =
    passed c.args.keys.now c.keys.key-index none (row_of c.args.a.now) (row_of c.args.b.now) c.keys-test.true c.by_direction.result _
    (rw (c.rank.ensures, c.value.ensures, c.value-in-keys.ensures) at c.by_direction.ensures) c.in-Equal.is c.keys.invariant
