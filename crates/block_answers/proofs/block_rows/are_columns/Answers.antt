use Rattle.std.proofs.Common.{◌∙◌, ap, false, map}
use Rattle.std.specs.Prelude.{is_some}
use Rattle.std.specs.List.{list_all}
use Rattle.definitions.specs.Estimates.Orders.{sort_key}
use Rattle.query_tree.specs.Bound.{block_of, key_of}
use Rattle.query_tree.specs.declared.block.Key.{Key}
use Rattle.block_answers.proofs.Keys.{one_fails, one_holds}
use Rattle.block_answers.proofs.block_rows.are_columns.Goals as goal

abbrev none : Key
none = record { item = 0; descending = false }

pub returns-then-not-is_column : goal.returns-then-not-is_column
returns-then-not-is_column c =
    one_fails (λ key. is_some (sort_key (block_of c.args.block.now).items key)) c.deref-key-items.result.now c.keys.key-index none c.keys-test.true c.is_column.result _
    c.if-not-is_column.true (rw c.deref.ensures.value at c.is_column.ensures) c.keys.invariant
    ∙ ap (λ ks. list_all (λ key. is_some (sort_key (block_of c.args.block.now).items key)) (map key_of ks)) c.deref-key-items.ensures.value

pub keys-preserved : goal.keys-preserved
keys-preserved c =
    one_holds (λ key. is_some (sort_key (block_of c.args.block.now).items key)) c.deref-key-items.result.now c.keys.key-index none c.keys-test.true c.is_column.result _
    c.if-not-is_column.false (rw c.deref.ensures.value at c.is_column.ensures) c.keys.invariant
