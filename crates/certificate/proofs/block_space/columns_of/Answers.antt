use Rattle.std.proofs.Common.{◌∙◌, ap, ◌++◌}
use Rattle.certificate.proofs.Columns.{next, next_columns}
use Rattle.certificate.proofs.block_space.columns_of.Goals as goal

pub indexes-preserved : goal.indexes-preserved
indexes-preserved c =
    rw (c.in_ok-push.ensures.items, next c.indexes.number) (next_columns c.args.table.now c.indexes.number c.index.result.now.index c.indexes.all.items c.extend_from_slice.new.self c.index.ensures.exact
    (c.in_ok-extend_from_slice.ensures.items ∙ ap (λ xs. xs ++ c.columns.result.now) c.new-columns.ensures.items ∙ c.columns.ensures) c.indexes.invariant)
