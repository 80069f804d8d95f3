use Rattle.result_rows.proofs.row_store.RowStore.add.Goals as goal

pub returns-in-Ordered-clause-added : goal.returns-in-Ordered-clause-added
returns-in-Ordered-clause-added g c = rw c.in-Ordered.is (rw c.deref_mut-in-Ordered.ensures.value at c.add-in-Ordered.ensures.added)
