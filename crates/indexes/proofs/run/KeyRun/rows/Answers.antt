use Rattle.std.proofs.Common.{◌∙◌, sym, ap}
use Rattle.definitions.specs.IndexRun.{entry_rows}
use Rattle.indexes.specs.Runs.{Index}
use Rattle.indexes.proofs.Entries.{rows_of_entries}
use Rattle.indexes.proofs.run.KeyRun.rows.Goals as goal

pub returns : goal.returns
returns c = c.as_slice.ensures.value ∙ sym (rows_of_entries c.self.inside.columns.items 0 c.self.inside.rows.items) ∙ ap (λ (i : Index). entry_rows i.entries) c.self.view_is
