use Rattle.std.proofs.Common.{◌≡◌, ◌∙◌, sym, ap, length, rules}
use Rattle.indexes.specs.Runs.{Index}
use Rattle.indexes.proofs.Entries.{length-entries_at}
use Rattle.indexes.proofs.run.KeyRun.len.Goals as goal

pub returns-clause-exact : goal.returns-clause-exact
returns-clause-exact c =
    let n : c.len.result ≡ length c.self.inside.rows.items = search rules in
    n ∙ sym (length-entries_at c.self.inside.columns.items 0 c.self.inside.rows.items) ∙ ap (λ (i : Index). length i.entries) c.self.view_is
