use Rattle.std.proofs.Common.{sym}
use Rattle.catalog.proofs.Rows.{of_view, rows_many, whole_in_table}
use Rattle.catalog.proofs.table.Table.len.Goals as goal

pub returns-clause-exact : goal.returns-clause-exact
returns-clause-exact c = sym (rows_many _ _ c.self.inside.len _ (of_view _ _ _ _ _ _ c.self.view_is))

pub returns-clause-whole : goal.returns-clause-whole
returns-clause-whole c = whole_in_table _ _ c.self.inside.len _ (of_view _ _ _ _ _ _ c.self.view_is)

pub returns-clause-valid : goal.returns-clause-valid
returns-clause-valid c = let valid = rw c.self.view_is at c.self.invariant.valid in valid
