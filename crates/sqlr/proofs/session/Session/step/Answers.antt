use Rattle.std.proofs.Common.{refl, sym}
use Rattle.sqlr.proofs.Changing.{database_changed}
use Rattle.sqlr.proofs.Taking.{explained_taken}
use Rattle.sqlr.proofs.Breaking.{none_blamed, nothing_changed, database_kept}
use Rattle.sqlr.proofs.session.Session.step.Goals as goal

pub returns-in-CreateTable-clause-takes : goal.returns-in-CreateTable-clause-takes
returns-in-CreateTable-clause-takes g c =
    rw (sym c.self.view_is, c.in-CreateTable.is) (database_changed _ (record { library = c.self.inside.library; database = c.self.inside.database; work = c.self.inside.work }) _ _ c.create_table.result (rw c.deref.ensures.value at c.create_table.ensures.changes))

pub returns-in-CreateIndex-clause-takes : goal.returns-in-CreateIndex-clause-takes
returns-in-CreateIndex-clause-takes g c =
    rw (sym c.self.view_is, c.in-CreateIndex.is) (database_changed _ (record { library = c.self.inside.library; database = c.self.inside.database; work = c.self.inside.work }) _ _ c.create_index.result (rw c.deref-in-CreateIndex.ensures.value at c.create_index.ensures.changes))

pub returns-in-SetTableStatistics-clause-takes : goal.returns-in-SetTableStatistics-clause-takes
returns-in-SetTableStatistics-clause-takes g c =
    rw (sym c.self.view_is, c.in-SetTableStatistics.is) (database_changed _ (record { library = c.self.inside.library; database = c.self.inside.database; work = c.self.inside.work }) _ _ c.set_table_statistics.result c.set_table_statistics.ensures.changes)

pub returns-in-SetIndexStatistics-clause-takes : goal.returns-in-SetIndexStatistics-clause-takes
returns-in-SetIndexStatistics-clause-takes g c =
    rw (sym c.self.view_is, c.in-SetIndexStatistics.is) (database_changed _ (record { library = c.self.inside.library; database = c.self.inside.database; work = c.self.inside.work }) _ _ c.set_index_statistics.result (rw c.deref-in-SetIndexStatistics.ensures.value at c.set_index_statistics.ensures.changes))

pub returns-in-Explain-clause-takes : goal.returns-in-Explain-clause-takes
returns-in-Explain-clause-takes g c = rw (sym c.self.view_is, c.in-Explain.is) (explained_taken _ (record { library = c.self.inside.library; database = c.self.inside.database; work = c.self.inside.work }) _ c.explain.result c.explain.ensures.explains)

pub returns-in-CreateTable-clause-breaks : goal.returns-in-CreateTable-clause-breaks
returns-in-CreateTable-clause-breaks g c = rw (sym c.self.view_is, c.in-CreateTable.is) (database_kept _ _ (record { library = c.self.inside.library; database = c.self.inside.database; work = c.self.inside.work }) _ _ c.create_table.result c.create_table.ensures.memory c.create_table.ensures.kept)

pub returns-in-CreateTable-clause-blamed : goal.returns-in-CreateTable-clause-blamed
returns-in-CreateTable-clause-blamed g c = rw (sym c.self.view_is) (none_blamed _ _ c.create_table.result refl c.create_table.ensures.memory)

pub returns-in-CreateIndex-clause-breaks : goal.returns-in-CreateIndex-clause-breaks
returns-in-CreateIndex-clause-breaks g c = rw (sym c.self.view_is, c.in-CreateIndex.is) (database_kept _ _ (record { library = c.self.inside.library; database = c.self.inside.database; work = c.self.inside.work }) _ _ c.create_index.result c.create_index.ensures.memory c.create_index.ensures.kept)

pub returns-in-CreateIndex-clause-blamed : goal.returns-in-CreateIndex-clause-blamed
returns-in-CreateIndex-clause-blamed g c = rw (sym c.self.view_is) (none_blamed _ _ c.create_index.result refl c.create_index.ensures.memory)

pub returns-in-SetTableStatistics-clause-breaks : goal.returns-in-SetTableStatistics-clause-breaks
returns-in-SetTableStatistics-clause-breaks g c = rw (sym c.self.view_is, c.in-SetTableStatistics.is) (database_kept _ _ (record { library = c.self.inside.library; database = c.self.inside.database; work = c.self.inside.work }) _ _ c.set_table_statistics.result c.set_table_statistics.ensures.memory c.set_table_statistics.ensures.kept)

pub returns-in-SetTableStatistics-clause-blamed : goal.returns-in-SetTableStatistics-clause-blamed
returns-in-SetTableStatistics-clause-blamed g c = rw (sym c.self.view_is) (none_blamed _ _ c.set_table_statistics.result refl c.set_table_statistics.ensures.memory)

pub returns-in-SetIndexStatistics-clause-breaks : goal.returns-in-SetIndexStatistics-clause-breaks
returns-in-SetIndexStatistics-clause-breaks g c = rw (sym c.self.view_is, c.in-SetIndexStatistics.is) (database_kept _ _ (record { library = c.self.inside.library; database = c.self.inside.database; work = c.self.inside.work }) _ _ c.set_index_statistics.result c.set_index_statistics.ensures.memory c.set_index_statistics.ensures.kept)

pub returns-in-SetIndexStatistics-clause-blamed : goal.returns-in-SetIndexStatistics-clause-blamed
returns-in-SetIndexStatistics-clause-blamed g c = rw (sym c.self.view_is) (none_blamed _ _ c.set_index_statistics.result refl c.set_index_statistics.ensures.memory)

pub returns-in-Explain-clause-breaks : goal.returns-in-Explain-clause-breaks
returns-in-Explain-clause-breaks g c = rw (sym c.self.view_is, c.in-Explain.is) (nothing_changed _ _ (record { library = c.self.inside.library; database = c.self.inside.database; work = c.self.inside.work }) _ c.explain.result c.explain.ensures.memory)

pub returns-in-Explain-clause-blamed : goal.returns-in-Explain-clause-blamed
returns-in-Explain-clause-blamed g c = none_blamed _ _ c.explain.result refl c.explain.ensures.memory
