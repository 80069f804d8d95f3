use Rattle.std.proofs.Common.{sym, map}
use Rattle.parse_tree.specs.Trees.{name_of, statistics_of}
use Rattle.definitions.specs.Refusal.{NotFound}
use Rattle.definitions.specs.IndexFaults as index
use Rattle.definitions.specs.Faults as faults
use Rattle.catalog.proofs.NamedTables.{named_some, named_none}
use Rattle.catalog.proofs.TableStatements.{is_at, kept, statistics_ok, statistics_made, statistics_refused, statistics_left}
use Rattle.catalog.proofs.database.Database.set_index_statistics.Goals as goal

pub returns-in-Some-clause-accepted : goal.returns-in-Some-clause-accepted
returns-in-Some-clause-accepted c = statistics_ok c.set_index_statistics.result c.args.self.now c.args.table.now c.in-Some.place (map name_of c.args.columns.now) (statistics_of c.args.statistics.now) c.index_mut.result.now c.set_index_statistics.new.self (is_at c.args.self.now c.self.inside.tables.items c.args.table.now c.in-Some.place c.index_mut.result.now c.self.view_is (named_some c.args.self.now c.args.table.now c.in-Some.place (c.in-Some.ensures).place) c.index_mut.ensures.value) c.set_index_statistics.ensures.ok

pub returns-in-Some-clause-made : goal.returns-in-Some-clause-made
returns-in-Some-clause-made c = rw c.self.view_is (statistics_made c.set_index_statistics.result c.args.self.now c.args.table.now c.in-Some.place (map name_of c.args.columns.now) (statistics_of c.args.statistics.now) c.index_mut.result.now c.set_index_statistics.new.self (is_at c.args.self.now c.self.inside.tables.items c.args.table.now c.in-Some.place c.index_mut.result.now c.self.view_is (named_some c.args.self.now c.args.table.now c.in-Some.place (c.in-Some.ensures).place) c.index_mut.ensures.value) c.set_index_statistics.ensures.ok)

pub returns-in-Some-clause-refused : goal.returns-in-Some-clause-refused
returns-in-Some-clause-refused c = statistics_refused c.set_index_statistics.result c.args.self.now c.args.table.now c.in-Some.place (map name_of c.args.columns.now) (statistics_of c.args.statistics.now) c.index_mut.result.now (is_at c.args.self.now c.self.inside.tables.items c.args.table.now c.in-Some.place c.index_mut.result.now c.self.view_is (named_some c.args.self.now c.args.table.now c.in-Some.place (c.in-Some.ensures).place) c.index_mut.ensures.value) c.set_index_statistics.ensures.refused

pub returns-in-None-clause-refused : goal.returns-in-None-clause-refused
returns-in-None-clause-refused c = faults.statistics _ _ _ NotFound (index.list NotFound (index.no_table (named_none c.args.self.now c.args.table.now 0 (sym (c.in-None.ensures).place))))

pub invariant_of-self : goal.invariant_of-self
invariant_of-self c =
    kept c.self.inside.names c.self.inside.tables.items c.args.self.now c.in-Some.place c.index_mut.result.now c.set_index_statistics.new.self c.self.view_is c.self.invariant c.index_mut.ensures.value
    (statistics_left c.set_index_statistics.result c.args.self.now c.args.table.now c.in-Some.place (map name_of c.args.columns.now) (statistics_of c.args.statistics.now) c.index_mut.result.now c.set_index_statistics.new.self (is_at c.args.self.now c.self.inside.tables.items c.args.table.now c.in-Some.place c.index_mut.result.now c.self.view_is (named_some c.args.self.now c.args.table.now c.in-Some.place (c.in-Some.ensures).place) c.index_mut.ensures.value) (rw (← c.self.view_is) c.self.invariant.valid) c.set_index_statistics.ensures.ok c.set_index_statistics.ensures.err)
