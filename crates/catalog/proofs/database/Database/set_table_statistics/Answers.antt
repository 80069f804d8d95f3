use Rattle.std.proofs.Common.{sym}
use Rattle.definitions.specs.Faults as faults
use Rattle.catalog.proofs.NamedTables.{named_some, named_none}
use Rattle.catalog.proofs.TableStatements.{is_at, kept, table_accepted, table_made, table_refused, table_left}
use Rattle.catalog.proofs.database.Database.set_table_statistics.Goals as goal

pub returns-in-Some-clause-accepted : goal.returns-in-Some-clause-accepted
returns-in-Some-clause-accepted c = table_accepted c.set_statistics.result c.args.self.now c.args.table.now c.in-Some.place c.args.rows c.args.pages c.index_mut.result.now (is_at c.args.self.now c.self.inside.tables.items c.args.table.now c.in-Some.place c.index_mut.result.now c.self.view_is (named_some c.args.self.now c.args.table.now c.in-Some.place (c.in-Some.ensures).place) c.index_mut.ensures.value) c.set_statistics.ensures.given

pub returns-in-Some-clause-made : goal.returns-in-Some-clause-made
returns-in-Some-clause-made c = rw c.self.view_is (table_made c.set_statistics.result c.args.self.now c.args.table.now c.in-Some.place c.args.rows c.args.pages c.index_mut.result.now c.set_statistics.new.self (is_at c.args.self.now c.self.inside.tables.items c.args.table.now c.in-Some.place c.index_mut.result.now c.self.view_is (named_some c.args.self.now c.args.table.now c.in-Some.place (c.in-Some.ensures).place) c.index_mut.ensures.value) c.set_statistics.ensures.set)

pub returns-in-Some-clause-refused : goal.returns-in-Some-clause-refused
returns-in-Some-clause-refused c = table_refused c.set_statistics.result c.args.self.now c.args.table.now c.args.rows c.args.pages c.set_statistics.ensures.refused

pub returns-in-None-clause-refused : goal.returns-in-None-clause-refused
returns-in-None-clause-refused c = faults.no_such_table _ _ _ (named_none c.args.self.now c.args.table.now 0 (sym (c.in-None.ensures).place))

pub invariant_of-self : goal.invariant_of-self
invariant_of-self c =
    kept c.self.inside.names c.self.inside.tables.items c.args.self.now c.in-Some.place c.index_mut.result.now c.set_statistics.new.self c.self.view_is c.self.invariant c.index_mut.ensures.value
    (table_left c.set_statistics.result c.args.self.now c.args.table.now c.in-Some.place c.args.rows c.args.pages c.index_mut.result.now c.set_statistics.new.self (is_at c.args.self.now c.self.inside.tables.items c.args.table.now c.in-Some.place c.index_mut.result.now c.self.view_is (named_some c.args.self.now c.args.table.now c.in-Some.place (c.in-Some.ensures).place) c.index_mut.ensures.value) (rw (← c.self.view_is) c.self.invariant.valid) c.set_statistics.ensures.given c.set_statistics.ensures.set c.set_statistics.ensures.err)
