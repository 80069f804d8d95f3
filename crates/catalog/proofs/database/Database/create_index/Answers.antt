use Rattle.std.proofs.Common.{sym, map}
use Rattle.parse_tree.specs.Trees.{name_of}
use Rattle.definitions.specs.Refusal.{NotFound}
use Rattle.definitions.specs.IndexFaults as index
use Rattle.definitions.specs.Faults as faults
use Rattle.catalog.proofs.NamedTables.{named_some, named_none}
use Rattle.catalog.proofs.TableStatements.{is_at, kept, index_ok, index_made, index_not_made, index_left}
use Rattle.catalog.proofs.database.Database.create_index.Goals as goal

pub returns-in-Some-clause-accepted : goal.returns-in-Some-clause-accepted
returns-in-Some-clause-accepted c = index_ok c.add_index.result c.args.self.now c.args.table.now c.in-Some.place c.args.unique (map name_of c.args.columns.now) c.index_mut.result.now c.add_index.new.self (is_at c.args.self.now c.self.inside.tables.items c.args.table.now c.in-Some.place c.index_mut.result.now c.self.view_is (named_some c.args.self.now c.args.table.now c.in-Some.place (c.in-Some.ensures).place) c.index_mut.ensures.value) c.add_index.ensures.ok

pub returns-in-Some-clause-made : goal.returns-in-Some-clause-made
returns-in-Some-clause-made c = rw c.self.view_is (index_made c.add_index.result c.args.self.now c.args.table.now c.in-Some.place c.args.unique (map name_of c.args.columns.now) c.index_mut.result.now c.add_index.new.self (is_at c.args.self.now c.self.inside.tables.items c.args.table.now c.in-Some.place c.index_mut.result.now c.self.view_is (named_some c.args.self.now c.args.table.now c.in-Some.place (c.in-Some.ensures).place) c.index_mut.ensures.value) c.add_index.ensures.ok)

pub returns-in-Some-clause-refused : goal.returns-in-Some-clause-refused
returns-in-Some-clause-refused c = index_not_made c.add_index.result c.args.self.now c.args.table.now c.in-Some.place c.args.unique (map name_of c.args.columns.now) c.index_mut.result.now (is_at c.args.self.now c.self.inside.tables.items c.args.table.now c.in-Some.place c.index_mut.result.now c.self.view_is (named_some c.args.self.now c.args.table.now c.in-Some.place (c.in-Some.ensures).place) c.index_mut.ensures.value) c.add_index.ensures.refused

pub returns-in-None-clause-refused : goal.returns-in-None-clause-refused
returns-in-None-clause-refused c = faults.index _ _ _ NotFound (index.list NotFound (index.no_table (named_none c.args.self.now c.args.table.now 0 (sym (c.in-None.ensures).place))))

pub invariant_of-self : goal.invariant_of-self
invariant_of-self c =
    kept c.self.inside.names c.self.inside.tables.items c.args.self.now c.in-Some.place c.index_mut.result.now c.add_index.new.self c.self.view_is c.self.invariant c.index_mut.ensures.value
    (index_left c.add_index.result c.args.self.now c.args.table.now c.in-Some.place c.args.unique (map name_of c.args.columns.now) c.index_mut.result.now c.add_index.new.self (is_at c.args.self.now c.self.inside.tables.items c.args.table.now c.in-Some.place c.index_mut.result.now c.self.view_is (named_some c.args.self.now c.args.table.now c.in-Some.place (c.in-Some.ensures).place) c.index_mut.ensures.value) (rw (← c.self.view_is) c.self.invariant.valid) c.add_index.ensures.ok c.add_index.ensures.err)
