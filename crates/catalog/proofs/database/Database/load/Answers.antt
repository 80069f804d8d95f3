use Rattle.std.proofs.Common.{sym}
use Rattle.catalog.proofs.NamedTables.{named_some, named_none}
use Rattle.catalog.proofs.TableStatements.{is_at, kept, loads_named, load_refused, load_left}
use Rattle.catalog.proofs.database.Database.load.Goals as goal

pub returns-in-Some-clause-ok : goal.returns-in-Some-clause-ok
returns-in-Some-clause-ok g c = rw c.self.view_is (loads_named c.load.result c.args.self.now c.args.table.now c.in-Some.place c.args.bytes.now c.index_mut.result.now c.load.new.self (is_at c.args.self.now c.self.inside.tables.items c.args.table.now c.in-Some.place c.index_mut.result.now c.self.view_is (named_some c.args.self.now c.args.table.now c.in-Some.place (c.in-Some.ensures).place) c.index_mut.ensures.value) c.load.ensures.ok)

pub returns-in-Some-clause-refused : goal.returns-in-Some-clause-refused
returns-in-Some-clause-refused g c = load_refused c.load.result c.args.self.now c.args.table.now c.in-Some.place c.args.bytes.now c.index_mut.result.now (is_at c.args.self.now c.self.inside.tables.items c.args.table.now c.in-Some.place c.index_mut.result.now c.self.view_is (named_some c.args.self.now c.args.table.now c.in-Some.place (c.in-Some.ensures).place) c.index_mut.ensures.value) c.load.ensures.refused

pub returns-in-None-clause-refused : goal.returns-in-None-clause-refused
returns-in-None-clause-refused g c = named_none c.args.self.now c.args.table.now 0 (sym (c.in-None.ensures).place)

pub invariant_of-self : goal.invariant_of-self
invariant_of-self g c =
    kept c.self.inside.names c.self.inside.tables.items c.args.self.now c.in-Some.place c.index_mut.result.now c.load.new.self c.self.view_is c.self.invariant c.index_mut.ensures.value
    (load_left c.load.result c.args.self.now c.args.table.now c.in-Some.place c.args.bytes.now c.index_mut.result.now c.load.new.self (is_at c.args.self.now c.self.inside.tables.items c.args.table.now c.in-Some.place c.index_mut.result.now c.self.view_is (named_some c.args.self.now c.args.table.now c.in-Some.place (c.in-Some.ensures).place) c.index_mut.ensures.value) (rw (← c.self.view_is) c.self.invariant.valid) c.load.ensures.ok c.load.ensures.err)
