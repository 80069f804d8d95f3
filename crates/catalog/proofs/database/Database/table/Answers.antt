use Rattle.std.proofs.Common.{◌∙◌, sym, ap, Some, List, get_or}
use Rattle.definitions.specs.Table.{Table}
use Rattle.catalog.proofs.NamedTables.{named_some, named_none}
use Rattle.catalog.proofs.database.Database.table.Goals as goal

pub returns-in-Some-clause-named : goal.returns-in-Some-clause-named
returns-in-Some-clause-named c =
    ap Some (c.index.ensures ∙ ap (λ (ts : List Table). get_or ts c.in-Some.place c.index.result.now) c.self.view_is)
    ∙ sym ((named_some c.args.self.now c.args.name.now c.in-Some.place (c.in-Some.ensures).place).is c.index.result.now)

pub returns-in-None-clause-named : goal.returns-in-None-clause-named
returns-in-None-clause-named c = sym (named_none c.args.self.now c.args.name.now 0 (sym (c.in-None.ensures).place))
