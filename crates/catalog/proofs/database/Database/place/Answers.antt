use Rattle.definitions.specs.Table.{Table}
use Rattle.catalog.proofs.NamesInOrder.{place_among, within_among}
use Rattle.catalog.proofs.database.Database.place.Goals as goal

pub returns-clause-place : goal.returns-clause-place
returns-clause-place c =
    place_among (λ (t : Table). t.name) c.self.inside.names c.self.inside.tables.items c.args.self.now c.args.name.now c.place.result c.self.invariant.named c.self.view_is c.place.ensures.first

pub returns-clause-within : goal.returns-clause-within
returns-clause-within c = within_among (λ (t : Table). t.name) c.self.inside.names c.self.inside.tables.items c.args.self.now c.place.result c.self.invariant.named c.self.view_is c.place.ensures.within
