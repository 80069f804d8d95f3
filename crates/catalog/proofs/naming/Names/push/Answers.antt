use Rattle.std.specs.String.{string_bytes}
use Rattle.catalog.proofs.NamesInOrder.{pushed}
use Rattle.catalog.proofs.naming.Names.push.Goals as goal

pub returns-clause-ok : goal.returns-clause-ok
returns-clause-ok c = pushed string_bytes c.self.inside.set.keys c.insert.new.self.keys c.in_ok-own.own c.args.self.now c.args.name.now c.self.view_is c.in_ok-own.ensures.ok c.requires c.in_ok-insert.ensures.keys
