use Rattle.std.proofs.Common.{◌∙◌, sym, ap, length}
use Rattle.std.specs.String.{string_bytes}
use Rattle.std.proofs.lemmas.List.{length-map}
use Rattle.catalog.proofs.NamesInOrder.{place_in, place_within}
use Rattle.catalog.proofs.naming.Names.place.Goals as goal

pub returns-clause-first : goal.returns-clause-first
returns-clause-first c = place_in string_bytes c.self.inside.set.keys c.args.self.now c.args.name.now c.get_index_of.result c.get_index_of.ensures.index c.self.view_is

pub returns-clause-within : goal.returns-clause-within
returns-clause-within c =
    place_within c.get_index_of.result (length c.self.inside.set.keys) (length c.args.self.now) (sym (length-map c.self.inside.set.keys string_bytes) ∙ ap length c.self.view_is) c.get_index_of.ensures.within
