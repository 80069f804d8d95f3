use Rattle.std.proofs.Common.{sym}
use Rattle.definitions.specs.Table.{Column}
use Rattle.loading.specs.Stored.{headers}
use Rattle.catalog.proofs.Rows.{of_view}
use Rattle.catalog.proofs.NamesInOrder.{place_among, within_among}
use Rattle.catalog.proofs.Places.{place_known, place_of}
use Rattle.catalog.proofs.table.Table.column.Goals as goal

pub returns-clause-first : goal.returns-clause-first
returns-clause-first c =
    place_among (λ (h : Column). h.name) c.self.inside.names (headers c.self.inside.columns.items) c.args.self.now.columns c.args.name.now c.place.result c.self.invariant.named (sym (of_view _ _ _ c.self.inside.len _ _ c.self.view_is).columns) c.place.ensures.first

pub returns-clause-within : goal.returns-clause-within
returns-clause-within c =
    within_among (λ (h : Column). h.name) c.self.inside.names (headers c.self.inside.columns.items) c.args.self.now.columns c.place.result c.self.invariant.named (sym (of_view _ _ _ c.self.inside.len _ _ c.self.view_is).columns) c.place.ensures.within

pub returns-clause-place : goal.returns-clause-place
returns-clause-place c = place_of c.args.self.now.columns c.args.name.now c.place.result (returns-clause-first c)

pub returns-clause-none : goal.returns-clause-none
returns-clause-none c = place_known c.args.self.now.columns c.args.name.now c.place.result (returns-clause-first c)
