use Rattle.std.proofs.Common.{◌≡◌, drop}
use Rattle.std.specs.List.{position_from}
use Rattle.definitions.specs.Table.{is_on}
use Rattle.indexes.specs.Indexes.{StoredIndex}
use Rattle.catalog.proofs.table.Table.index_place.Given as goal

-- the indexes that are left answer as all do
abbrev pub invariant-loop-place : goal.invariant-loop-place
invariant-loop-place l =
    position_from (λ (i : StoredIndex). is_on l.list i.index) l.place (drop l.place l.index-items) ≡ position_from (λ (i : StoredIndex). is_on l.list i.index) 0 l.index-items
