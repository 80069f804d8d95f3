use Rattle.std.proofs.Common.{◌≡◌, ◌∙◌, sym, ap, ◌<◌, ◌≤◌, Some, length, map, arith}
use Rattle.std.specs.List.{AllByRecursion}
use Rattle.std.specs.String.{string_bytes}
use Rattle.std.proofs.lemmas.List.{length-map}
use Rattle.definitions.specs.Limits.{most_index_columns}
use Rattle.definitions.specs.Table.{index_on}
use Rattle.definitions.specs.Change.{first_type}
use Rattle.sqlvalue.specs.Meaning.{type_of}
use Rattle.parse_tree.specs.Trees.{name_of, statistics_of}
use Rattle.indexes.specs.Meaning.{index_statistics_of, table_statistics_of}
use Rattle.catalog.proofs.Rows.{of_view, columns_many, type_at}
use Rattle.catalog.proofs.TableIndexes.{index_free}
use Rattle.catalog.proofs.SetStatistics.{first_within, first_type_is, statistics_set_at, refused_statistics}
use Rattle.catalog.proofs.table.Table.set_index_statistics.Goals as goal

pub kept_statistics-requires : goal.kept_statistics-requires
kept_statistics-requires c =
    let many : 0 < length c.in-Ok.list.items = omega (arith, (c.in-Ok.ensures).some, (c.in-Ok.ensures).many) in
    let there : AllByRecursion (λ m. m < length c.self.inside.columns.items) c.in-Ok.list.items = rw (← columns_many _ _ c.self.inside.len _ (of_view _ _ _ c.self.inside.len _ _ c.self.view_is)) (c.in-Ok.ensures).there in
    let within = first_within (length c.self.inside.columns.items) c.in-Ok.list.items c.index.result.now many there c.index.ensures in
    rw c.sql_type.ensures (type_at c.self.inside.columns.items c.index.result.now c.index-2.result.now c.self.invariant.valid.types within c.index-2.ensures)

pub invariant_of-self : goal.invariant_of-self
invariant_of-self c =
    let named = length-map c.args.names.now name_of in
    let some : 0 < length (map name_of c.args.names.now) = omega (arith, (c.in-Ok.ensures).some, named) in
    let short : length (map name_of c.args.names.now) ≤ most_index_columns = omega (arith, (c.in-Ok.ensures).short, named) in
    let many : 0 < length c.in-Ok.list.items = omega (arith, (c.in-Ok.ensures).some, (c.in-Ok.ensures).many) in
    let s = statistics_set_at (string_bytes c.self.inside.name) c.self.inside.columns.items c.self.inside.indexes.items c.in-Some.place c.self.inside.len c.index.result.now (table_statistics_of c.self.inside.statistics) c.args.self.now
    c.in-Ok.list.items c.as_slice.result.now (map name_of c.args.names.now) (statistics_of c.args.given.now) c.index-2.result.now (type_of c.sql_type.result) (index_statistics_of c.in-Ok-kept_statistics.kept) c.index_mut.result.now c.set_statistics.new.self
    c.self.view_is c.self.invariant.ordered c.self.invariant.valid some short (c.in-Ok.ensures).found many (c.in-Ok.ensures).there c.as_slice.ensures.value (c.in-Some.ensures).place (c.in-Some.ensures).within c.index.ensures c.index-2.ensures
    c.sql_type.ensures (c.in-Ok-kept_statistics.ensures).given (c.in-Ok-kept_statistics.ensures).kept c.index_mut.ensures.value c.set_statistics.ensures.index c.set_statistics.ensures.entries in
    record { filled = c.self.invariant.filled; named = c.self.invariant.named; few = c.self.invariant.few; ordered = s.ordered; valid = s.valid }

pub returns-in-Ok-kept_statistics-clause-ok : goal.returns-in-Ok-kept_statistics-clause-ok
returns-in-Ok-kept_statistics-clause-ok c =
    let named = length-map c.args.names.now name_of in
    let some : 0 < length (map name_of c.args.names.now) = omega (arith, (c.in-Ok.ensures).some, named) in
    let short : length (map name_of c.args.names.now) ≤ most_index_columns = omega (arith, (c.in-Ok.ensures).short, named) in
    let many : 0 < length c.in-Ok.list.items = omega (arith, (c.in-Ok.ensures).some, (c.in-Ok.ensures).many) in
    (statistics_set_at (string_bytes c.self.inside.name) c.self.inside.columns.items c.self.inside.indexes.items c.in-Some.place c.self.inside.len c.index.result.now (table_statistics_of c.self.inside.statistics) c.args.self.now
    c.in-Ok.list.items c.as_slice.result.now (map name_of c.args.names.now) (statistics_of c.args.given.now) c.index-2.result.now (type_of c.sql_type.result) (index_statistics_of c.in-Ok-kept_statistics.kept) c.index_mut.result.now c.set_statistics.new.self
    c.self.view_is c.self.invariant.ordered c.self.invariant.valid some short (c.in-Ok.ensures).found many (c.in-Ok.ensures).there c.as_slice.ensures.value (c.in-Some.ensures).place (c.in-Some.ensures).within c.index.ensures c.index-2.ensures
    c.sql_type.ensures (c.in-Ok-kept_statistics.ensures).given (c.in-Ok-kept_statistics.ensures).kept c.index_mut.ensures.value c.set_statistics.ensures.index c.set_statistics.ensures.entries).sets

pub returns-clause-refused : goal.returns-clause-refused
returns-clause-refused c =
    let o = of_view _ _ _ c.self.inside.len _ _ c.self.view_is in
    let many : 0 < length c.in-Ok.list.items = omega (arith, (c.in-Ok.ensures).some, (c.in-Ok.ensures).many) in
    let there : AllByRecursion (λ m. m < length c.self.inside.columns.items) c.in-Ok.list.items = rw (← columns_many _ _ c.self.inside.len _ o) (c.in-Ok.ensures).there in
    let first : first_type c.args.self.now.columns (map name_of c.args.names.now) ≡ Some (type_of c.sql_type.result) =
    first_type_is c.self.inside.columns.items c.args.self.now.columns (map name_of c.args.names.now) c.in-Ok.list.items c.index.result.now c.index-2.result.now o.columns (c.in-Ok.ensures).found many there c.index.ensures c.index-2.ensures
    ∙ ap (λ x. Some x) (sym c.sql_type.ensures) in
    refused_statistics c.args.self.now (map name_of c.args.names.now) (statistics_of c.args.given.now) (type_of c.sql_type.result) c.in-Err-kept_statistics.fault first (c.in-Err-kept_statistics.ensures).refused

pub returns-in_default-clause-refused : goal.returns-in_default-clause-refused
returns-in_default-clause-refused c = (
  c.in-Ok.list.items,
  (c.in-Ok.ensures).found,
  ap (index_on c.args.self.now.indexes) (sym c.as_slice.ensures.value) ∙ index_free c.args.self.now.indexes c.as_slice.result.now (c.in_default.ensures).place,
)
