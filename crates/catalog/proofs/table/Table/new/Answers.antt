use Rattle.std.proofs.Common.{◌∙◌, refl, sym, ap, arith, rules}
use Rattle.std.specs.String.{string_bytes}
use Rattle.definitions.specs.Table.{column_names}
use Rattle.loading.specs.Stored.{headers}
use Rattle.parse_tree.specs.Trees.{definitions_of}
use Rattle.catalog.proofs.Creating.{empty_filled}
use Rattle.catalog.proofs.NewTables.{new_is, new_valid, types_of_new, names_of_new}
use Rattle.catalog.proofs.table.Table.new.Goals as goal

pub of_columns-requires : goal.of_columns-requires
of_columns-requires c = c.requires.distinct

pub key_indexes-requires-clause-filled : goal.key_indexes-requires-clause-filled
key_indexes-requires-clause-filled c = rw (c.as_slice.ensures.value ∙ (c.in_ok-columns.ensures).ok) (empty_filled (definitions_of c.args.definitions.now))

pub table_statistics-statistics-requires-clause-types : goal.table_statistics-statistics-requires-clause-types
table_statistics-statistics-requires-clause-types c = rw (c.as_slice-2.ensures.value ∙ (c.in_ok-columns.ensures).ok) (types_of_new (definitions_of c.args.definitions.now) (c.in_ok-columns.ensures).types)

pub returns-clause-ok : goal.returns-clause-ok
returns-clause-ok c =
    new_is (string_bytes c.in_ok-name.name) c.args.name.now (definitions_of c.args.definitions.now) c.in_ok-columns.columns.items c.as_slice.result.now c.as_slice-2.result.now c.in_ok-indexes.indexes.items _ (search rules) (c.in_ok-columns.ensures).ok
    c.as_slice.ensures.value c.as_slice-2.ensures.value (c.in_ok-indexes.ensures).ok c.table_statistics-statistics.ensures

pub returns-clause-valid : goal.returns-clause-valid
returns-clause-valid c =
    rw (new_is (string_bytes c.in_ok-name.name) (string_bytes c.in_ok-name.name) (definitions_of c.args.definitions.now) c.in_ok-columns.columns.items c.as_slice.result.now c.as_slice-2.result.now c.in_ok-indexes.indexes.items _ refl (c.in_ok-columns.ensures).ok
    c.as_slice.ensures.value c.as_slice-2.ensures.value (c.in_ok-indexes.ensures).ok c.table_statistics-statistics.ensures)
    (new_valid (string_bytes c.in_ok-name.name) (definitions_of c.args.definitions.now) c.requires (c.in_ok-columns.ensures).types)

pub invariant_of-result : goal.invariant_of-result
invariant_of-result c = record {
  filled = rw (c.in_ok-columns.ensures).ok (empty_filled (definitions_of c.args.definitions.now));
  named = c.in_ok-names.ensures ∙ names_of_new (definitions_of c.args.definitions.now) ∙ ap (λ cs. column_names (headers cs)) (sym (c.in_ok-columns.ensures).ok);
  few = omega arith;
  ordered = rw (← c.as_slice.ensures.value) (c.in_ok-indexes.ensures).ordered;
  valid =
      rw (new_is (string_bytes c.in_ok-name.name) (string_bytes c.in_ok-name.name) (definitions_of c.args.definitions.now) c.in_ok-columns.columns.items c.as_slice.result.now c.as_slice-2.result.now c.in_ok-indexes.indexes.items _ refl (c.in_ok-columns.ensures).ok
      c.as_slice.ensures.value c.as_slice-2.ensures.value (c.in_ok-indexes.ensures).ok c.table_statistics-statistics.ensures)
      (new_valid (string_bytes c.in_ok-name.name) (definitions_of c.args.definitions.now) c.requires (c.in_ok-columns.ensures).types);
}
