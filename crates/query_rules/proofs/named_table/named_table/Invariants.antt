use Rattle.std.proofs.Common.{◌≡◌, ◌+◌, drop}
use Rattle.std.specs.Prelude.{bytes_eq}
use Rattle.std.specs.List.{position_or_len}
use Rattle.definitions.specs.Table.{Table, table_named}
use Rattle.parse_tree.specs.Trees.{name_of}
use Rattle.query_rules.proofs.named_table.named_table.Given as goal

-- the tables that are left answer as all do
abbrev pub invariant-tables : goal.invariant-tables
invariant-tables l = record {
  named : table_named (drop l.number l.table-items) (name_of l.source.table) ≡ table_named l.database (name_of l.source.table);
  place : l.number + position_or_len (λ (t : Table). bytes_eq t.name (name_of l.source.table)) (drop l.number l.table-items) ≡ position_or_len (λ (t : Table). bytes_eq t.name (name_of l.source.table)) l.database;
}
