-- How many elements the lists of statements may have.
use Rattle.std.specs.Prelude.{ℕ}
use Rattle.definitions.specs.Limits.{most_columns, most_index_columns, most_items, most_from_tables, most_members}
use Rattle.definitions.specs.Limits.{most_group_columns, most_keys}
use Rattle.parse_tree.specs.declared.list.ListKind.{ListKind}
use Rattle.parse_tree.specs.declared.list.ListKind.TheVariants as kind

abbrev pub most_of : ListKind → ℕ
most_of kind.Columns = most_columns
most_of kind.IndexColumns = most_index_columns
most_of kind.Items = most_items
most_of kind.Tables = most_from_tables
most_of kind.Members = most_members
most_of kind.GroupColumns = most_group_columns
most_of kind.Keys = most_keys
