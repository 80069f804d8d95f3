use Rattle.std.proofs.Common.{map}
use Rattle.std.specs.String.{string_bytes}
use Rattle.std.specs.Result.{is_ok}
use Rattle.parse_tree.specs.Trees.{name_of}
use Rattle.indexes.specs.Meaning.{table_statistics_of}
use Rattle.catalog.proofs.TableIndexes.{pushed_index}
use Rattle.catalog.proofs.table.Table.add_index.Goals as goal

pub returns-in-Err-clause-refused : goal.returns-in-Err-clause-refused
returns-in-Err-clause-refused c = (c.in-Err.ensures).refused c.args.unique

pub invariant_of-self : goal.invariant_of-self
invariant_of-self c =
    let p = pushed_index (is_ok c.push.result) (string_bytes c.self.inside.name) c.self.inside.columns.items c.as_slice.result.now c.self.inside.indexes.items c.push.new.self.items c.self.inside.len (table_statistics_of c.self.inside.statistics) c.args.self.now c.args.unique
    (map name_of c.args.names.now) c.in-Ok.list.items c.in-Ok-new.index c.self.view_is c.self.invariant.ordered c.self.invariant.valid (c.in-Ok.ensures).ok (c.in-Ok.ensures).there c.as_slice.ensures.value (c.in-Ok-new.ensures).ok c.push.ensures.items in
    record { filled = c.self.invariant.filled; named = c.self.invariant.named; few = c.self.invariant.few; ordered = p.ordered; valid = p.valid }
