use Rattle.std.proofs.Common.{◌≡◌, ◌≤◌, ◌+◌, ◌*◌, take}
use Rattle.std.specs.Prelude.{sum_by}
use Rattle.definitions.specs.Table.{Column}
use Rattle.definitions.specs.Statistics.{bytes_of}
use Rattle.loading.specs.Stored.{headers}
use Rattle.indexes.proofs.pages.row_width.Given as goal

-- the bytes of the columns so far
abbrev pub invariant-loop-column : goal.invariant-loop-column
invariant-loop-column l = record {
  exact : l.width ≡ 8 + sum_by (λ (c : Column). bytes_of c.type) (headers (take l.column-index l.columns));
  bound : l.width ≤ 8 + 255 * l.column-index;
}
