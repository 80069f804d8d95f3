use Rattle.std.proofs.Common.{◌≡◌, ◌≤◌, ◌+◌, ◌*◌, take}
use Rattle.std.specs.Prelude.{sum_by}
use Rattle.definitions.specs.Statistics.{bytes_at}
use Rattle.loading.specs.Stored.{headers}
use Rattle.indexes.proofs.pages.entry_width.Given as goal

-- the bytes of the columns so far
abbrev pub invariant-loop-number : goal.invariant-loop-number
invariant-loop-number l = record {
  exact : l.width ≡ 8 + sum_by (bytes_at (headers l.columns)) (take l.number-index l.numbers);
  bound : l.width ≤ 8 + 255 * l.number-index;
}
