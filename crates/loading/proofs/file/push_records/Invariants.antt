use Rattle.std.proofs.Common.{◌-◌, ◌≤◌, length}
use Rattle.loading.proofs.Loading.{HavePushedRecords}
use Rattle.loading.proofs.file.push_records.Given as goal

-- as many rows as the records that were read, and no more than there is room for
abbrev pub invariant-loop-record : goal.invariant-loop-record
invariant-loop-record g l = record {
  pushed : HavePushedRecords l.fn.columns l.columns l.fn.bytes l.reader l.rows;
  within : l.rows ≤ l.room;
}

abbrev pub decreases-loop-record : goal.decreases-loop-record
decreases-loop-record g l = length l.fn.bytes - l.rows
