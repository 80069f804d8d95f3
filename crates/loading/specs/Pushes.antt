-- What columns become by the records of a file.
use Rattle.std.specs.Prelude.{ℕ, ◌≡◌, ◌+◌, ◌<◌, ◌≤◌, List, [], ◌∷◌, ◌++◌, Option, Some, None, Err, length, ⊤}
use Rattle.definitions.specs.Table.{Column, Row}
use Rattle.definitions.specs.Loading.{Record, AreFileRecords, RecordReads, AllRead}
use Rattle.loading.specs.Meaning.{record_refusal}
use Rattle.loading.specs.Stored.{StoredColumn, headers, with_rows}
use Rattle.loading.specs.declared.pushed.Pushed.{Pushed}
use Rattle.loading.specs.declared.pushed.StopReason.{StopReason}
use Rattle.loading.specs.declared.pushed.StopReason.TheVariants as stop

-- why no more records than so many become rows, where there is room for some: none is left, the next is no row, or
-- there is no room for it
abbrev pub StopsAt : List Column → (room rows : ℕ) → (left : List Record) → Option StopReason → Type 0
StopsAt columns room rows [] None = ⊤
StopsAt columns room rows (faulty ∷ left) (Some (stop.Record r)) = (rows < room)
    × RecordReads columns faulty (Err (record_refusal r.fault)) × (r.number ≡ rows + 1)
StopsAt columns room rows (further ∷ left) (Some stop.Full) = rows ≡ room
StopsAt columns room rows _ _ = ⊥

-- the first records of a file become rows of columns
pub record Pushes (old : List StoredColumn) (bytes : List ℕ) (room : ℕ) (pushed : Pushed) (new : List StoredColumn) :
    Type 0 where
  pub first : List Record
  pub left : List Record
  pub rows : List Row
  pub records : AreFileRecords bytes (first ++ left)
  pub read : AllRead (headers old) first rows
  pub count : pushed.rows ≡ length rows
  pub added : new ≡ with_rows old rows
  pub within : pushed.rows ≤ room
  pub stops : StopsAt (headers old) room pushed.rows left pushed.stopped
