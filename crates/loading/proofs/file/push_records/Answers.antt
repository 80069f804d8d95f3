use Rattle.std.proofs.Common.{Err, arith}
use Rattle.std.proofs.lemmas.Result.{err_from_is_err_and}
use Rattle.csv.specs.Records.{fields_of}
use Rattle.definitions.specs.Loading.{RecordReads}
use Rattle.loading.specs.Meaning.{record_refusal}
use Rattle.loading.specs.Stored.{headers}
use Rattle.loading.proofs.Loading.{is_next, on_false, nothing_read, number_fits, one_record, no_record, no_room, all_records, filled_so_far, pushed_extends, partly_pushed, below}
use Rattle.loading.proofs.Pushing.{refused_is}
use Rattle.loading.proofs.file.push_records.Goals as goal

pub loop-record-init : goal.loop-record-init
loop-record-init g c = record { pushed = nothing_read c.args.columns.now c.args.bytes.now c.reader_of-reader.result c.reader_of-reader.ensures; within = omega arith }

pub returns-in_err-next_record-clause-err : goal.returns-in_err-next_record-clause-err
returns-in_err-next_record-clause-err g c =
    let p = err_from_is_err_and c.from_residual.result c.from_residual.ensures.1 in
    rw p.1 (pushed_extends c.args.columns.now c.loop-record.columns c.args.bytes.now c.loop-record.reader c.loop-record.rows c.loop-record.invariant.pushed)

pub returns-then-rows-room-clause-pushes : goal.returns-then-rows-room-clause-pushes
returns-then-rows-room-clause-pushes g c =
    no_room c.args.columns.now c.loop-record.columns c.args.bytes.now c.loop-record.reader c.next_record.new.reader c.loop-record.rows c.args.room (fields_of c.next_record.new.fields) c.loop-record.invariant.pushed (is_next c.in_ok-next_record.field-0 c.args.bytes.now c.loop-record.reader c.next_record.new.reader (fields_of c.next_record.new.fields) c.if-branch.true (c.in_ok-next_record.ensures).more) c.if-rows-room.true

pub push_record-requires : goal.push_record-requires
push_record-requires g c = filled_so_far c.args.columns.now c.loop-record.columns c.args.bytes.now c.loop-record.reader c.loop-record.rows c.args.len c.requires.filled c.loop-record.invariant.pushed

pub loop-record-smaller : goal.loop-record-smaller
loop-record-smaller g c =
    let few = number_fits c.args.columns.now c.loop-record.columns c.args.bytes.now c.loop-record.reader c.next_record.new.reader c.loop-record.rows (fields_of c.next_record.new.fields) c.loop-record.invariant.pushed (is_next c.in_ok-next_record.field-0 c.args.bytes.now c.loop-record.reader c.next_record.new.reader (fields_of c.next_record.new.fields) c.if-branch.true (c.in_ok-next_record.ensures).more) in
    omega (arith, few)

pub loop-record-preserved : goal.loop-record-preserved
loop-record-preserved g c =
    let (row, reads, new) = (c.in-Ok.ensures).ok in
    record {
      pushed =
          one_record c.args.columns.now c.loop-record.columns c.push_record.new.columns c.args.bytes.now c.loop-record.reader c.next_record.new.reader c.loop-record.rows (fields_of c.next_record.new.fields) c.loop-record.invariant.pushed (is_next c.in_ok-next_record.field-0 c.args.bytes.now c.loop-record.reader c.next_record.new.reader (fields_of c.next_record.new.fields) c.if-branch.true (c.in_ok-next_record.ensures).more)
          row reads new;
      within = below c.loop-record.rows c.args.room c.loop-record.invariant.within c.if-rows-room.false;
    }

pub returns-in-Err-Refused-clause-pushes : goal.returns-in-Err-Refused-clause-pushes
returns-in-Err-Refused-clause-pushes g c =
    no_record c.args.columns.now c.loop-record.columns c.push_record.new.columns c.args.bytes.now c.loop-record.reader c.next_record.new.reader c.loop-record.rows c.args.room (fields_of c.next_record.new.fields) c.in-Err-Refused.fault
    c.refused_record-refused.result c.loop-record.invariant.pushed (is_next c.in_ok-next_record.field-0 c.args.bytes.now c.loop-record.reader c.next_record.new.reader (fields_of c.next_record.new.fields) c.if-branch.true (c.in_ok-next_record.ensures).more)
    (refused_is c.in-Err-Refused.field-0 c.in-Err-Refused.fault (λ f. RecordReads (headers c.loop-record.columns) (fields_of c.next_record.new.fields) (Err (record_refusal f))) c.in-Err-Refused.field-0-is (c.in-Err-Refused.ensures).refused)
    (c.in-Err-Refused.ensures).err (below c.loop-record.rows c.args.room c.loop-record.invariant.within c.if-rows-room.false) c.refused_record-refused.ensures.fault c.refused_record-refused.ensures.number

pub returns-in-Err-Memory-clause-err : goal.returns-in-Err-Memory-clause-err
returns-in-Err-Memory-clause-err g c =
    partly_pushed c.args.columns.now c.loop-record.columns c.push_record.new.columns c.args.bytes.now c.loop-record.reader c.loop-record.rows c.loop-record.invariant.pushed (c.in-Err-Memory.ensures).err

pub returns-clause-pushes : goal.returns-clause-pushes
returns-clause-pushes g c =
    all_records c.args.columns.now c.loop-record.columns c.args.bytes.now c.loop-record.reader c.loop-record.rows c.args.room c.loop-record.invariant.pushed c.loop-record.invariant.within
    (on_false c.in_ok-next_record.field-0 _ c.if-branch.false (c.in_ok-next_record.ensures).end c.args.bytes.now)
