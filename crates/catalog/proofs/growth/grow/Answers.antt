use Rattle.std.proofs.Common.{refl, rules}
use Rattle.catalog.proofs.Loading.{repeat_of}
use Rattle.catalog.proofs.Growing.{HasPushed, become, beginnings, repeated_is_new, pushed_extends, tells_record, tells_full, tells_all, tells_repeated}
use Rattle.catalog.proofs.growth.grow.Goals as goal

pub extend_indexes-requires-clause-filled : goal.extend_indexes-requires-clause-filled
extend_indexes-requires-clause-filled g c =
    let has : HasPushed c.args.columns.now c.args.indexes.now c.args.len c.args.bytes.now c.in-Ok.field-0 c.push_records.new.columns = record { filled = c.requires.filled; few = c.requires.few; ordered = c.requires.ordered; pushes = (c.in-Ok.ensures).pushes } in
    (become _ _ _ _ _ _ has).filled

pub extend_indexes-requires-clause-few : goal.extend_indexes-requires-clause-few
extend_indexes-requires-clause-few g c =
    let has : HasPushed c.args.columns.now c.args.indexes.now c.args.len c.args.bytes.now c.in-Ok.field-0 c.push_records.new.columns = record { filled = c.requires.filled; few = c.requires.few; ordered = c.requires.ordered; pushes = (c.in-Ok.ensures).pushes } in
    (become _ _ _ _ _ _ has).few

pub extend_indexes-requires-clause-beginnings : goal.extend_indexes-requires-clause-beginnings
extend_indexes-requires-clause-beginnings g c =
    let has : HasPushed c.args.columns.now c.args.indexes.now c.args.len c.args.bytes.now c.in-Ok.field-0 c.push_records.new.columns = record { filled = c.requires.filled; few = c.requires.few; ordered = c.requires.ordered; pushes = (c.in-Ok.ensures).pushes } in
    beginnings _ _ _ _ _ _ has

pub repeated_record-requires : goal.repeated_record-requires
repeated_record-requires g c =
    let has : HasPushed c.args.columns.now c.args.indexes.now c.args.len c.args.bytes.now c.in-Ok.field-0 c.push_records.new.columns = record { filled = c.requires.filled; few = c.requires.few; ordered = c.requires.ordered; pushes = (c.in-Ok.ensures).pushes } in
    rw c.in-Err-Repeated.repeated-is (repeated_is_new _ _ _ _ _ _ c.in-Err-Repeated.repeated has (repeat_of _ _ _ c.in-Err-Repeated.repeated (search rules) (c.in-Err-Repeated.ensures).refused))

pub returns-in-Err-Repeated-clause-refused : goal.returns-in-Err-Repeated-clause-refused
returns-in-Err-Repeated-clause-refused g c t o =
    let has : HasPushed c.args.columns.now c.args.indexes.now c.args.len c.args.bytes.now c.in-Ok.field-0 c.push_records.new.columns = record { filled = c.requires.filled; few = c.requires.few; ordered = c.requires.ordered; pushes = (c.in-Ok.ensures).pushes } in
    tells_repeated _ _ _ _ _ _ has t o c.in-Err-Repeated.repeated c.repeated_record.result (repeat_of _ _ _ c.in-Err-Repeated.repeated (search rules) (c.in-Err-Repeated.ensures).refused) (rw (← c.in-Err-Repeated.repeated-is) c.repeated_record.ensures)

pub returns-in-Err-Repeated-clause-err : goal.returns-in-Err-Repeated-clause-err
returns-in-Err-Repeated-clause-err g c = pushed_extends _ _ _ _ _ (c.in-Ok.ensures).pushes

pub returns-in-Err-Memory-clause-err : goal.returns-in-Err-Memory-clause-err
returns-in-Err-Memory-clause-err g c = pushed_extends _ _ _ _ _ (c.in-Ok.ensures).pushes

pub returns-in-None-clause-ok : goal.returns-in-None-clause-ok
returns-in-None-clause-ok g c t o =
    let has : HasPushed c.args.columns.now c.args.indexes.now c.args.len c.args.bytes.now c.in-Ok.field-0 c.push_records.new.columns = record { filled = c.requires.filled; few = c.requires.few; ordered = c.requires.ordered; pushes = (c.in-Ok.ensures).pushes } in
    tells_all _ _ _ _ _ _ has t o _ (c.in-Ok-extend_indexes.ensures).ok c.in-None.is refl

pub returns-in-Some-Record-clause-refused : goal.returns-in-Some-Record-clause-refused
returns-in-Some-Record-clause-refused g c t o =
    let has : HasPushed c.args.columns.now c.args.indexes.now c.args.len c.args.bytes.now c.in-Ok.field-0 c.push_records.new.columns = record { filled = c.requires.filled; few = c.requires.few; ordered = c.requires.ordered; pushes = (c.in-Ok.ensures).pushes } in
    tells_record _ _ _ _ _ _ has t o c.in-Ok-extend_indexes.made.items c.in-Some-Record.refused (c.in-Ok-extend_indexes.ensures).ok (search rules)

pub returns-in-Some-Record-clause-err : goal.returns-in-Some-Record-clause-err
returns-in-Some-Record-clause-err g c = pushed_extends _ _ _ _ _ (c.in-Ok.ensures).pushes

pub returns-clause-refused : goal.returns-clause-refused
returns-clause-refused g c t o =
    let has : HasPushed c.args.columns.now c.args.indexes.now c.args.len c.args.bytes.now c.in-Ok.field-0 c.push_records.new.columns = record { filled = c.requires.filled; few = c.requires.few; ordered = c.requires.ordered; pushes = (c.in-Ok.ensures).pushes } in
    tells_full _ _ _ _ _ _ has t o c.in-Ok-extend_indexes.made.items (c.in-Ok-extend_indexes.ensures).ok (search rules)

pub returns-clause-err : goal.returns-clause-err
returns-clause-err g c = pushed_extends _ _ _ _ _ (c.in-Ok.ensures).pushes
