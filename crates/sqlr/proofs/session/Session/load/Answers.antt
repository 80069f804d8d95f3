use Rattle.std.proofs.Common.{◌≡◌, ◌≢◌, ◌∙◌, refl, sym, ap, ap₂, None}
use Rattle.std.proofs.lemmas.Result.{IfOk-weaker}
use Rattle.definitions.specs.Faults as faults
use Rattle.definitions.specs.Table.{table_named}
use Rattle.definitions_execution.specs.Step.{State}
use Rattle.parse_tree.specs.Trees.{name_of}
use Rattle.sqlr.proofs.Taking.{refusal_told, no_file_told, bytes_taken, none_named, some_named}
use Rattle.sqlr.proofs.Breaking.{none_blamed, nothing_changed, answered_at, failed_at, all_kept, as_it_was}
use Rattle.sqlr.specs.declared.outcome.StepFault.TheVariants as fault
use Rattle.sqlr.proofs.session.Session.load.Goals as goal

pub load_bytes-requires : goal.load_bytes-requires
load_bytes-requires g c = some_named c.self.inside.database (name_of c.args.table.now) c.table.result (rw c.as_str.ensures.value at c.table.ensures.named) c.if-is_none.ensures

pub returns-then-is_none-clause-takes : goal.returns-then-is_none-clause-takes
returns-then-is_none-clause-takes g c =
    let none : table_named c.self.inside.database (name_of c.args.table.now) ≡ None = none_named c.self.inside.database (name_of c.args.table.now) c.table.result (rw c.as_str.ensures.value at c.table.ensures.named) c.if-is_none.ensures in
    rw (sym c.self.view_is) (refusal_told _ (record { library = c.self.inside.library; database = c.self.inside.database; work = c.self.inside.work }) _ _ _ _ (faults.no_table _ _ none) refl c.refusal_line.ensures.text c.refusal_line.ensures.ended)

pub returns-in-Ok-Bytes-clause-takes : goal.returns-in-Ok-Bytes-clause-takes
returns-in-Ok-Bytes-clause-takes g c =
    let state : State g.row.L.Denot = record { library = c.self.inside.library; database = c.self.inside.database; work = c.self.inside.work } in
    rw (sym c.self.view_is) (IfOk-weaker c.load_bytes.result _ _ (λ p h. bytes_taken _ state _ _ _ _ _ _ p (rw (c.in-Ok-Bytes.field-0-is, c.as_str-2.ensures.value) at c.in-Ok-Bytes.ensures.answer) h (ap₂ (λ l w. record { library = l; database = c.load_bytes.new.self.database; work = w }) c.load_bytes.ensures.library c.load_bytes.ensures.work)) c.load_bytes.ensures.takes)

pub returns-in-Ok-Absent-clause-takes : goal.returns-in-Ok-Absent-clause-takes
returns-in-Ok-Absent-clause-takes g c =
    let some : table_named c.self.inside.database (name_of c.args.table.now) ≢ None = some_named c.self.inside.database (name_of c.args.table.now) c.table.result (rw c.as_str.ensures.value at c.table.ensures.named) c.if-is_none.ensures in
    rw (sym c.self.view_is) (no_file_told _ (record { library = c.self.inside.library; database = c.self.inside.database; work = c.self.inside.work }) _ _ _ _ _ some (rw (c.in-Ok-Absent.field-0-is, c.as_str-2.ensures.value) at c.in-Ok-Absent.ensures.answer) refl c.refusal_line-in-Ok-Absent.ensures.text c.refusal_line-in-Ok-Absent.ensures.ended)

pub returns-then-is_none-clause-breaks : goal.returns-then-is_none-clause-breaks
returns-then-is_none-clause-breaks g c = rw (sym c.self.view_is) (nothing_changed _ _ (record { library = c.self.inside.library; database = c.self.inside.database; work = c.self.inside.work }) _ c.refusal_line.result c.refusal_line.ensures.memory)

pub returns-then-is_none-clause-blamed : goal.returns-then-is_none-clause-blamed
returns-then-is_none-clause-blamed g c = none_blamed _ _ c.refusal_line.result refl c.refusal_line.ensures.memory

pub returns-in-Ok-Bytes-clause-breaks : goal.returns-in-Ok-Bytes-clause-breaks
returns-in-Ok-Bytes-clause-breaks g c =
    let some : table_named c.self.inside.database (name_of c.args.table.now) ≢ None = some_named c.self.inside.database (name_of c.args.table.now) c.table.result (rw c.as_str.ensures.value at c.table.ensures.named) c.if-is_none.ensures in
    let state : State g.row.L.Denot = record { library = c.self.inside.library; database = c.self.inside.database; work = c.self.inside.work } in
    rw (sym c.self.view_is) (answered_at _ _ state _ _ _ some _ _ c.load_bytes.result (rw (c.in-Ok-Bytes.field-0-is, c.as_str-2.ensures.value) at c.in-Ok-Bytes.ensures.answer) c.load_bytes.ensures.memory (all_kept _ _ _ _ _ _ c.load_bytes.result c.load_bytes.ensures.library c.load_bytes.ensures.work c.load_bytes.ensures.kept))

pub returns-in-Ok-Bytes-clause-blamed : goal.returns-in-Ok-Bytes-clause-blamed
returns-in-Ok-Bytes-clause-blamed g c = rw (sym c.self.view_is) (none_blamed _ _ c.load_bytes.result (ap g.L.Library.failures c.load_bytes.ensures.library ∙ c.in-Ok-Bytes.ensures.blamed) c.load_bytes.ensures.memory)

pub returns-in-Ok-Absent-clause-breaks : goal.returns-in-Ok-Absent-clause-breaks
returns-in-Ok-Absent-clause-breaks g c =
    let some : table_named c.self.inside.database (name_of c.args.table.now) ≢ None = some_named c.self.inside.database (name_of c.args.table.now) c.table.result (rw c.as_str.ensures.value at c.table.ensures.named) c.if-is_none.ensures in
    let state : State g.row.L.Denot = record { library = c.self.inside.library; database = c.self.inside.database; work = c.self.inside.work } in
    rw (sym c.self.view_is) (answered_at _ _ state _ _ _ some _ None c.refusal_line-in-Ok-Absent.result (rw (c.in-Ok-Absent.field-0-is, c.as_str-2.ensures.value) at c.in-Ok-Absent.ensures.answer) c.refusal_line-in-Ok-Absent.ensures.memory (as_it_was _ c.refusal_line-in-Ok-Absent.result))

pub returns-in-Ok-Absent-clause-blamed : goal.returns-in-Ok-Absent-clause-blamed
returns-in-Ok-Absent-clause-blamed g c = rw (sym c.self.view_is) (none_blamed _ _ c.refusal_line-in-Ok-Absent.result c.in-Ok-Absent.ensures.blamed c.refusal_line-in-Ok-Absent.ensures.memory)

pub returns-in-Err-Device-clause-breaks : goal.returns-in-Err-Device-clause-breaks
returns-in-Err-Device-clause-breaks g c =
    let some : table_named c.self.inside.database (name_of c.args.table.now) ≢ None = some_named c.self.inside.database (name_of c.args.table.now) c.table.result (rw c.as_str.ensures.value at c.table.ensures.named) c.if-is_none.ensures in
    let state : State g.row.L.Denot = record { library = c.self.inside.library; database = c.self.inside.database; work = c.self.inside.work } in
    rw (sym c.self.view_is) (failed_at _ _ state _ _ _ some _ fault.Library (rw c.as_str-2.ensures.value at c.in-Err-Device.ensures.fault) refl)

pub returns-in-Err-Memory-clause-breaks : goal.returns-in-Err-Memory-clause-breaks
returns-in-Err-Memory-clause-breaks g c =
    let some : table_named c.self.inside.database (name_of c.args.table.now) ≢ None = some_named c.self.inside.database (name_of c.args.table.now) c.table.result (rw c.as_str.ensures.value at c.table.ensures.named) c.if-is_none.ensures in
    let state : State g.row.L.Denot = record { library = c.self.inside.library; database = c.self.inside.database; work = c.self.inside.work } in
    rw (sym c.self.view_is) (failed_at _ _ state _ _ _ some _ fault.Memory (rw c.as_str-2.ensures.value at c.in-Err-Memory.ensures.fault) refl)
