-- What the faults of records stand for.
use Rattle.definitions.specs.Refusal as refusal
use Rattle.sqlvalue.specs.RefusalMeaning.{field_error_of}
use Rattle.loading.specs.declared.fault.ColumnFault.{ColumnFault}
use Rattle.loading.specs.declared.fault.ColumnFault.TheVariants as c
use Rattle.loading.specs.declared.fault.RecordFault.{RecordFault}
use Rattle.loading.specs.declared.fault.RecordFault.TheVariants as r

abbrev pub column_refusal : ColumnFault → refusal.Refusal
column_refusal c.Null = refusal.NullOrRepeated
column_refusal (c.Value fault) = refusal.Field (field_error_of fault)

abbrev pub record_refusal : RecordFault → refusal.Refusal
record_refusal (r.FieldCount fields) = refusal.FieldCount
record_refusal (r.Field fault column) = column_refusal fault
