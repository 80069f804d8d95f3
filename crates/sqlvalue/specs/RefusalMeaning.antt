-- What the refusals of this crate stand for.
use Rattle.definitions.specs.Refusal as spec
use Rattle.sqlvalue.specs.declared.field.FieldFault.{FieldFault}
use Rattle.sqlvalue.specs.declared.field.FieldFault.TheVariants as f
use Rattle.sqlvalue.specs.declared.refusal.Refusal.{Refusal}
use Rattle.sqlvalue.specs.declared.refusal.Refusal.TheVariants as r

abbrev pub field_error_of : FieldFault → spec.FieldError
field_error_of f.NoNumber = spec.BadText
field_error_of f.Unprintable = spec.BadText
field_error_of f.ManyDigits = spec.OutOfRange
field_error_of f.TooFine = spec.OutOfRange
field_error_of f.TooGreat = spec.OutOfRange
field_error_of f.TooLong = spec.TooLong

abbrev pub refusal_of : Refusal → spec.Refusal
refusal_of r.StrayCharacter = spec.StrayCharacter
refusal_of r.OpenString = spec.OpenString
refusal_of r.LongLiteral = spec.LongLiteral
refusal_of r.LongName = spec.LongName
refusal_of r.Unexpected = spec.Unexpected
refusal_of r.TooDeep = spec.TooDeep
refusal_of r.NameTaken = spec.NameTaken
refusal_of r.NotFound = spec.NotFound
refusal_of r.OverLimit = spec.OverLimit
refusal_of r.FieldCount = spec.FieldCount
refusal_of (r.Field f) = spec.Field (field_error_of f)
refusal_of r.NullOrRepeated = spec.NullOrRepeated
refusal_of r.ScaleTooGreat = spec.ScaleTooGreat
refusal_of r.UnknownColumn = spec.UnknownColumn
refusal_of r.MixedKinds = spec.MixedKinds
refusal_of r.MisplacedCondition = spec.MisplacedCondition
refusal_of r.MisplacedFunction = spec.MisplacedFunction
refusal_of r.UngroupedColumn = spec.UngroupedColumn
refusal_of r.UnknownKey = spec.UnknownKey
refusal_of r.ManyTables = spec.ManyTables
refusal_of r.OverQueryLimit = spec.OverQueryLimit
refusal_of r.NoFile = spec.NoFile
