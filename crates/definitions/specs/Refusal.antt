-- The refusals, by what is wrong.
use Rattle.std.specs.Prelude.{ℕ, List, codes}

-- what is wrong with a field of a file
pub data FieldError : Type 0 where
  BadText OutOfRange TooLong : FieldError

-- first those of a script's text, then those of a statement
pub data Refusal : Type 0 where
  StrayCharacter OpenString LongLiteral LongName Unexpected TooDeep NameTaken NotFound OverLimit FieldCount : Refusal
  Field : FieldError → Refusal
  NullOrRepeated ScaleTooGreat UnknownColumn MixedKinds MisplacedCondition MisplacedFunction UngroupedColumn : Refusal
  UnknownKey ManyTables OverQueryLimit NoFile : Refusal

-- the label that is printed (own)
abbrev pub label : Refusal → List ℕ
label StrayCharacter = codes "E01"
label OpenString = codes "E02"
label LongLiteral = codes "E03"
label LongName = codes "E04"
label Unexpected = codes "E05"
label TooDeep = codes "E06"
label NameTaken = codes "E07"
label NotFound = codes "E08"
label OverLimit = codes "E09"
label FieldCount = codes "E10"
label (Field e) = codes "E11"
label NullOrRepeated = codes "E12"
label ScaleTooGreat = codes "E13"
label UnknownColumn = codes "E14"
label MixedKinds = codes "E15"
label MisplacedCondition = codes "E16"
label MisplacedFunction = codes "E17"
label UngroupedColumn = codes "E18"
label UnknownKey = codes "E19"
label ManyTables = codes "E20"
label OverQueryLimit = codes "E21"
label NoFile = codes "E22"

-- the SQLSTATE: 42000 syntax error or access rule violation, 22003 numeric value out of range, 22001 string data, right
-- truncation, 23000 integrity constraint violation (ISO/IEC 9075:1992, 22.1)
abbrev pub field_state : FieldError → List ℕ
field_state BadText = codes "42000"
field_state OutOfRange = codes "22003"
field_state TooLong = codes "22001"

abbrev pub state : Refusal → List ℕ
state (Field e) = field_state e
state NullOrRepeated = codes "23000"
state _ = codes "42000"
