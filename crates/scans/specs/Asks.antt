-- What conjuncts ask, as code has it.
use Rattle.std.specs.Prelude.{ℕ, ◌≡◌, Some, slice_get}
use Rattle.definitions.specs.Queries.BoundBlock.{Condition, Block}
use Rattle.definitions.specs.Queries.Conjuncts.{conjuncts}
use Rattle.definitions.specs.Queries.Evaluation.{Environment}
use Rattle.sqlvalue.specs.Meaning.{value_of}
use Rattle.columns.specs.Starts.{limit_of}
use Rattle.definitions_execution.specs.Asking as spec
use Rattle.filters.specs.Evaluable.{CanEvaluate}
use Rattle.scans.specs.declared.scan_key.ScanKey.{ScanKey}
use Rattle.scans.specs.declared.scan_key.ScanKey.TheVariants as a

abbrev pub asked_of : ScanKey → spec.ScanKey
asked_of (a.EqualTo value) = spec.EqualTo (value_of value)
asked_of (a.InRange low high) = spec.InRange (limit_of low) (limit_of high)

-- the conjunct of a number is there, and its values can be evaluated
abbrev pub CanAsk : Environment → Block → ℕ → Type 0
CanAsk env block number = (condition : Condition) × (slice_get (conjuncts block) number ≡ Some condition)
    × CanEvaluate env condition
