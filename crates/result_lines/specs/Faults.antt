-- What the faults of answers stand for.
use Rattle.std.specs.Prelude.{⊤}
use Rattle.definitions.specs.Arithmetic.{Raise}
use Rattle.sqlvalue.specs.Raises.{raise_of}
use Rattle.result_lines.specs.declared.fault.AnswerFault.{AnswerFault}
use Rattle.result_lines.specs.declared.fault.AnswerFault.TheVariants as f

-- a property of the exception, where one is raised
abbrev pub IfRaised : AnswerFault → (Raise → Type 0) → Type 0
IfRaised (f.Raised raise) P = P (raise_of raise)
IfRaised f.Memory P = ⊤
