-- What is known of an exception that is raised.
use Rattle.definitions.specs.Arithmetic.{Raise}
use Rattle.sqlvalue.specs.Raises.{raise_of}
use Rattle.result_lines.specs.Faults.{IfRaised}
use Rattle.result_lines.specs.declared.fault.AnswerFault.{AnswerFault}
use Rattle.result_lines.specs.declared.fault.AnswerFault.TheVariants as f

pub raised_weaker : (fault : AnswerFault) (P Q : Raise → Type 0) → ((raise : Raise) → P raise → Q raise) → IfRaised fault P → IfRaised fault Q
raised_weaker f.Memory P Q w h = tt
raised_weaker (f.Raised raise) P Q w h = w (raise_of raise) h
