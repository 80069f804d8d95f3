-- What is said of a refusal, where there is one.
use Rattle.std.proofs.Common.{Option, Some, None}
use Rattle.std.specs.Prelude.{IfSome}
use Rattle.definitions.specs.Refusal.{Refusal}

pub if_some : (o : Option Refusal) (P Q : Refusal → Type 0) → ((r : Refusal) → P r → Q r) → IfSome o P → IfSome o Q
if_some None P Q h x = tt
if_some (Some r) P Q h x = h r x
