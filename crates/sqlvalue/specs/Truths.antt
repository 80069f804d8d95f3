-- Truth values of this crate.
use Rattle.definitions.specs.Truth.{Truth, False, Unknown, True}
use Rattle.sqlvalue.specs.declared.truth.Tri.{Tri}
use Rattle.sqlvalue.specs.declared.truth.Tri.TheVariants as t

abbrev pub truth_of : Tri → Truth
truth_of t.False = False
truth_of t.Unknown = Unknown
truth_of t.True = True
