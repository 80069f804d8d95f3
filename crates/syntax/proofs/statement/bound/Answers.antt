use Rattle.std.proofs.Common.{Some, None, false, Result}
use Rattle.std.proofs.Common.{ap₂, ℕ, Bool, Option, unwrap_or, Result}
use Rattle.definitions.specs.Statement as tree
use Rattle.definitions.specs.Rule.{Reads}
use Rattle.syntax_cursor.specs.declared.stop.ParseStop.{ParseStop}
use Rattle.syntax_cursor.specs.Reading.{Place, Takes, Outcome}
use Rattle.definitions.specs.Grammar as g
use Rattle.syntax_cursor.proofs.Outcomes.{gives_as, reads_on, reads_not_on, says_not, begins}
use Rattle.syntax_cursor.proofs.Places.{here, on}
use Rattle.syntax.proofs.Places as leaves
use Rattle.syntax.proofs.statement.bound.Goals as goal

signed : {p q t : Place} {l k : ℕ} {out : Result tree.Bound ParseStop} (o : Option Bool) → Takes g.sign_in (λ minus. minus) p q o → Outcome (λ m. g.UnsignedAt (unwrap_or o false)) l k q t out → Outcome (λ m. Reads g.sign_in (λ minus. g.UnsignedAt minus) (g.UnsignedAt false)) l k p t out
signed None at out = reads_not_on at out
signed (Some b) at out = reads_on at out

bound_from : Bool → tree.Expr → tree.Bound
bound_from minus (tree.Numeral units digits scale) = record { minus = minus; units = units; digits = digits; scale = scale }
bound_from minus _ = record { minus = minus; units = 0; digits = 0; scale = 0 }

pub returns-in_default-clause-reads : goal.returns-in_default-clause-reads
unfolding g.BoundAt
returns-in_default-clause-reads c l k = signed c.take_sign.result c.take_sign.ensures (begins c.in_default.ensures.taken.1 (says_not (rw c.in_default.ensures.taken.1 c.in_default.ensures.taken.0) c.stop.ensures))

pub returns-clause-reads : goal.returns-clause-reads
unfolding g.BoundAt bound_from
returns-clause-reads c l k = signed c.take_sign.result c.take_sign.ensures (reads_on (c.in-Some.ensures.taken.0.1, c.in-Some.ensures.taken.1) (gives_as (ap₂ bound_from c.unwrap_or-minus.ensures c.in-Some.ensures.taken.0.2)))

pub returns-clause-placed : goal.returns-clause-placed
returns-clause-placed c = on (leaves.maybe_sign _ here c.take_sign.ensures) c.in-Some.ensures.placed
