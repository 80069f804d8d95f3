use Rattle.std.proofs.Common.{None}
use Rattle.plan_space.specs.Planned.{space_in}
use Rattle.plan_tree.specs.Certificates.{state_of, certificate_of}
use Rattle.cert_check.specs.Checks.{IsJoinWith}
use Rattle.cert_check.specs.Handing.{HandsOut}
use Rattle.cert_check.proofs.Handing.{Before}
use Rattle.cert_check.proofs.joins.compare_joins_from.Given as goal

abbrev pub invariant-tables : goal.invariant-tables
invariant-tables g l = HandsOut g.L.Listener.hears (Before (IsJoinWith (space_in l.space) (certificate_of l.certificate) (state_of l.from)) l.table) l.fn.listener None l.listener
