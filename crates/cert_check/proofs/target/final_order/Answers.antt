use Rattle.plan_space.specs.Planned.{space_in}
use Rattle.std.proofs.Common.{arith, refl}
use Rattle.definitions.specs.Plans.Certificate.{IsListed}
use Rattle.plan_tree.specs.Sets.{set_of}
use Rattle.plan_tree.specs.Certificates.{certificate_of}
use Rattle.plan_space.proofs.Deciding.{holds}
use Rattle.cert_check.specs.Checks.{IsFinal}
use Rattle.cert_check.proofs.Listed.{listed, there_at, every_listed}
use Rattle.cert_check.proofs.target.final_order.Goals as goal

pub returns-then-is_final : goal.returns-then-is_final
returns-then-is_final c =
    let final = holds _ c.if-is_final.ensures in
    let l : IsListed (certificate_of c.args.certificate.now) (set_of c.state-item.result.tables) c.state-item.result.order = (_, listed c.args.certificate.now c.deref-state-items.result.now c.deref-state-items.ensures.value c.state-item.result (there_at c.args.certificate.now c.deref-state-items.result.now c.deref-state-items.ensures.value c.state-item.result c.states.state-index c.state-item.is c.states-test.true)) in
    (rw final.0 at l, final.1)

pub returns : goal.returns
returns c order there gives =
    every_listed c.args.certificate.now c.deref-state-items.result.now c.deref-state-items.ensures.value (λ tables order. IsFinal (space_in c.args.space.now) tables order → ⊥) (λ i d lt. c.states.invariant i d (omega (arith, lt, c.states-test.false))) _ order there (refl, gives)
