use Rattle.std.proofs.Common.{◌≡◌, ◌∙◌, ◌+◌, ◌++◌, [], ◌∷◌, map, ap, sym, subst, drop}
use Rattle.std.proofs.lemmas.List.{drop_all, drop_more, map-append, append_assoc, append-nil}
use Rattle.definitions.specs.Plans.Certificate.{IsCertificate}
use Rattle.plan_tree.specs.Certificates.{state_of}
use Rattle.cert_check.specs.Planned.{space_in}
use Rattle.planned_queries.proofs.Parts.{left_out}
use Rattle.planned_queries.proofs.listening.leading_part.Goals as goal
use Rattle.planned_queries.proofs.listening.leading_part.Goals.{then-begins_at+in_ok-push, else-begins_at}

pub states-init : goal.states-init
states-init c = rw c.new-states.ensures.items (rw c.deref-state-items.ensures.value c.requires)

pub states-preserved : goal.states-preserved
states-preserved c =
    let space = space_in c.args.planned.now.own.space in
    let items = c.deref-state-items.result.now in
    let i = c.states.state-index in
    let target = c.args.planned.now.certificate.target in
    let kept = map state_of c.states.states.items in
    let rest = map state_of (drop (i + 1) items) in
    let next = drop_more items i c.state-item.result c.states-test.true ∙ ap (λ s. s ∷ drop (i + 1) items) (sym c.state-item.is) in
    let whole = subst (λ ss. IsCertificate space (record { target = target; states = kept ++ map state_of ss })) next c.states.invariant in
    elim c.if-begins_at.branch [
      | then-begins_at+in_ok-push w ↦
          let pushed = ap (λ states. map state_of states.items) w.states-is ∙ ap (map state_of) w.in_ok-push.ensures.items ∙ map-append state_of c.states.states.items (c.state-item.result ∷ []) in
          let same = ap (λ ss. ss ++ rest) pushed ∙ append_assoc kept (state_of c.state-item.result ∷ []) rest in
          subst (λ ss. IsCertificate space (record { target = target; states = ss })) (sym same) whole
      | else-begins_at w ↦ rw w.states-is (left_out space target kept (state_of c.state-item.result) rest whole)
    ]

pub returns : goal.returns
returns c =
    let space = space_in c.args.planned.now.own.space in
    let kept = map state_of c.states.states.items in
    let none = drop_all c.states.state-index c.deref-state-items.result.now c.states-test.false in
    let same = ap (λ ss. kept ++ map state_of ss) none ∙ append-nil kept in
    subst (λ ss. IsCertificate space (record { target = c.args.planned.now.certificate.target; states = ss })) same c.states.invariant
