use Rattle.std.proofs.Common.{◌≡◌, ◌∙◌, sym, ap, Bool, true, false}
use Rattle.std.specs.Prelude.{◌&&◌}
use Rattle.std.proofs.lemmas.Result.{err_from_is_err_and}
use Rattle.definitions.specs.Truth.{is_true}
use Rattle.sqlvalue.specs.Truths.{truth_of}
use Rattle.block_answers.proofs.Testing.{one_can, one_quiet, one_raises, one_tested}
use Rattle.block_answers.proofs.late.try_all.Goals as goal
use Rattle.block_answers.proofs.late.try_all.Goals.{then-is_true, else-is_true}

where_true : (own all after : Bool) → after ≡ all → own ≡ true → after ≡ (own && all)
where_true own all after is met = is ∙ ap (λ b. b && all) (sym met)

where_false : (own all after : Bool) → after ≡ false → own ≡ false → after ≡ (own && all)
where_false own all after is unmet = is ∙ ap (λ b. b && all) (sym unmet)

pub truth-requires-clause-fits : goal.truth-requires-clause-fits
truth-requires-clause-fits g c =
    (one_can (g.S.Environment.environment c.args.env.now) c.args.conditions.now c.conditions.condition-index c.condition-item.result c.conditions-test.true c.condition-item.is c.requires).fits

pub truth-requires-clause-typed : goal.truth-requires-clause-typed
truth-requires-clause-typed g c =
    (one_can (g.S.Environment.environment c.args.env.now) c.args.conditions.now c.conditions.condition-index c.condition-item.result c.conditions-test.true c.condition-item.is c.requires).typed

pub returns-in_err-truth-clause-raised : goal.returns-in_err-truth-clause-raised
returns-in_err-truth-clause-raised g c =
    let e = err_from_is_err_and c.from_residual.result c.from_residual.ensures.1 in
    rw (e.1, e.2)
    (one_raises (g.S.Environment.environment c.args.env.now) c.args.conditions.now c.conditions.condition-index c.condition-item.result c.conditions-test.true c.condition-item.is _ c.conditions.invariant.raises c.in_err-truth.ensures)

pub conditions-preserved : goal.conditions-preserved
conditions-preserved g c =
    let env = g.S.Environment.environment c.args.env.now in
    let conditions = c.args.conditions.now in
    let t = truth_of c.in_ok-truth.field-0 in
    let next : (after : Bool) → after ≡ (is_true t && c.conditions.all) → _ = λ after is. one_tested env conditions c.conditions.condition-index c.condition-item.result c.conditions-test.true c.condition-item.is t c.conditions.all after _ c.in_ok-truth.ensures is c.conditions.invariant.truth in
    record {
      truth = elim c.if-is_true.branch [
        | then-is_true w ↦ next c.if-is_true.all (where_true (is_true t) c.conditions.all _ w.all-is (sym c.is_true.ensures ∙ w.if-is_true.true))
        | else-is_true w ↦ next c.if-is_true.all (where_false (is_true t) c.conditions.all _ (w.all-is ∙ w.if-is_true.false) (sym c.is_true.ensures ∙ w.if-is_true.false))
      ];
      raises = one_quiet env conditions c.conditions.condition-index c.condition-item.result c.conditions-test.true c.condition-item.is t _ c.in_ok-truth.ensures c.conditions.invariant.raises;
    }
