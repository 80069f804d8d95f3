use Rattle.std.proofs.Common.{◌∙◌, ◌+◌, ◌++◌, sym, ap, subst, arith}
use Rattle.planner.proofs.Plans.{TextsTo, next_text, all_texts}
use Rattle.planner.proofs.planned_query.explain_text.Goals as goal

pub texts-preserved : goal.texts-preserved
texts-preserved c = record {
  told = subst (TextsTo c.args.planned.now (c.texts.block-index + 1)) (sym (c.in_ok-extend_from_slice.ensures.items ∙ ap (λ xs. c.texts.text.items ++ xs) c.deref.ensures.value))
      (next_text c.args.planned.now c.texts.block-index c.block-item.result c.texts.text.items c.in_ok-own.own.items c.texts-test.true c.block-item.is c.in_ok-own.ensures c.texts.invariant.told);
}

pub returns : goal.returns
returns c = all_texts c.args.planned.now c.texts.block-index c.texts.text.items (omega (arith, c.texts-test.false)) c.texts.invariant.told
