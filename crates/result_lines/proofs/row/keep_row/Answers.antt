use Rattle.std.proofs.Common.{◌∙◌, ◌++◌, ◌∷◌, [], sym, subst, ap, map, drop, ◌+◌, append_assoc, arith}
use Rattle.std.specs.List.{AllByRecursion}
use Rattle.std.proofs.lemmas.List.{map-append}
use Rattle.std.proofs.lemmas.Result.{err_from_is_err_and}
use Rattle.definitions_answers.specs.Lines.{IsInBounds}
use Rattle.sqlvalue.specs.Owned.{owned_value}
use Rattle.result_lines.specs.RowAt.{items_of, row_in}
use Rattle.result_lines.proofs.Bounded.{is_in_bounds}
use Rattle.result_lines.proofs.Columns.{none_left, one_can, next_value, next_quiet, column_raises}
use Rattle.result_lines.proofs.row.keep_row.Goals as goal

pub value-requires-clause-fits : goal.value-requires-clause-fits
value-requires-clause-fits g c =
    (one_can (g.S.Environment.environment c.args.env.now) c.args.items.now c.items.item-index c.item-item.result c.items-test.true c.item-item.is c.requires).fits

pub value-requires-clause-typed : goal.value-requires-clause-typed
value-requires-clause-typed g c =
    (one_can (g.S.Environment.environment c.args.env.now) c.args.items.now c.items.item-index c.item-item.result c.items-test.true c.item-item.is c.requires).typed

pub returns-in_err-value-clause-raised : goal.returns-in_err-value-clause-raised
returns-in_err-value-clause-raised g c =
    let e = err_from_is_err_and c.from_residual.result c.from_residual.ensures.1 in
    rw (e.1, e.2)
    (column_raises (g.S.Environment.environment c.args.env.now) c.args.items.now c.items.item-index c.item-item.result c.items-test.true c.item-item.is _ c.items.invariant.raises c.in_err-value.ensures)

pub items-preserved : goal.items-preserved
items-preserved g c =
    let items = c.args.items.now in
    let env = g.S.Environment.environment c.args.env.now in
    let here = next_value env items c.items.item-index c.item-item.result c.items-test.true c.item-item.is _ c.in_ok-value.ensures in
    let rest = row_in env (items_of (drop (c.items.item-index + 1) items)) in
    let done = map owned_value c.items.values.items in
    record {
      row =
          ap (λ ks. map owned_value ks ++ rest) c.in_ok-push.ensures.items
          ∙ ap (λ vs. vs ++ rest) (map-append owned_value c.items.values.items (c.in_ok-kept.kept ∷ []))
          ∙ append_assoc done (owned_value c.in_ok-kept.kept ∷ []) rest
          ∙ ap (λ vs. done ++ vs) (ap (λ v. v ∷ rest) c.in_ok-kept.ensures ∙ sym here)
          ∙ c.items.invariant.row;
      raises = next_quiet env items c.items.item-index c.item-item.result c.items-test.true c.item-item.is _ _ c.in_ok-value.ensures c.items.invariant.raises;
      bounded = λ rest. c.items.invariant.bounded (subst (AllByRecursion IsInBounds) (sym here) (is_in_bounds c.in_ok-value.field-0, rest));
    }

pub returns-clause-bounded : goal.returns-clause-bounded
returns-clause-bounded g c = c.items.invariant.bounded (none_left (AllByRecursion IsInBounds) (g.S.Environment.environment c.args.env.now) c.args.items.now c.items.item-index (omega arith) tt)
