use Rattle.std.proofs.Common.{◌≡◌, ◌∙◌, ◌++◌, ◌∷◌, [], sym, subst, ap, map, drop, ◌+◌, arith}
use Rattle.std.specs.List.{AllByRecursion}
use Rattle.definitions_answers.specs.Lines.{IsInBounds}
use Rattle.result_lines.proofs.Bounded.{is_in_bounds}
use Rattle.std.proofs.lemmas.Result.{err_from_is_err_and}
use Rattle.definitions.specs.Printing.{value_text}
use Rattle.sqlvalue.specs.Meaning.{value_of}
use Rattle.result_lines.specs.RowAt.{items_of, row_in}
use Rattle.result_lines.proofs.Columns.{none_left, one_can, next_value, next_quiet, column_raises}
use Rattle.result_lines.proofs.Fields.{later_field, first_field}
use Rattle.result_lines.proofs.row.write_row.Goals as goal
use Rattle.result_lines.proofs.row.write_row.Goals.{then-i-gt0+in_ok-push, else-i-gt0}

pub value-requires-clause-fits : goal.value-requires-clause-fits
value-requires-clause-fits g c =
    (one_can (g.S.Environment.environment c.args.env.now) c.args.items.now c.items.i c.index-items-i.result c.items-test.true c.index-items-i.is c.requires).fits

pub value-requires-clause-typed : goal.value-requires-clause-typed
value-requires-clause-typed g c =
    (one_can (g.S.Environment.environment c.args.env.now) c.args.items.now c.items.i c.index-items-i.result c.items-test.true c.index-items-i.is c.requires).typed

pub returns-in_err-value-clause-raised : goal.returns-in_err-value-clause-raised
returns-in_err-value-clause-raised g c =
    let e = err_from_is_err_and c.from_residual-in_err-value.result c.from_residual-in_err-value.ensures.1 in
    rw (e.1, e.2)
    (column_raises (g.S.Environment.environment c.args.env.now) c.args.items.now c.items.i c.index-items-i.result c.items-test.true c.index-items-i.is _ c.items.invariant.raises c.in_err-value.ensures)

pub items-preserved : goal.items-preserved
items-preserved g c =
    let items = c.args.items.now in
    let env = g.S.Environment.environment c.args.env.now in
    let rest = map value_text (row_in env (items_of (drop (c.items.i + 1) items))) in
    let here : map value_text (row_in env (items_of (drop c.items.i items))) ≡ value_text (value_of c.in_ok-value.field-0) ∷ rest =
    ap (map value_text) (next_value env items c.items.i c.index-items-i.result c.items-test.true c.index-items-i.is _ c.in_ok-value.ensures) in
    record {
      text = elim c.if-i-gt0.branch [
        | then-i-gt0+in_ok-push w ↦
            let out : c.if-i-gt0.out.items ≡ c.items.out.items ++ 124 ∷ [] = ap (λ o. o.items) w.out-is ∙ w.in_ok-push.ensures.items in
            rw (c.in_ok-write_field.ensures, out) (later_field c.items.i _ _ _ _ rest here w.if-i-gt0.true c.items.invariant.text)
        | else-i-gt0 w ↦
            let out : c.if-i-gt0.out.items ≡ c.items.out.items = ap (λ o. o.items) w.out-is in
            rw (c.in_ok-write_field.ensures, out) (first_field c.items.i _ _ _ _ rest here (omega (arith, w.if-i-gt0.false)) c.items.invariant.text)
      ];
      raises = next_quiet env items c.items.i c.index-items-i.result c.items-test.true c.index-items-i.is _ _ c.in_ok-value.ensures c.items.invariant.raises;
      bounded = λ rest. c.items.invariant.bounded (subst (AllByRecursion IsInBounds) (sym (next_value env items c.items.i c.index-items-i.result c.items-test.true c.index-items-i.is _ c.in_ok-value.ensures)) (is_in_bounds c.in_ok-value.field-0, rest));
    }

pub returns-clause-bounded : goal.returns-clause-bounded
returns-clause-bounded g c = c.items.invariant.bounded (none_left (AllByRecursion IsInBounds) (g.S.Environment.environment c.args.env.now) c.args.items.now c.items.i (omega arith) tt)
