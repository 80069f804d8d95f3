use Rattle.std.proofs.Common.{◌≡◌, ◌∙◌, ◌++◌, ◌∷◌, [], ap, map, drop, ◌+◌, arith}
use Rattle.definitions.specs.Printing.{value_text}
use Rattle.sqlvalue.specs.Owned.{owned_value}
use Rattle.result_lines.proofs.Fields.{later_field, first_field}
use Rattle.result_lines.proofs.Lists.{next}
use Rattle.result_lines.proofs.row.write_kept.Goals as goal
use Rattle.result_lines.proofs.row.write_kept.Goals.{then-i-gt0+in_ok-push, else-i-gt0}

pub values-preserved : goal.values-preserved
values-preserved c =
    let values = c.args.row.now.values.items in
    let items : c.deref-kept-items.result.now ≡ values = c.deref-kept-items.ensures.value in
    let rest = map value_text (map owned_value (drop (c.values.i + 1) values)) in
    let here : map value_text (map owned_value (drop c.values.i values)) ≡ value_text (owned_value c.kept-item.result) ∷ rest = ap (map value_text) (next owned_value values c.values.i c.kept-item.result (rw items at c.values-test.true) (rw items at c.kept-item.is)) in
    elim c.if-i-gt0.branch [
      | then-i-gt0+in_ok-push w ↦
          let out : c.if-i-gt0.out.items ≡ c.values.out.items ++ 124 ∷ [] = ap (λ o. o.items) w.out-is ∙ w.in_ok-push.ensures.items in
          rw (c.in_ok-write_field.ensures, out, c.value.ensures) (later_field c.values.i _ _ _ _ rest here w.if-i-gt0.true c.values.invariant)
      | else-i-gt0 w ↦
          let out : c.if-i-gt0.out.items ≡ c.values.out.items = ap (λ o. o.items) w.out-is in
          rw (c.in_ok-write_field.ensures, out, c.value.ensures) (first_field c.values.i _ _ _ _ rest here (omega (arith, w.if-i-gt0.false)) c.values.invariant)
    ]
