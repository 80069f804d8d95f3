use Rattle.std.proofs.Common.{◌≡◌, ◌∙◌, ◌++◌, ◌∷◌, [], Ok, refl, sym, subst, ap, map, drop, ◌+◌, arith}
use Rattle.std.specs.List.{AllByRecursion}
use Rattle.definitions.specs.Printing.{value_text}
use Rattle.definitions_answers.specs.Lines.{IsInBounds}
use Rattle.definitions.specs.Queries.Telling.{MayAnswer}
use Rattle.definitions.specs.Queries.Evaluation as meaning
use Rattle.query_tree.specs.Bound.{item_of}
use Rattle.result_lines.specs.Batches.{GivesColumnOf}
use Rattle.result_lines.specs.RowAt.{items_of, row_in}
use Rattle.result_lines.proofs.Columns.{next_value, none_left}
use Rattle.result_lines.proofs.Fields.{later_field, first_field}
use Rattle.result_lines.proofs.Lists.{at_place}
use Rattle.result_lines.proofs.column_rows.write_columns.Goals as goal
use Rattle.result_lines.proofs.column_rows.write_columns.Goals.{then-i-gt0+in_ok-push, else-i-gt0}

pub write_column-requires-clause-column : goal.write_column-requires-clause-column
write_column-requires-clause-column g c =
    at_place (GivesColumnOf (g.B.RowBatch.width c.args.batch.now)) item_of c.args.items.now c.items.i c.index-items-i.result c.requires.columns c.items-test.true c.index-items-i.is

pub items-preserved : goal.items-preserved
items-preserved g c = record {
  text = λ env at'.
      let items = c.args.items.now in
      let (v, means, bound, written) = c.in_ok-write_column.ensures env at' in
      let rest = map value_text (row_in env (items_of (drop (c.items.i + 1) items))) in
      let told : MayAnswer (meaning.value env (item_of c.index-items-i.result).value) (Ok v) = subst (λ m. MayAnswer m (Ok v)) (sym means) refl in
      let here : map value_text (row_in env (items_of (drop c.items.i items))) ≡ value_text v ∷ rest =
      ap (map value_text) (next_value env items c.items.i c.index-items-i.result c.items-test.true c.index-items-i.is v told) in
      elim c.if-i-gt0.branch [
        | then-i-gt0+in_ok-push w ↦
            let out : c.if-i-gt0.out.items ≡ c.items.out.items ++ 124 ∷ [] = ap (λ o. o.items) w.out-is ∙ w.in_ok-push.ensures.items in
            rw (written, out) (later_field c.items.i _ _ _ _ rest here w.if-i-gt0.true (c.items.invariant.text env at'))
        | else-i-gt0 w ↦
            let out : c.if-i-gt0.out.items ≡ c.items.out.items = ap (λ o. o.items) w.out-is in
            rw (written, out) (first_field c.items.i _ _ _ _ rest here (omega (arith, w.if-i-gt0.false)) (c.items.invariant.text env at'))
      ];
  bounded = λ env at' rest.
      let items = c.args.items.now in
      let (v, means, bound, written) = c.in_ok-write_column.ensures env at' in
      let told : MayAnswer (meaning.value env (item_of c.index-items-i.result).value) (Ok v) = subst (λ m. MayAnswer m (Ok v)) (sym means) refl in
      c.items.invariant.bounded env at' (subst (AllByRecursion IsInBounds) (sym (next_value env items c.items.i c.index-items-i.result c.items-test.true c.index-items-i.is v told)) (bound, rest));
}

pub returns-clause-bounded : goal.returns-clause-bounded
returns-clause-bounded g c env at' = c.items.invariant.bounded env at' (none_left (AllByRecursion IsInBounds) env c.args.items.now c.items.i (omega arith) tt)
