use Rattle.std.proofs.Common.{◌≡◌, ◌∙◌, ◌++◌, ◌∷◌, [], ap, map, drop, ◌+◌, List, ℕ, arith}
use Rattle.std.specs.Prelude.{string_bytes}
use Rattle.definitions.specs.Queries.BoundBlock as b
use Rattle.query_tree.specs.Bound.{item_of}
use Rattle.result_lines.specs.RowAt.{items_of}
use Rattle.result_lines.proofs.Fields.{later_field, first_field}
use Rattle.result_lines.proofs.Lists.{next}
use Rattle.result_lines.proofs.row.write_header.Goals as goal
use Rattle.result_lines.proofs.row.write_header.Goals.{then-i-gt0+in_ok-push, else-i-gt0}

pub items-preserved : goal.items-preserved
items-preserved c =
    let names : List b.Item → List (List ℕ) = map (λ (i : b.Item). i.name) in
    let rest = names (items_of (drop (c.items.i + 1) c.args.items.now)) in
    let here : names (items_of (drop c.items.i c.args.items.now)) ≡ string_bytes c.index-items-i.result.name ∷ rest = ap names (next item_of c.args.items.now c.items.i c.index-items-i.result c.items-test.true c.index-items-i.is) in
    let text : c.as_bytes.result.now ≡ string_bytes c.index-items-i.result.name = c.as_bytes.ensures.value in
    elim c.if-i-gt0.branch [
      | then-i-gt0+in_ok-push w ↦
          let out : c.if-i-gt0.out.items ≡ c.items.out.items ++ 124 ∷ [] = ap (λ o. o.items) w.out-is ∙ w.in_ok-push.ensures.items in
          rw (c.in_ok-extend_from_slice.ensures.items, out, text) (later_field c.items.i _ _ _ _ rest here w.if-i-gt0.true c.items.invariant)
      | else-i-gt0 w ↦
          let out : c.if-i-gt0.out.items ≡ c.items.out.items = ap (λ o. o.items) w.out-is in
          rw (c.in_ok-extend_from_slice.ensures.items, out, text) (first_field c.items.i _ _ _ _ rest here (omega (arith, w.if-i-gt0.false)) c.items.invariant)
    ]
