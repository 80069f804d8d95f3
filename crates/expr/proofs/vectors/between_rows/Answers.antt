use Rattle.std.proofs.Common.{◌≡◌, ◌∙◌, ◌+◌, ap, ap₂, sym, ℕ, Bool, true, false, map}
use Rattle.std.specs.Prelude.{◌&&◌, ◌||◌, bit_and, bit_or}
use Rattle.std.specs.List.{range_with_len}
use Rattle.definitions.specs.Scanning.{word_of}
use Rattle.definitions.specs.Statement.{LessThan, GreaterThan, LessOrEquals, GreaterOrEquals}
use Rattle.definitions.specs.Truth.{Truth, and, compared, is_true, unless}
use Rattle.definitions.specs.Queries.BoundBlock as spec
use Rattle.definitions.specs.Queries.Evaluation as meaning
use Rattle.query_tree.specs.Bound.{value_of as tree_of}
use Rattle.expr.specs.Vectors.{value_at}
use Rattle.expr.specs.RowTruths.{AreTrueRows}
use Rattle.expr.proofs.Places.{between_told, inside_true, outside_true, rows_alike, word_of-and, word_of-or}
use Rattle.expr.proofs.RowTruths.{of_places}
use Rattle.expr.proofs.vectors.between_rows.Goals as goal

pub returns-then-negated : goal.returns-then-negated
returns-then-negated g c =
    let on = g.S.ManyRows.environment c.args.rows.now in
    let first = c.args.first in
    let count = c.args.count in
    let value = tree_of c.args.value.now in
    let low = tree_of c.args.low.now in
    let high = tree_of c.args.high.now in
    let x = value_at c.in_ok-k.k c.write_values.new.units in
    let y = value_at c.in_ok-m.m c.write_values-2.new.units in
    let z = value_at c.in_ok-n.n c.write_values-3.new.units in
    let below : ℕ → Bool = λ place. is_true (compared LessThan (x place) (y place)) in
    let above : ℕ → Bool = λ place. is_true (compared GreaterThan (x place) (z place)) in
    let truth : ℕ → Truth = λ place. unless true (and (compared GreaterOrEquals (x place) (y place)) (compared LessOrEquals (x place) (z place))) in
    let met : ℕ → Bool = λ place. below place || above place in
    let word : bit_or c.in_ok-below.below c.in_ok-above.above ≡ word_of (map (λ place. is_true (truth place)) (range_with_len 0 count)) =
    ap₂ bit_or c.in_ok-below.ensures c.in_ok-above.ensures
    ∙ word_of-or below above (range_with_len 0 count)
    ∙ ap word_of (sym (rows_alike (λ place. is_true (truth place)) met 0 0 count (λ k less. outside_true (x (0 + k)) (y (0 + k)) (z (0 + k))))) in
    let told : AreTrueRows (λ row. meaning.truth (on row) (spec.Between true value low high)) first count (bit_or c.in_ok-below.below c.in_ok-above.above) =
    of_places (λ row. meaning.truth (on row) (spec.Between true value low high)) truth first count (bit_or c.in_ok-below.below c.in_ok-above.above)
    (λ k less. between_told true (meaning.value (on (first + k)) value) (meaning.value (on (first + k)) low) (meaning.value (on (first + k)) high) (x k) (y k) (z k) (c.in_ok-k.ensures k less) (c.in_ok-m.ensures k less) (c.in_ok-n.ensures k less)) word in
    rw c.if-negated.true told

pub returns : goal.returns
returns g c =
    let on = g.S.ManyRows.environment c.args.rows.now in
    let first = c.args.first in
    let count = c.args.count in
    let value = tree_of c.args.value.now in
    let low = tree_of c.args.low.now in
    let high = tree_of c.args.high.now in
    let x = value_at c.in_ok-k.k c.write_values.new.units in
    let y = value_at c.in_ok-m.m c.write_values-2.new.units in
    let z = value_at c.in_ok-n.n c.write_values-3.new.units in
    let from : ℕ → Bool = λ place. is_true (compared GreaterOrEquals (x place) (y place)) in
    let to : ℕ → Bool = λ place. is_true (compared LessOrEquals (x place) (z place)) in
    let truth : ℕ → Truth = λ place. unless false (and (compared GreaterOrEquals (x place) (y place)) (compared LessOrEquals (x place) (z place))) in
    let met : ℕ → Bool = λ place. from place && to place in
    let word : bit_and c.in_ok-from.from c.in_ok-to.to ≡ word_of (map (λ place. is_true (truth place)) (range_with_len 0 count)) =
    ap₂ bit_and c.in_ok-from.ensures c.in_ok-to.ensures
    ∙ word_of-and from to (range_with_len 0 count)
    ∙ ap word_of (sym (rows_alike (λ place. is_true (truth place)) met 0 0 count (λ k less. inside_true (x (0 + k)) (y (0 + k)) (z (0 + k))))) in
    let told : AreTrueRows (λ row. meaning.truth (on row) (spec.Between false value low high)) first count (bit_and c.in_ok-from.from c.in_ok-to.to) =
    of_places (λ row. meaning.truth (on row) (spec.Between false value low high)) truth first count (bit_and c.in_ok-from.from c.in_ok-to.to)
    (λ k less. between_told false (meaning.value (on (first + k)) value) (meaning.value (on (first + k)) low) (meaning.value (on (first + k)) high) (x k) (y k) (z k) (c.in_ok-k.ensures k less) (c.in_ok-m.ensures k less) (c.in_ok-n.ensures k less)) word in
    rw c.if-negated.false told
