use Rattle.std.proofs.Common.{◌≡◌, ◌∙◌, ◌<◌, sym, length, get_or, arith}
use Rattle.std.proofs.lemmas.List.{get_or_default}
use Rattle.sqlvalue.specs.Owned.{owned_value}
use Rattle.subqueries.specs.declared.parameters.OuterColumn.{OuterColumn}
use Rattle.subqueries.proofs.Keys.{one_differs, value_there}
use Rattle.subqueries.proofs.kept_results.is_key.Goals as goal

none : OuterColumn
none = record { between = 0; column = record { table = 0; number = 0 } }

pub returns-then-not-is_same : goal.returns-then-not-is_same
unfolding none
returns-then-not-is_same g c =
    let outer = g.A.OuterRows.combinations c.args.around.now in
    let columns = c.args.parameters.now in
    let i = c.values.i in
    let here : i < length columns = omega (arith, c.if-key-parameters.false, c.values-test.true) in
    let column = get_or columns i none in
    let other : owned_value c.index-key-i.result ≡ value_there outer column → ⊥ = λ e. let t = c.is_same.ensures.1 (e ∙ sym c.cell-value.ensures) in absurd cc in
    (λ e. absurd cc, λ e. absurd (one_differs outer c.args.key.now columns i c.index-key-i.result column c.values-test.true here c.index-key-i.is (get_or_default columns i none column here) other e))
