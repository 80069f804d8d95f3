use Rattle.std.proofs.Common.{◌≡◌, ◌∙◌, sym, ap}
use Rattle.std.specs.Prelude.{Some, option_map}
use Rattle.definitions.specs.Estimates.Paths.{ByComparison}
use Rattle.definitions.specs.Queries.BoundBlock.{Subquery}
use Rattle.predicates.specs.Columns.{term_of}
use Rattle.predicates.specs.Parts.{condition_in}
use Rattle.predicates.specs.Terms.{first_of, terms_of, SidedTerm}
use Rattle.predicates.specs.Views.{sided_term_of}
use Rattle.query_tree.specs.Bound.{column_of, value_of, value_type_of}
use Rattle.query_tree.proofs.Views.{of_subquery}
use Rattle.sqlvalue.specs.Meaning.{number_of, op_of}
use Rattle.subqueries.specs.Keeping.{told_by}
use Rattle.told_tests.proofs.ToldNumbers.{as_it_says, if_some, is_test, said}
use Rattle.told_tests.proofs.told_test.comparison_test.Goals as goal

pub returns : goal.returns
returns c =
    let conjunct = c.args.conjunct.now in
    let condition = condition_in conjunct in
    let told = told_by c.args.results.now in
    let sided = c.in_ok-sided.sided in
    let block = c.in-Subquery.block in
    let type = value_type_of c.in-Subquery.value_type in
    let column = column_of sided.column in
    let op = op_of c.in-Comparison.op in
    let is_subquery : value_of c.in-Comparison.value.now ≡ Subquery block type =
    ap value_of c.in-Subquery.is ∙ of_subquery block c.in-Subquery.value_type c.in-Subquery.start in
    let is_term : term_of sided.term ≡ ByComparison op (Subquery block type) = ap term_of c.in-Comparison.is ∙ ap (ByComparison op) is_subquery in
    let is_first : Some (sided_term_of sided) ≡ first_of (terms_of condition) = c.in_ok-sided.ensures ∙ ap first_of conjunct.said in
    let says : said (terms_of condition) ≡ Some (column, ByComparison op (Subquery block type)) =
    ap (option_map (λ (one : SidedTerm). (one.column, one.term))) (sym is_first) ∙ ap (λ term. Some (column, term)) is_term in
    let means = as_it_says told block type op column (number_of c.in_ok-number.number) c.in_ok-number.ensures condition says in
    if_some _ _ c.number_test.result
    (λ test compares. is_test told block test sided.column sided.scale c.in-Comparison.op c.in_ok-number.number condition means compares)
    c.number_test.ensures
