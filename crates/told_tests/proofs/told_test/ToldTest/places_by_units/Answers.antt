use Rattle.std.proofs.Common.{◌≡◌, ◌∙◌, sym, ap, subst, ◌<◌, ◌+◌, [], length, map, set, take, get_or, arith}
use Rattle.std.specs.Prelude.{All}
use Rattle.std.specs.Int.{from_bool}
use Rattle.std.proofs.lemmas.List.{length-map, length-set}
use Rattle.definitions.specs.Queries.Evaluation.{cell}
use Rattle.definitions_execution.specs.OfBlock.{combination_of}
use Rattle.definitions_execution.specs.Stored.{row_number, Composite}
use Rattle.filters.specs.Sources.{block_in}
use Rattle.definitions.specs.Value.{Value}
use Rattle.columns.specs.Cells.{number_or_null}
use Rattle.query_tree.specs.Bound.{column_of}
use Rattle.told_tests.specs.ToldTests.{passes_at, IsTested, IsTestedAs, TellsOf}
use Rattle.told_tests.proofs.PassingPlaces.{at_most_one, holds_more, inside_more, passing_more}
use Rattle.told_tests.proofs.ToldNumbers.{value_at_place}
use Rattle.told_tests.proofs.ToldPlaces.{told_value}
use Rattle.told_tests.proofs.told_test.ToldTest.places_by_units.Goals as goal

pub rows-preserved : goal.rows-preserved
rows-preserved c =
    let test = c.args.self.now in
    let source = c.args.source.now in
    let items = c.args.batch.now.items in
    let column = column_of test.column in
    let place = c.rows.place in
    let count = c.rows.count in
    let places = c.rows.places in
    let passed = c.in_ok-passed.passed in
    let composite : Composite = get_or items place [] in
    let long : length c.column-rows.result.now ≡ length items = ap length c.column-rows.ensures ∙ length-map items (λ (k : Composite). row_number k column.table) in
    let within : place < length items = omega (arith, c.rows-test.true, long) in
    let room : count < length places = omega (arith, c.rows.invariant.few, c.rows.invariant.room, within, c.len-len.ensures.exact, c.len-len.ensures.few) in
    let numbers = c.in_ok-numbers.numbers.now in
    let row = get_or c.column-rows.result.now place 0 in
    let own : Value = number_or_null numbers.type c.units_in.result in
    let value = value_at_place source column items place within c.column-rows.result.now c.column-rows.ensures own (c.units_in.ensures.value ∙ c.in_ok-numbers.ensures.values row) in
    let told : IsTestedAs source composite test passed = subst (λ v. TellsOf test v passed) (sym value) (c.in_ok-passed.ensures numbers.type c.in_ok-numbers.ensures.scale) in
    let truth : passed ≡ passes_at source test composite = told_value test (cell (combination_of source.database (block_in source) composite) column) passed told in
    let is : c.from-count.result ≡ from_bool passed = c.from-count.ensures in
    let one = at_most_one passed in
    record {
      few = omega (arith, c.rows.invariant.few, is, one);
      room = length-set places count place ∙ c.rows.invariant.room;
      within = subst (λ n. All (λ i. i < length items) (take (count + n) (set places count place))) (sym is) (inside_more items place [] within places count room passed c.rows.invariant.within);
      passing = ap (λ n. map (λ i. get_or items i []) (take (count + n) (set places count place))) is ∙ passing_more items place [] within places count room (passes_at source test) passed truth c.rows.invariant.passing;
      tested = holds_more items place [] within (IsTested source test) (subst (IsTestedAs source composite test) truth told) c.rows.invariant.tested;
    }
