use Rattle.std.proofs.Common.{◌≡◌, ◌∙◌, ◌+◌, ◌-◌, ◌*◌, ◌^◌, ◌<◌, ap, sym, subst, ℕ, Bool, arith, map}
use Rattle.std.specs.List.{range_with_len}
use Rattle.definitions.specs.Arithmetic.{Meaning}
use Rattle.definitions.specs.Scanning.{word_of}
use Rattle.definitions.specs.Truth.{Truth, compared, is_true}
use Rattle.definitions.specs.Queries.Combinations.{is_surely_true}
use Rattle.definitions.specs.Queries.Evaluation as meaning
use Rattle.sqlvalue.specs.Meaning.{op_of, value_of}
use Rattle.query_tree.specs.Bound.{value_of as tree_of}
use Rattle.expr.specs.RowTruths.{IsTold}
use Rattle.expr.proofs.Places.{before_fits, compared_told, row_before}
use Rattle.expr.proofs.RowTruths.{all_places, comparison_on, met_is, one_place_more, told_is}
use Rattle.expr.proofs.row_truths.compared_cell_rows.Goals as goal

pub loop-place-preserved : goal.loop-place-preserved
loop-place-preserved g c =
    let count = c.args.count in
    let word = c.loop-place.word in
    let env = g.S.ManyRows.environment c.args.rows.now in
    let op = op_of c.args.op in
    let left = tree_of c.args.left.now in
    let right = tree_of c.args.right.now in
    let on : ℕ → Meaning Truth = comparison_on env op left right in
    let place : ℕ = c.loop-place.place - 1 in
    let row : ℕ = c.args.first + place in
    let less : place < count = omega (arith, c.loop-place-test.true, c.loop-place.invariant.within) in
    let back : place + 1 ≡ c.loop-place.place = omega (arith, c.loop-place-test.true) in
    let truth : Truth = compared op (value_of c.in_ok-a.a) (value_of c.in_ok-b.b) in
    let here = compared_told op (meaning.value (env row) left) (meaning.value (env row) right) (value_of c.in_ok-a.a) (value_of c.in_ok-b.b) c.in_ok-a.ensures c.in_ok-b.ensures in
    let test : ℕ → Bool = λ k. is_surely_true (on (c.args.first + k)) in
    let is_met = c.is_true-is_met.result in
    let met : is_met ≡ test place = met_is (on row) truth is_met here (c.is_true-is_met.ensures ∙ ap is_true c.compare.ensures) in
    let is = subst (λ (p : ℕ). word ≡ word_of (map test (range_with_len p (count - p)))) (sym back) c.loop-place.invariant.exact in
    let below = subst (λ (p : ℕ). word < 2 ^ (count - p)) (sym back) c.loop-place.invariant.fits in
    record {
      within = omega (arith, less);
      fits = subst (λ (n : ℕ). 2 * word + n < 2 ^ (count - place)) (sym c.from.ensures) (before_fits place count word is_met less below);
      exact = ap (λ n. 2 * word + n) c.from.ensures ∙ row_before test place count word is_met less is met;
      told = one_place_more (λ k. IsTold (on (c.args.first + k))) place count (told_is (on row) truth here)
          (λ k l m. c.loop-place.invariant.told k (omega (arith, l, back)) m);
    }

pub returns : goal.returns
returns g c =
    let on : ℕ → Meaning Truth = comparison_on (g.S.ManyRows.environment c.args.rows.now) (op_of c.args.op) (tree_of c.args.left.now) (tree_of c.args.right.now) in
    all_places on c.args.first c.args.count c.loop-place.place c.loop-place.word (omega (arith, c.loop-place-test.false)) c.loop-place.invariant.exact c.loop-place.invariant.told
