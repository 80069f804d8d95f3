use Rattle.std.proofs.Common.{◌≡◌, ◌∙◌, ◌+◌, ◌-◌, ◌*◌, ◌^◌, ◌<◌, ap, sym, subst, ℕ, Bool, arith, map}
use Rattle.std.specs.List.{range_with_len}
use Rattle.definitions.specs.Arithmetic.{Meaning}
use Rattle.definitions.specs.Scanning.{word_of}
use Rattle.definitions.specs.Truth.{Truth, unless}
use Rattle.definitions.specs.Queries.Combinations.{is_surely_true}
use Rattle.sqlvalue.specs.Meaning.{value_of}
use Rattle.query_tree.specs.Bound.{value_of as tree_of}
use Rattle.expr.specs.RowTruths.{truth_by, IsTold}
use Rattle.expr.proofs.Places.{before_fits, row_before}
use Rattle.expr.proofs.RowTruths.{all_places, met_is, one_place_more, tested, tested_is, told_is}
use Rattle.expr.proofs.row_truths.tested_rows.Goals as goal

pub loop-place-preserved : goal.loop-place-preserved
loop-place-preserved g c =
    let count = c.args.count in
    let word = c.loop-place.word in
    let on : ℕ → Meaning Truth = tested (g.S.ManyRows.environment c.args.rows.now) c.args.test c.args.negated (tree_of c.args.value.now) in
    let place : ℕ = c.loop-place.place - 1 in
    let less : place < count = omega (arith, c.loop-place-test.true, c.loop-place.invariant.within) in
    let back : place + 1 ≡ c.loop-place.place = omega (arith, c.loop-place-test.true) in
    let truth : Truth = unless c.args.negated (truth_by c.args.test (value_of c.in_ok-cell.cell)) in
    let here = tested_is (g.S.ManyRows.environment c.args.rows.now) c.args.test c.args.negated (tree_of c.args.value.now) (c.args.first + place) (value_of c.in_ok-cell.cell) c.in_ok-cell.ensures in
    let test : ℕ → Bool = λ k. is_surely_true (on (c.args.first + k)) in
    let met : c.is_met_by-is_met.result ≡ test place = met_is (on (c.args.first + place)) truth c.is_met_by-is_met.result here c.is_met_by-is_met.ensures in
    let is = subst (λ (p : ℕ). word ≡ word_of (map test (range_with_len p (count - p)))) (sym back) c.loop-place.invariant.exact in
    let below = subst (λ (p : ℕ). word < 2 ^ (count - p)) (sym back) c.loop-place.invariant.fits in
    record {
      within = omega (arith, less);
      fits = subst (λ (n : ℕ). 2 * word + n < 2 ^ (count - place)) (sym c.from.ensures) (before_fits place count word c.is_met_by-is_met.result less below);
      exact = ap (λ n. 2 * word + n) c.from.ensures ∙ row_before test place count word c.is_met_by-is_met.result less is met;
      told = one_place_more (λ k. IsTold (on (c.args.first + k))) place count (told_is (on (c.args.first + place)) truth here)
          (λ k l m. c.loop-place.invariant.told k (omega (arith, l, back)) m);
    }

pub returns : goal.returns
returns g c =
    let on : ℕ → Meaning Truth = tested (g.S.ManyRows.environment c.args.rows.now) c.args.test c.args.negated (tree_of c.args.value.now) in
    all_places on c.args.first c.args.count c.loop-place.place c.loop-place.word (omega (arith, c.loop-place-test.false)) c.loop-place.invariant.exact c.loop-place.invariant.told
