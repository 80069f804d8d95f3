use Rattle.std.proofs.Common.{rules, of_z, to_z, to_z-of_z, ◌≡◌, ◌∙◌, ◌+◌, ◌-◌, ◌*◌, ◌^◌, ◌<◌, ap, sym, subst, ℕ, Bool, arith, map}
use Rattle.std.specs.Prelude.{FitsSigned, pos}
use Rattle.std.specs.Int.{w64}
use Rattle.std.specs.List.{range_with_len}
use Rattle.definitions.specs.Scanning.{word_of}
use Rattle.definitions.specs.Truth.{compared, is_true}
use Rattle.sqlvalue.specs.Meaning.{op_of}
use Rattle.expr.specs.Vectors.{value_at}
use Rattle.expr.proofs.Places.{before_fits, row_before}
use Rattle.expr.proofs.vectors.met_rows.Goals as goal

pub loop-place-preserved : goal.loop-place-preserved
loop-place-preserved c =
    let left = c.args.left.now in
    let right = c.args.right.now in
    let count = c.args.count in
    let word = c.loop-place.word in
    let test : ℕ → Bool = λ place. is_true (compared (op_of c.args.op) (value_at c.args.m left place) (value_at c.args.n right place)) in
    let place : ℕ = c.loop-place.place - 1 in
    let less : place < count = omega (arith, c.loop-place-test.true, c.loop-place.invariant.within) in
    let back : place + 1 ≡ c.loop-place.place = omega (arith, c.loop-place-test.true) in
    let fits_left : FitsSigned w64 c.in_ok-times_left.times_left = search rules in
    let fits_right : FitsSigned w64 c.in_ok-times_right.times_right = search rules in
    let up : to_z w64 (of_z w64 c.in_ok-times_left.times_left) ≡ pos (10 ^ (c.args.n - c.args.m)) = simp to_z-of_z (c.in_ok-times_left.ensures ∙ ap (λ digits. pos (10 ^ digits)) c.saturating_sub.ensures) in
    let down : to_z w64 (of_z w64 c.in_ok-times_right.times_right) ≡ pos (10 ^ (c.args.m - c.args.n)) = simp to_z-of_z (c.in_ok-times_right.ensures ∙ ap (λ digits. pos (10 ^ digits)) c.saturating_sub-2.ensures) in
    let met : c.in_ok-is_met.is_met ≡ test place = c.in_ok-is_met.ensures c.args.m c.args.n up down in
    let is = subst (λ (p : ℕ). word ≡ word_of (map test (range_with_len p (count - p)))) (sym back) c.loop-place.invariant.exact in
    let below = subst (λ (p : ℕ). word < 2 ^ (count - p)) (sym back) c.loop-place.invariant.fits in
    record {
      within = omega (arith, less);
      fits = subst (λ (n : ℕ). 2 * word + n < 2 ^ (count - place)) (sym c.from.ensures) (before_fits place count word c.in_ok-is_met.is_met less below);
      exact = ap (λ n. 2 * word + n) c.from.ensures ∙ row_before test place count word c.in_ok-is_met.is_met less is met;
    }
