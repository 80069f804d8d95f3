use Rattle.std.proofs.Common.{subst, None, ◌∙◌, refl, sym, length, arith, Some, get_or}
use Rattle.std.specs.Prelude.{◌==◌, ◌||◌}
use Rattle.sqlvalue.proofs.Likeness.{IsSearch, inside_true, inside_false, met_run, met_one, met_none, met_longer, met_nothing, search_inside, text_read, less_after_run, less_after_longer}
use Rattle.sqlvalue.proofs.pattern.fits.Goals as goal

pub loop-at-init : goal.loop-at-init
loop-at-init c = record { whole = refl; text = omega arith; pattern = omega arith }

pub loop-at-smaller-then-is_any_run : goal.loop-at-smaller-then-is_any_run
loop-at-smaller-then-is_any_run c =
    let (inside, run) = inside_true c.loop-at.at.pattern (length c.args.pattern.now) (get_or c.args.pattern.now c.loop-at.at.pattern 0 == 37) (sym c.is_any_run.ensures ∙ c.if-is_any_run.true) in
    less_after_run c.args.pattern.now c.args.text.now c.loop-at.at c.loop-at.last (length c.args.pattern.now) (length c.args.text.now) refl refl c.loop-at.invariant inside

pub loop-at-preserved-then-is_any_run : goal.loop-at-preserved-then-is_any_run
loop-at-preserved-then-is_any_run c =
    let (inside, run) = inside_true c.loop-at.at.pattern (length c.args.pattern.now) (get_or c.args.pattern.now c.loop-at.at.pattern 0 == 37) (sym c.is_any_run.ensures ∙ c.if-is_any_run.true) in
    met_run c.args.pattern.now c.args.text.now c.loop-at.at c.loop-at.last c.loop-at.invariant inside run

pub loop-at-preserved-then-is_one : goal.loop-at-preserved-then-is_one
loop-at-preserved-then-is_one c =
    let p = c.args.pattern.now in
    let (inside, one) = inside_true c.loop-at.at.pattern (length p) ((get_or p c.loop-at.at.pattern 0 == 95) || (get_or p c.loop-at.at.pattern 0 == get_or c.args.text.now c.loop-at.at.text 0)) (sym c.is_one.ensures ∙ c.if-is_one.true) in
    met_one p c.args.text.now c.loop-at.at c.loop-at.last c.loop-at.invariant inside (inside_false c.loop-at.at.pattern (length p) (get_or p c.loop-at.at.pattern 0 == 37) inside (sym c.is_any_run.ensures ∙ c.if-is_any_run.false)) c.loop-at-test.true one

pub overflow_add-at-in-Some : goal.overflow_add-at-in-Some
overflow_add-at-in-Some c =
    let s : IsSearch c.args.pattern.now c.args.text.now c.loop-at.at (Some c.in-Some.run') = subst (λ last. IsSearch c.args.pattern.now c.args.text.now c.loop-at.at last) c.in-Some.is c.loop-at.invariant in
    omega (arith, s.start, c.loop-at-test.true, (search_inside c.args.pattern.now c.args.text.now c.loop-at.at (Some c.in-Some.run') s).0)

pub loop-at-smaller : goal.loop-at-smaller
loop-at-smaller c =
    let s : IsSearch c.args.pattern.now c.args.text.now c.loop-at.at (Some c.in-Some.run') = subst (λ last. IsSearch c.args.pattern.now c.args.text.now c.loop-at.at last) c.in-Some.is c.loop-at.invariant in
    rw c.in-Some.is (less_after_longer c.args.pattern.now c.args.text.now c.loop-at.at c.in-Some.run' (length c.args.pattern.now) (length c.args.text.now) refl refl s c.loop-at-test.true)

pub loop-at-preserved : goal.loop-at-preserved
loop-at-preserved c =
    let s : IsSearch c.args.pattern.now c.args.text.now c.loop-at.at (Some c.in-Some.run') = subst (λ last. IsSearch c.args.pattern.now c.args.text.now c.loop-at.at last) c.in-Some.is c.loop-at.invariant in
    let none = met_none c.args.pattern.now c.args.text.now c.loop-at.at.pattern c.loop-at.at.text c.loop-at-test.true (sym c.is_any_run.ensures ∙ c.if-is_any_run.false) (sym c.is_one.ensures ∙ c.if-is_one.false) in
    met_longer c.args.pattern.now c.args.text.now c.loop-at.at c.in-Some.run' s c.loop-at-test.true none

pub returns-in_default : goal.returns-in_default
returns-in_default c =
    let s : IsSearch c.args.pattern.now c.args.text.now c.loop-at.at None = subst (λ last. IsSearch c.args.pattern.now c.args.text.now c.loop-at.at last) c.in_default.is c.loop-at.invariant in
    let none = met_none c.args.pattern.now c.args.text.now c.loop-at.at.pattern c.loop-at.at.text c.loop-at-test.true (sym c.is_any_run.ensures ∙ c.if-is_any_run.false) (sym c.is_one.ensures ∙ c.if-is_one.false) in
    sym (met_nothing c.args.pattern.now c.args.text.now c.loop-at.at s none)

pub returns : goal.returns
returns c = c.are_any_runs.ensures ∙ sym (text_read c.args.pattern.now c.args.text.now c.loop-at.at c.loop-at.last c.loop-at.invariant c.loop-at-test.false)
