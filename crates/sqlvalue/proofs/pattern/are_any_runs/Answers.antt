use Rattle.std.proofs.Common.{◌≡◌, ◌∙◌, refl, sym, ap, [], true, false, get_or, arith}
use Rattle.std.specs.Prelude.{◌==◌}
use Rattle.std.proofs.lemmas.Bool.Decides.{nat_tests}
use Rattle.std.proofs.lemmas.List.{drop_all}
use Rattle.definitions.specs.Pattern.{fits}
use Rattle.sqlvalue.proofs.Likeness.{end_run, end_other}
use Rattle.sqlvalue.proofs.pattern.are_any_runs.Goals as goal

pub loop-place-init : goal.loop-place-init
loop-place-init c = refl

pub returns-then-pattern-place-ne37 : goal.returns-then-pattern-place-ne37
returns-then-pattern-place-ne37 c =
    let other : (get_or c.args.pattern.now c.loop-place.place 0 == 37) ≡ false = grind (arith, nat_tests, c.if-pattern-place-ne37.true) in
    sym (c.loop-place.invariant ∙ end_other c.args.pattern.now c.loop-place.place c.loop-place-test.true other)

pub loop-place-preserved : goal.loop-place-preserved
loop-place-preserved c =
    let run : (get_or c.args.pattern.now c.loop-place.place 0 == 37) ≡ true = grind (arith, nat_tests, c.if-pattern-place-ne37.false) in
    c.loop-place.invariant ∙ end_run c.args.pattern.now c.loop-place.place c.loop-place-test.true run

pub returns : goal.returns
returns c = sym (c.loop-place.invariant ∙ ap (λ xs. fits xs []) (drop_all c.loop-place.place c.args.pattern.now c.loop-place-test.false))
