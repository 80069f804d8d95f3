use Rattle.std.proofs.Common.{◌≡◌, ◌∙◌, ◌∷◌, ◌++◌, [], ap, sym}
use Rattle.definitions.specs.Pattern.{fits}
use Rattle.sqlvalue.proofs.LikePatterns.{anywhere_fits, end_fits, front_fits}
use Rattle.sqlvalue.proofs.like_pattern.form_of.Goals as goal

pub returns-in-Some-before_run : goal.returns-in-Some-before_run
returns-in-Some-before_run c = λ text.
    let needle = c.in-Some-before_run.needle.now in
    let pattern : c.args.pattern.now ≡ 37 ∷ (needle ++ 37 ∷ []) = c.in-Some.ensures ∙ ap (λ rest. 37 ∷ rest) c.in-Some-before_run.ensures.run in
    sym (ap (λ p. fits p text) pattern ∙ anywhere_fits needle text c.in-Some-before_run.ensures.plain)

pub returns-in-Some-before_run-2 : goal.returns-in-Some-before_run-2
returns-in-Some-before_run-2 c = λ text.
    let needle = c.in-Some-before_run-2.needle.now in
    sym (ap (λ p. fits p text) c.in-Some-before_run-2.ensures.run ∙ front_fits needle text c.in-Some-before_run-2.ensures.plain)

pub returns-in-None-before_run : goal.returns-in-None-before_run
returns-in-None-before_run c = λ text.
    sym (ap (λ p. fits p text) c.in-Some.ensures ∙ end_fits c.in-Some.rest.now text (sym c.stands_for_itself.ensures ∙ c.if-stands_for_itself.true))
