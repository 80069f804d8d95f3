use Rattle.std.proofs.Common.{◌∙◌, sym, ap, ◌++◌, map}
use Rattle.std.specs.Prelude.{filter}
use Rattle.std.proofs.lemmas.List.{append-nil, drop_all}
use Rattle.definitions.specs.Queries.Conjuncts.{is_late}
use Rattle.predicates.specs.Parts.{condition_in}
use Rattle.block_answers.specs.Views.{conditions_of}
use Rattle.block_answers.proofs.late.late_conditions.Goals as goal

pub returns : goal.returns
returns c = λ block are.
    let found = conditions_of c.conjuncts.conditions.items in
    let none = drop_all c.conjuncts.conjunct-index c.args.conjuncts.now c.conjuncts-test.false in
    sym (append-nil found) ∙ ap (λ rest. found ++ filter is_late (map condition_in rest)) (sym none) ∙ c.conjuncts.invariant ∙ ap (filter is_late) are
