use Rattle.std.proofs.Common.{◌∙◌, sym, ap, [], ◌∷◌, ◌++◌}
use Rattle.std.specs.Borrow.{Bor}
use Rattle.std.proofs.lemmas.List.{map-append}
use Rattle.query_tree.specs.Bound.{condition_of}
use Rattle.query_tree.specs.Walks.{conditions_in}
use Rattle.query_tree.specs.declared.condition.Condition.{Condition}
use Rattle.query_tree.proofs.Walked.{alone}
use Rattle.query_tree.proofs.walks.+push_conjuncts.Goals as goal

pub returns-in_ok-push-in_default : goal.returns-in_ok-push-in_default
returns-in_ok-push-in_default t c =
    let old = c.args.conjuncts.now.items in
    ap conditions_in c.in_ok-push-in_default.ensures.items
    ∙ map-append (λ (x : Bor Condition). condition_of x.now) old (c.args.condition ∷ [])
    ∙ ap (λ ys. conditions_in old ++ ys) (sym (alone c.args.condition.now c.in_default.not-And))
