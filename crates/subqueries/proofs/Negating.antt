-- A comparison with all values by one with any of them.
use Rattle.std.proofs.Common.{◌≡◌, ◌∙◌, refl, ap, sym, List, [], ◌∷◌}
use Rattle.definitions.specs.Statement.{ComparisonOperator}
use Rattle.definitions.specs.Truth.{Truth, False, Unknown, True, and, compared, compared_with_all, compared_with_any, opposite, or}
use Rattle.definitions.specs.Value.{Value}

both_or_either : (a b : Truth) → and a (opposite b) ≡ opposite (or (opposite a) b)
both_or_either False False = refl
both_or_either False Unknown = refl
both_or_either False True = refl
both_or_either Unknown False = refl
both_or_either Unknown Unknown = refl
both_or_either Unknown True = refl
both_or_either True False = refl
both_or_either True Unknown = refl
both_or_either True True = refl

pub all_by_any : (op other : ComparisonOperator) (v : Value) (ws : List Value) → ((a b : Value) → compared other a b ≡ opposite (compared op a b)) → opposite (compared_with_any other v ws) ≡ compared_with_all op v ws
all_by_any op other v [] negated = refl
all_by_any op other v (w ∷ ws) negated =
    ap (λ t. opposite (or t (compared_with_any other v ws))) (negated v w) ∙ sym (both_or_either (compared op v w) (compared_with_any other v ws))
    ∙ ap (and (compared op v w)) (all_by_any op other v ws negated)
