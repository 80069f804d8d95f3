use Rattle.std.proofs.Common.{◌≡◌, ◌∙◌, ◌+◌, ◌∷◌, ◌++◌, [], sym, ap, subst, get_or, rules, w64, to_z, of_z}
use Rattle.std.proofs.lemmas.List.{get_or_default}
use Rattle.sqlvalue.specs.Owned.{owned_value}
use Rattle.sqlvalue.specs.declared.owned_value.OwnedValue.{OwnedValue}
use Rattle.sqlvalue.specs.NumberKeys.{HasNumberKey}
use Rattle.subqueries.proofs.NumberKeys.{Keyed, one_more_key}
use Rattle.subqueries.proofs.first_values.number_keys.Goals as goal

pub values-preserved : goal.values-preserved
values-preserved c =
    let scale = c.in-Some-Num.number.scale in
    let values = c.args.values.now in
    let index = c.values.value-index in
    let key = c.in-Some.key in
    let same : to_z w64 (of_z w64 key) ≡ key = search rules in
    let item : (x : OwnedValue) → c.value-item.result ≡ get_or values index x = λ x. c.value-item.is ∙ get_or_default values index c.value-item.result x c.values-test.true in
    let own : (x : OwnedValue) → HasNumberKey scale (owned_value (get_or values index x)) key = λ x. subst (λ v. HasNumberKey scale v key) (c.value.ensures ∙ ap owned_value (item x)) c.in-Some.ensures in
    subst (λ keys. Keyed scale values (index + 1) keys) (sym (c.in_ok-push-in-Some.ensures.items ∙ ap (λ k. c.values.keys.items ++ k ∷ []) same))
    (one_more_key scale values index c.values.keys.items key own c.values.invariant)
