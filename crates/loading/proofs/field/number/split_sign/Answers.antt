use Rattle.std.proofs.Common.{◌≡◌, ◌∷◌, [], refl, rules, get_or}
use Rattle.definitions.specs.Loading as load
use Rattle.loading.proofs.Numerals.{sign_first}
use Rattle.loading.proofs.field.number.split_sign.Goals as goal

pub returns-in-45-clause-split : goal.returns-in-45-clause-split
returns-in-45-clause-split c =
    let first : get_or c.args.field.now 0 0 ≡ 45 = search rules in
    (45 ∷ [], load.minus refl refl, sign_first 45 c.args.field.now c.in-45.len_at_least first)

pub returns-in-43-clause-split : goal.returns-in-43-clause-split
returns-in-43-clause-split c =
    let first : get_or c.args.field.now 0 0 ≡ 43 = search rules in
    (43 ∷ [], load.plus refl refl, sign_first 43 c.args.field.now c.in-43.len_at_least first)
