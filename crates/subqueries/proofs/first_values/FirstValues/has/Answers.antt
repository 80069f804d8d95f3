use Rattle.std.proofs.Common.{◌≡◌, true}
use Rattle.std.specs.declared.cmp.Ordering.TheVariants.{Less, Equal, Greater}
use Rattle.definitions.specs.Truth.{compared_with_any, True}
use Rattle.sqlvalue.specs.Meaning.{op_of, value_of}
use Rattle.subqueries.specs.Comparing.{HasAgreeing}
use Rattle.subqueries.specs.FirstValues.{values_in}
use Rattle.subqueries.proofs.OrderedValues.{agreeing_is_true, last_agrees}
use Rattle.subqueries.proofs.first_values.FirstValues.has.Goals as goal
use Rattle.subqueries.proofs.first_values.FirstValues.has.Goals.{then-has_agreeing, else-has_agreeing}

pub returns-then-has_agreeing-2 : goal.returns-then-has_agreeing-2
returns-then-has_agreeing-2 c =
    let v = value_of c.args.value.now in
    let op = op_of c.args.op in
    let ws = values_in c.args.self.now in
    let there : compared_with_any op v ws ≡ True = elim c.if-has_agreeing.branch [
      | then-has_agreeing w ↦ agreeing_is_true v op Equal ws (c.has_agreeing.ensures.0 w.if-has_agreeing.true)
      | else-has_agreeing w ↦
          let yes : w.has_agreeing-else-has_agreeing.result ≡ true = cc in
          agreeing_is_true v op Less ws (w.has_agreeing-else-has_agreeing.ensures.0 yes)
    ] in
    (λ yes. there, λ any. c.if-has_agreeing-2.true)

pub returns-else-has_agreeing-2 : goal.returns-else-has_agreeing-2
returns-else-has_agreeing-2 c =
    let v = value_of c.args.value.now in
    let op = op_of c.args.op in
    let ws = values_in c.args.self.now in
    let greater = c.has_agreeing-else-has_agreeing-2 in
    let no_equal : HasAgreeing op Equal v ws → ⊥ = λ h. let yes = c.has_agreeing.ensures.1 h in elim c.if-has_agreeing.branch [ then-has_agreeing w ↦ absurd cc | else-has_agreeing w ↦ absurd cc ] in
    let no_less : HasAgreeing op Less v ws → ⊥ = λ h. elim c.if-has_agreeing.branch [
      | then-has_agreeing w ↦ absurd cc
      | else-has_agreeing w ↦ let yes = w.has_agreeing-else-has_agreeing.ensures.1 h in absurd cc
    ] in
    (λ yes. agreeing_is_true v op Greater ws (greater.ensures.0 yes), λ any. greater.ensures.1 (last_agrees v op ws no_equal no_less any))
