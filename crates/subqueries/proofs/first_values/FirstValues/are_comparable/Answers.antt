use Rattle.std.proofs.Common.{◌≡◌, ◌∙◌, ◌-◌, ◌<◌, sym, ap, subst, length, get_or, arith}
use Rattle.std.specs.Prelude.{IsSome}
use Rattle.std.proofs.lemmas.Bool.Decides.{nat_tests}
use Rattle.std.proofs.lemmas.List.{get_or_default}
use Rattle.definitions.specs.Value.{compare}
use Rattle.sqlvalue.specs.Meaning.{value_of}
use Rattle.sqlvalue.specs.Owned.{owned_value}
use Rattle.sqlvalue.specs.declared.owned_value.OwnedValue.{OwnedValue}
use Rattle.subqueries.proofs.OrderedValues.{all_by_ends, one_can}
use Rattle.subqueries.proofs.first_values.FirstValues.are_comparable.Goals as goal

pub returns-then-is_comparable : goal.returns-then-is_comparable
returns-then-is_comparable c =
    let v = value_of c.args.value.now in
    let xs = c.args.self.now.values.items in
    let some : 0 < length xs = grind (arith, nat_tests) in
    let first = c.index.result.now in
    let last = c.index-then-is_comparable.result.now in
    let at_first : first ≡ get_or xs 0 last = c.index.ensures ∙ get_or_default xs 0 first last some in
    let count : c.len-last.result ≡ length xs = omega arith in
    let at_last : last ≡ get_or xs (length xs - 1) last = c.index-then-is_comparable.ensures ∙ ap (λ n. get_or xs (n - 1) last) count in (
      λ yes. all_by_ends v owned_value xs c.args.self.now.sorted last
          (subst (λ (x : OwnedValue). IsSome (compare v (owned_value x))) at_first (sym c.is_comparable.ensures ∙ c.if-is_comparable.true))
          (subst (λ (x : OwnedValue). IsSome (compare v (owned_value x))) at_last (sym c.is_comparable-then-is_comparable.ensures ∙ yes)),
      λ all. c.is_comparable-then-is_comparable.ensures ∙ subst (λ (x : OwnedValue). IsSome (compare v (owned_value x))) (sym at_last) (one_can v owned_value xs (length xs - 1) last (omega (arith, some)) all),
    )

pub returns-else-is_comparable : goal.returns-else-is_comparable
returns-else-is_comparable c =
    let v = value_of c.args.value.now in
    let xs = c.args.self.now.values.items in
    let some : 0 < length xs = grind (arith, nat_tests) in
    let first = c.index.result.now in (
      λ yes. absurd cc,
      λ all.
          let can = c.is_comparable.ensures ∙ subst (λ (x : OwnedValue). IsSome (compare v (owned_value x))) (sym c.index.ensures) (one_can v owned_value xs 0 first some all) in
          absurd cc,
    )
