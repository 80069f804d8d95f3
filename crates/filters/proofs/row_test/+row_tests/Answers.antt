use Rattle.std.proofs.Common.{rules, ◌∙◌, ap, drop, map, subst, sym}
use Rattle.std.specs.List.{AllByRecursion}
use Rattle.std.proofs.lemmas.List.{drop_all}
use Rattle.definitions.specs.Queries.Conjuncts.{condition_tables}
use Rattle.query_tree.specs.Bound.{condition_of}
use Rattle.query_tree.specs.declared.condition.Condition.{the_lemmas}
use Rattle.query_tree.proofs.Views.{of_and, of_or}
use Rattle.predicates.specs.Naming.{NamesFew}
use Rattle.predicates.proofs.Naming.{still_few}
use Rattle.predicates.proofs.Few.{part_few, parts_few}
use Rattle.filters.specs.Compiled.{condition_of_test}
use Rattle.filters.proofs.Tables.{all_mapped}
use Rattle.filters.proofs.TestViews.{all_tested, any_tested}
use Rattle.filters.proofs.row_test.+row_tests.Goals as goal

pub test_of-tests_of-requires : goal.test_of-tests_of-requires
test_of-tests_of-requires t c =
    let parts = c.in-And.parts in
    let is = ap condition_tables (ap condition_of c.in-And.is ∙ of_and parts) in
    let few : AllByRecursion NamesFew (map condition_of c.deref.result.now) =
    subst (λ xs. AllByRecursion NamesFew (map condition_of xs)) (sym c.deref.ensures.value) (parts_few (map condition_of parts.items) (still_few _ _ is c.requires.few)) in
    search (rules, the_lemmas, few)

pub test_of-tests_of-requires-in-Or : goal.test_of-tests_of-requires-in-Or
test_of-tests_of-requires-in-Or t c =
    let parts = c.in-Or.parts in
    let is = ap condition_tables (ap condition_of c.in-Or.is ∙ of_or parts) in
    let few : AllByRecursion NamesFew (map condition_of c.deref-in-Or.result.now) =
    subst (λ xs. AllByRecursion NamesFew (map condition_of xs)) (sym c.deref-in-Or.ensures.value) (parts_few (map condition_of parts.items) (still_few _ _ is c.requires.few)) in
    search (rules, the_lemmas, few)

pub tests_of-test_of-requires : goal.tests_of-test_of-requires
tests_of-test_of-requires t c =
    let few : NamesFew (condition_of c.condition-item.result) = part_few condition_of c.args.conditions.now c.conditions.condition-index c.condition-item.result c.requires.few c.conditions-test.true c.condition-item.is in
    search (rules, the_lemmas, few)

pub test_of-returns-in_ok-tests_of-in-And-clause-tested : goal.test_of-returns-in_ok-tests_of-in-And-clause-tested
test_of-returns-in_ok-tests_of-in-And-clause-tested t c = all_tested c.args.table c.in_ok-tests_of-in-And.field-0 c.in_ok-tests_of-in-And.ensures.tested

pub test_of-returns-in_ok-tests_of-in-Or-clause-tested : goal.test_of-returns-in_ok-tests_of-in-Or-clause-tested
test_of-returns-in_ok-tests_of-in-Or-clause-tested t c = any_tested c.args.table c.in_ok-tests_of-in-Or.field-0 c.in_ok-tests_of-in-Or.ensures.tested

pub tests_of-returns-clause-same : goal.tests_of-returns-clause-same
tests_of-returns-clause-same t c =
    let xs = c.args.conditions.now in
    let i = c.conditions.condition-index in
    all_mapped condition_of_test condition_of c.conditions.tests.items (drop i xs) xs (drop_all i xs c.conditions-test.false) c.conditions.invariant.same
