use Rattle.std.proofs.Common.{◌∙◌, ap, [], ◌∷◌}
use Rattle.definitions.specs.Queries.Conjuncts.{condition_tables}
use Rattle.query_tree.specs.Bound.{condition_of, value_of}
use Rattle.query_tree.proofs.Views.{of_between, of_compare}
use Rattle.predicates.proofs.Naming.{still_few}
use Rattle.predicates.proofs.Saying.{each_few}
use Rattle.predicates.proofs.terms.column_terms.Goals as goal

pub compared-requires : goal.compared-requires
compared-requires c =
    let e = c.in-Compare in
    let is = ap condition_tables (ap condition_of e.is ∙ of_compare e.op e.left e.right) in
    let few = each_few (value_of e.left ∷ value_of e.right ∷ []) (still_few _ _ is c.requires.few) in
    record { few = few.1.0 }

pub compared-requires-in-Compare : goal.compared-requires-in-Compare
compared-requires-in-Compare c =
    let e = c.in-Compare in
    let is = ap condition_tables (ap condition_of e.is ∙ of_compare e.op e.left e.right) in
    let few = each_few (value_of e.left ∷ value_of e.right ∷ []) (still_few _ _ is c.requires.few) in
    record { few = few.0 }

pub range_term-requires-clause-low : goal.range_term-requires-clause-low
range_term-requires-clause-low c =
    let e = c.in-Between-false-default-default-default in
    let is = ap condition_tables (ap condition_of e.is ∙ of_between e.negated e.value e.low e.high) in
    (each_few (value_of e.value ∷ value_of e.low ∷ value_of e.high ∷ []) (still_few _ _ is c.requires.few)).1.0

pub range_term-requires-clause-high : goal.range_term-requires-clause-high
range_term-requires-clause-high c =
    let e = c.in-Between-false-default-default-default in
    let is = ap condition_tables (ap condition_of e.is ∙ of_between e.negated e.value e.low e.high) in
    (each_few (value_of e.value ∷ value_of e.low ∷ value_of e.high ∷ []) (still_few _ _ is c.requires.few)).1.1.0
