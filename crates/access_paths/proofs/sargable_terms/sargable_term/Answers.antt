use Rattle.std.proofs.Common.{◌∙◌, sym, ap, Option}
use Rattle.std.specs.Prelude.{option_map, option_and_then}
use Rattle.query_tree.specs.Bound.{column_of}
use Rattle.predicates.specs.Parts.{condition_in}
use Rattle.predicates.specs.Views.{term_in, terms_in}
use Rattle.predicates.specs.declared.column_term.SidedTerm.{SidedTerm}
use Rattle.access_paths.specs.Bounds.{bound_by}
use Rattle.access_paths.specs.Views.{sargable_term_of}
use Rattle.access_paths.proofs.Saying.{bound_is}
use Rattle.access_paths.proofs.sargable_terms.sargable_term.Goals as goal

pub returns-in_err-of : goal.returns-in_err-of
returns-in_err-of c =
    let is = bound_is (column_of c.args.column) (condition_in c.args.conjunct) (terms_in c.args.conjunct.terms) (option_map term_in c.of.result) c.args.conjunct.said c.of.ensures in
    let none = ap (λ (o : Option SidedTerm). option_and_then (bound_by c.args.column.table) (option_map term_in o)) c.in_err-of.was in
    record { exact = ap (option_map sargable_term_of) c.from_residual.ensures ∙ sym none ∙ is }

pub returns : goal.returns
returns c =
    let is = bound_is (column_of c.args.column) (condition_in c.args.conjunct) (terms_in c.args.conjunct.terms) (option_map term_in c.of.result) c.args.conjunct.said c.of.ensures in
    let here = ap (λ (o : Option SidedTerm). option_and_then (bound_by c.args.column.table) (option_map term_in o)) c.in_ok-of.was in
    record { exact = c.bound_by.ensures.exact ∙ sym here ∙ is }
