use Rattle.std.proofs.Common.{◌∙◌, sym, ap}
use Rattle.std.specs.Prelude.{not, option_map}
use Rattle.query_tree.specs.Bound.{block_of, column_of}
use Rattle.estimate.specs.PlanConjuncts.{condition_of_conjunct}
use Rattle.access_paths.specs.Views.{sargable_term_of, matching_term_of}
use Rattle.access_paths.proofs.Early.{same_count, condition_at, late_matches_none, early_matches, match_of}
use Rattle.access_paths.proofs.matching_terms.match_at.Goals as goal

pub returns-then-planned : goal.returns-then-planned
returns-then-planned c =
    let e = c.args.estimate.now in
    let b = block_of e.block in
    let items = c.conjuncts.result.now in
    let x = c.index-conjuncts-number.result in
    let known = c.conjuncts.ensures in
    let within = same_count b items c.args.number known.conditions c.requires.there in
    let there = condition_at e.database b items c.args.number x known.exact known.conditions within c.index-conjuncts-number.is in
    let early = ap not x.conjunct.judged in
    record { exact = sym (late_matches_none b (column_of c.args.column) c.args.number (condition_of_conjunct x) there (not x.conjunct.late) early (ap not c.if-planned.true)) }

pub returns-in_err-bound : goal.returns-in_err-bound
returns-in_err-bound c =
    let e = c.args.estimate.now in
    let b = block_of e.block in
    let items = c.conjuncts.result.now in
    let x = c.index-conjuncts-number.result in
    let known = c.conjuncts.ensures in
    let within = same_count b items c.args.number known.conditions c.requires.there in
    let there = condition_at e.database b items c.args.number x known.exact known.conditions within c.index-conjuncts-number.is in
    let early = ap not x.conjunct.judged in
    let is = early_matches b (column_of c.args.column) c.args.number (condition_of_conjunct x) there (not x.conjunct.late) early (ap not c.if-planned.false) in
    let none = sym c.sargable_term.ensures.exact ∙ ap (option_map sargable_term_of) c.in_err-bound.was in
    record { exact = ap (option_map matching_term_of) c.from_residual.ensures ∙ sym (is ∙ ap (match_of b (column_of c.args.column) c.args.number (condition_of_conjunct x) there) none) }

pub returns : goal.returns
returns c =
    let e = c.args.estimate.now in
    let b = block_of e.block in
    let items = c.conjuncts.result.now in
    let x = c.index-conjuncts-number.result in
    let known = c.conjuncts.ensures in
    let within = same_count b items c.args.number known.conditions c.requires.there in
    let there = condition_at e.database b items c.args.number x known.exact known.conditions within c.index-conjuncts-number.is in
    let early = ap not x.conjunct.judged in
    let is = early_matches b (column_of c.args.column) c.args.number (condition_of_conjunct x) there (not x.conjunct.late) early (ap not c.if-planned.false) in
    let found = sym c.sargable_term.ensures.exact ∙ ap (option_map sargable_term_of) c.in_ok-bound.was in
    record { exact = sym (is ∙ ap (match_of b (column_of c.args.column) c.args.number (condition_of_conjunct x) there) found) }
