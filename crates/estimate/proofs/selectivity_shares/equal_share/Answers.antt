use Rattle.std.proofs.Common.{◌∙◌, sym, ap, ap₂, Option}
use Rattle.std.specs.Prelude.{◌++◌, option_map}
use Rattle.definitions.specs.Estimates.Selectivity.{greater_of, one_key}
use Rattle.predicates.specs.Terms.{listed}
use Rattle.predicates.specs.Views.{sided_term_of}
use Rattle.predicates.specs.declared.column_term.SidedTerm.{SidedTerm}
use Rattle.estimate.proofs.Saying.{equal_by, equal_is}
use Rattle.estimate.proofs.selectivity_shares.equal_share.Goals as goal

pub returns-in-Some-Some-clause-exact : goal.returns-in-Some-Some-clause-exact
returns-in-Some-Some-clause-exact c = λ db block are op a b is.
    let sides = c.in-Some-Some in
    let keys = ap₂ greater_of (c.keys_of.ensures.exact db block are) (c.keys_of-in-Some-Some.ensures.exact db block are) in
    let by = ap₂ (λ (x y : Option SidedTerm). equal_by db block (listed (option_map sided_term_of x) ++ listed (option_map sided_term_of y))) sides.is-0 sides.is-1 in
    c.one_key.ensures.exact ∙ ap one_key (c.greater_of.ensures.exact ∙ keys) ∙ sym by ∙ ap (equal_by db block) is ∙ equal_is db block op a b

pub returns-in-Some-None-clause-exact : goal.returns-in-Some-None-clause-exact
returns-in-Some-None-clause-exact c = λ db block are op a b is.
    let sides = c.in-Some-None in
    let key = c.one_key-in-Some-None.ensures.exact ∙ ap one_key (c.keys_of-in-Some-None.ensures.exact db block are) in
    let by = ap₂ (λ (x y : Option SidedTerm). equal_by db block (listed (option_map sided_term_of x) ++ listed (option_map sided_term_of y))) sides.is-0 sides.is-1 in
    key ∙ sym by ∙ ap (equal_by db block) is ∙ equal_is db block op a b

pub returns-in-None-Some-clause-exact : goal.returns-in-None-Some-clause-exact
returns-in-None-Some-clause-exact c = λ db block are op a b is.
    let sides = c.in-None-Some in
    let key = c.one_key-in-None-Some.ensures.exact ∙ ap one_key (c.keys_of-in-None-Some.ensures.exact db block are) in
    let by = ap₂ (λ (x y : Option SidedTerm). equal_by db block (listed (option_map sided_term_of x) ++ listed (option_map sided_term_of y))) sides.is-0 sides.is-1 in
    key ∙ sym by ∙ ap (equal_by db block) is ∙ equal_is db block op a b
