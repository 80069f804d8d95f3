use Rattle.std.proofs.Common.{◌∙◌, sym, ap}
use Rattle.std.specs.Prelude.{option_map}
use Rattle.predicates.specs.Terms.{first_of}
use Rattle.predicates.specs.Views.{sided_term_of}
use Rattle.estimate.proofs.Saying.{by_first}
use Rattle.estimate.proofs.selectivity_shares.inequality_share.Goals as goal

pub returns-in-Some-clause-exact : goal.returns-in-Some-clause-exact
returns-in-Some-clause-exact c = λ db block are op a b ineq is.
    let first = sym (ap (option_map sided_term_of) c.in-Some.is) ∙ c.first.ensures ∙ ap first_of is in
    by_first db block op a b (sided_term_of c.in-Some.sided) c.bounded_share.result ineq first (c.bounded_share.ensures.exact db block are)
