use Rattle.std.proofs.Common.{◌∙◌, sym, ap}
use Rattle.std.specs.Prelude.{option_map}
use Rattle.query_tree.specs.Bound.{value_of}
use Rattle.sqlvalue.specs.Meaning.{number_of}
use Rattle.predicates.specs.Columns.{term_of}
use Rattle.predicates.specs.Views.{sided_term_of}
use Rattle.estimate.proofs.Saying.{told_between}
use Rattle.estimate.proofs.selectivity_shares.ranged_share.Goals as goal

pub returns-in-Some-Some-clause-exact : goal.returns-in-Some-Some-clause-exact
returns-in-Some-Some-clause-exact c = λ db block are value low high is.
    let r = c.in-Range in
    let low' = c.in-Some-Some.low in
    let high' = c.in-Some-Some.high in
    let known = sym (ap (option_map number_of) c.in-Some-Some.is-0) ∙ c.known_number.ensures.number in
    let known' = sym (ap (option_map number_of) c.in-Some-Some.is-1) ∙ c.known_number-2.ensures.number in
    c.share_between.ensures.exact db block are ∙ told_between db block value low high (sided_term_of c.args.sided) (value_of r.low.now) (value_of r.high.now) low'.units high'.units low'.scale high'.scale is (ap term_of r.is) known known'
