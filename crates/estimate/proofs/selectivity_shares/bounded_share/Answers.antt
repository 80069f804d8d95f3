use Rattle.std.proofs.Common.{◌∙◌, sym, ap}
use Rattle.std.specs.Prelude.{option_map}
use Rattle.query_tree.specs.Bound.{value_of}
use Rattle.sqlvalue.specs.Meaning.{number_of}
use Rattle.predicates.specs.Columns.{term_of}
use Rattle.predicates.specs.Views.{sided_term_of}
use Rattle.estimate.proofs.Saying.{told_above, told_below}
use Rattle.estimate.proofs.selectivity_shares.bounded_share.Goals as goal

pub returns-in-GreaterThan-clause-exact : goal.returns-in-GreaterThan-clause-exact
returns-in-GreaterThan-clause-exact c = λ db block are op own other ineq is.
    let e = c.in-Comparison in
    let n = c.in-Some.number in
    let known = sym (ap (option_map number_of) c.in-Some.is) ∙ c.known_number.ensures.number in
    c.share_above.ensures.exact db block are ∙ told_above db block op own other (sided_term_of c.args.sided) e.op (value_of e.value.now) n.units n.scale is (ap term_of e.is) known c.in-GreaterThan.is

pub returns-in_default-op : goal.returns-in_default-op
returns-in_default-op c =
    record {
      exact =
          λ db block are op own other ineq is.
          let e = c.in-Comparison in
          let n = c.in-Some.number in
          let known = sym (ap (option_map number_of) c.in-Some.is) ∙ c.known_number.ensures.number in
          c.share_below.ensures.exact db block are ∙ told_below db block op own other (sided_term_of c.args.sided) e.op (value_of e.value.now) n.units n.scale ineq is (ap term_of e.is) known c.in_default-op.not-GreaterThan c.in_default-op.not-GreaterOrEquals;
      below = c.share_below.ensures.below;
    }
