use Rattle.std.proofs.Common.{◌∙◌, ap, sym, arith}
use Rattle.definitions.specs.Estimates.Cardinality.{cardinality}
use Rattle.definitions.specs.Plans.TableSet.{only}
use Rattle.query_tree.specs.Bound.{block_of}
use Rattle.plan_space.specs.Planned.{Planned, space_in}
use Rattle.plan_space.specs.Inside.{planned}
use Rattle.plan_space.proofs.Facts.{cardinality_is}
use Rattle.plan_space.proofs.space.Space.table_rows.Goals as goal

pub only-requires : goal.only-requires
only-requires c = omega (arith, c.requires, c.self.invariant.few, ap (λ (p : Planned). (space_in p).table_count) c.self.view_is)

pub returns-clause-exact : goal.returns-clause-exact
returns-clause-exact c =
    let s = c.self.inside in
    rw (← c.self.view_is) (c.cardinality.ensures.exact ∙ ap (cardinality s.estimate.database (block_of s.estimate.block)) c.only.ensures ∙ sym (cardinality_is (planned s) (only c.args.table)))
