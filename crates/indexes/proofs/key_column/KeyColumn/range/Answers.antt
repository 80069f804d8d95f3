use Rattle.std.proofs.Common.{rules, arith}
use Rattle.columns.specs.Columns.{cells_of}
use Rattle.columns.specs.Starts.{AreApart, limit_of}
use Rattle.indexes.proofs.Ranges.{rising_starts, nothing_high, range_closed, not_unlimited}
use Rattle.indexes.proofs.key_column.KeyColumn.range.Goals as goal

pub first_from-from-requires-clause-ordered : goal.first_from-from-requires-clause-ordered
first_from-from-requires-clause-ordered c =
    rising_starts c.args.self.now _ c.self.view_is c.self.invariant.held _ c.in-Some.start c.in-Some.ensures.some c.in-Some.ensures.meets c.args.within.from c.args.within.to c.requires.ordered

pub returns-in_default-start-clause-exact : goal.returns-in_default-start-clause-exact
returns-in_default-start-clause-exact c =
    let a : AreApart (cells_of c.self.inside.values).type (limit_of c.opposite_limit.result) = c.in_default-start.ensures.none (search rules) in
    λ place h l. nothing_high c.args.self.now _ c.self.view_is c.self.invariant.held (limit_of c.args.low) (limit_of c.args.high) (limit_of c.opposite_limit.result) c.opposite_limit.ensures a place c.args.within.from

pub first_near-requires : goal.first_near-requires
first_near-requires c = record {
  forward = c.first_from-from.ensures.to;
  inside = c.requires.inside;
  ordered = λ i j h l k e. rising_starts c.args.self.now _ c.self.view_is c.self.invariant.held _ c.in-Some-start.end c.in-Some-start.ensures.some c.in-Some-start.ensures.meets c.args.within.from c.args.within.to c.requires.ordered i j (omega (arith, h, c.first_from-from.ensures.from)) l k e;
}

pub returns-in_default-high : goal.returns-in_default-high
returns-in_default-high c = record {
  inside = record { from = c.first_from-from.ensures.from; forward = c.first_near.ensures.from; to = c.first_near.ensures.to };
  exact = range_closed c.args.self.now _ c.self.view_is c.self.invariant.held (limit_of c.args.low) (limit_of c.args.high) (limit_of c.opposite_limit.result) c.in-Some.start c.in-Some-start.end c.opposite_limit.ensures c.in-Some.ensures.some c.in-Some-start.ensures.some c.in-Some-start.ensures.meets
      c.args.within.from c.args.within.to c.first_from-from.result c.first_near.result c.first_from-from.ensures c.first_near.ensures (not_unlimited c.args.high c.in_default-high.not-Unbounded);
}
