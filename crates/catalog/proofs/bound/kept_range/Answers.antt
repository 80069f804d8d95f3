use Rattle.std.proofs.Common.{rules}
use Rattle.std.specs.Prelude.{◌≤ℤ◌, ◌<ℤ◌}
use Rattle.sqlvalue.specs.Meaning.{type_of}
use Rattle.parse_tree.specs.Trees.{range_of}
use Rattle.catalog.proofs.Bounds.{falls, rises}
use Rattle.catalog.proofs.bound.kept_range.Goals as goal

pub returns-then-low-high : goal.returns-then-low-high
returns-then-low-high c =
    let above : c.in-Some-kept_units.high <ℤ c.in-Some.low = search rules in
    record {
      kept = tt;
      rising = tt;
      refused = falls (type_of c.args.sql_type) (range_of c.args.range) c.in-Some.low c.in-Some-kept_units.high (c.in-Some.ensures).some (c.in-Some-kept_units.ensures).some above;
    }

pub returns : goal.returns
returns c =
    let below : c.in-Some.low ≤ℤ c.in-Some-kept_units.high = search rules in
    record {
      kept = (c.in-Some.low, c.in-Some-kept_units.high, (c.in-Some.ensures).some, (c.in-Some-kept_units.ensures).some, search rules);
      rising = rises (type_of c.args.sql_type) (range_of c.args.range) c.in-Some.low c.in-Some-kept_units.high (c.in-Some.ensures).some (c.in-Some-kept_units.ensures).some below;
      refused = tt;
    }
