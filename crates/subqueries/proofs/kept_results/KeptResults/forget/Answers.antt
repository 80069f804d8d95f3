use Rattle.std.proofs.Common.{◌∙◌}
use Rattle.subqueries.proofs.KeptPlaces.{left_out_twice}
use Rattle.subqueries.proofs.kept_results.KeptResults.forget.Goals as goal

pub places-preserved : goal.places-preserved
places-preserved c = record {
  left = left_out_twice c.args.self.now c.places.self c.clear.new.self c.places.invariant.left c.clear.ensures.left;
  count = c.clear.ensures.count ∙ c.places.invariant.count;
}
