use Rattle.std.proofs.Common.{◌∙◌, ◌+◌, ap, None, length}
use Rattle.std.specs.Prelude.{option_map}
use Rattle.std.proofs.lemmas.List.{length_push, map_push}
use Rattle.subqueries.specs.Keeping.{kept_in}
use Rattle.subqueries.proofs.KeptPlaces.{still_empty}
use Rattle.subqueries.proofs.kept_results.KeptResults.new.Goals as goal

pub places-preserved : goal.places-preserved
places-preserved c =
    let places = c.places.places.items in
    record {
      empty = rw (c.in_ok-push.ensures.items, map_push (option_map kept_in) places None) (still_empty _ c.places.invariant.empty);
      count = ap length c.in_ok-push.ensures.items ∙ length_push places None ∙ ap (λ n. n + 1) c.places.invariant.count;
    }
