use Rattle.std.proofs.Common.{Some}
use Rattle.std.specs.Prelude.{option_map}
use Rattle.std.proofs.lemmas.List.{map-set}
use Rattle.subqueries.specs.Keeping.{kept_in}
use Rattle.subqueries.specs.declared.kept_results.KeptResult.{KeptResult}
use Rattle.subqueries.proofs.KeptPlaces.{place_set}
use Rattle.subqueries.proofs.kept_results.KeptResults.keep.Goals as goal

pub returns-clause-latest : goal.returns-clause-latest
returns-clause-latest c =
    let places = c.args.self.now.places in
    let own : KeptResult = record { key = c.args.key; existence = c.args.existence; told = c.args.told; total = c.args.total; bytes = c.saturating_add-bytes.result } in
    place_set places.items c.place_for-place.result own c.place_for-place.ensures

pub returns-clause-kept : goal.returns-clause-kept
returns-clause-kept c =
    let places = c.args.self.now.places in
    let own : KeptResult = record { key = c.args.key; existence = c.args.existence; told = c.args.told; total = c.args.total; bytes = c.saturating_add-bytes.result } in
    (c.place_for-place.result, map-set (option_map kept_in) places.items c.place_for-place.result (Some own))
