use Rattle.std.proofs.Common.{◌∙◌, sym, ap, subst, map}
use Rattle.std.specs.Prelude.{filter}
use Rattle.std.specs.List.{AllByRecursion}
use Rattle.query_tree.specs.Bound.{block_of}
use Rattle.access_paths.specs.Found.{found_path_of, directions_with, is_open, CostsAsPath}
use Rattle.access_paths.specs.Listing.{number_found, table_found}
use Rattle.access_paths.proofs.Opening.{path_in, open_as_paths}
use Rattle.access_paths.proofs.Costing.{found_costs}
use Rattle.access_paths.proofs.Pushing.{all_done}
use Rattle.access_paths.proofs.Reading.{IsRead, found_read}
use Rattle.access_paths.proofs.paths.table_paths.Goals as goal

pub returns-clause-paths : goal.returns-clause-paths
returns-clause-paths c = λ version known_indexes known_directions known.
    let a = c.args in
    let e = a.estimate.now in
    let b = block_of e.block in
    let directions = directions_with a.backward in
    let all = all_done (number_found e.database b a.table directions) (map found_path_of c.indexes.paths.items) (table_found e.database b a.table a.indexes.now directions) a.indexes.now c.indexes.number-index c.indexes-test.false c.indexes.invariant in
    ap (λ xs. map path_in (filter (is_open known) xs)) all ∙ open_as_paths known version e.database b a.table a.indexes.now directions known_indexes known_directions c.requires.indexes

pub returns-clause-reads : goal.returns-clause-reads
returns-clause-reads c =
    let a = c.args in
    let e = a.estimate.now in
    let b = block_of e.block in
    let directions = directions_with a.backward in
    let all = all_done (number_found e.database b a.table directions) (map found_path_of c.indexes.paths.items) (table_found e.database b a.table a.indexes.now directions) a.indexes.now c.indexes.number-index c.indexes-test.false c.indexes.invariant in
    subst (AllByRecursion (IsRead e.database b a.table)) (sym all) (found_read e.database b a.table directions a.indexes.now)

pub returns-clause-costs : goal.returns-clause-costs
returns-clause-costs c =
    let a = c.args in
    let e = a.estimate.now in
    let b = block_of e.block in
    let directions = directions_with a.backward in
    let all = all_done (number_found e.database b a.table directions) (map found_path_of c.indexes.paths.items) (table_found e.database b a.table a.indexes.now directions) a.indexes.now c.indexes.number-index c.indexes-test.false c.indexes.invariant in
    subst (AllByRecursion (CostsAsPath e.database b a.table)) (sym all) (found_costs e.database b a.table directions a.indexes.now)
