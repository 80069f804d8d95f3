use Rattle.std.proofs.Common.{◌≡◌, ◌∙◌, sym, ap, [], map}
use Rattle.std.specs.Global.{Vec}
use Rattle.std.specs.Prelude.{option_map, unwrap_or}
use Rattle.std.proofs.lemmas.Result.{IfOk-weaker}
use Rattle.query_tree.specs.Bound.{block_of}
use Rattle.definitions.specs.Estimates.Orders.{known_indexes, indexes_at}
use Rattle.plan_tree.specs.Versions.{version_of}
use Rattle.access_paths.specs.Found.{found_path_of}
use Rattle.plan_space.specs.PathListed.{AreListed, listed_path_of, with_number}
use Rattle.plan_space.specs.declared.path_lists.NumberedPath.{NumberedPath}
use Rattle.plan_space.proofs.Listing.{listed}
use Rattle.plan_space.proofs.path_lists.listed_paths.Goals as goal

pub returns : goal.returns
returns c =
    let a = c.args in
    let db = a.estimate.now.database in
    let block = block_of a.estimate.now.block in
    let version = version_of a.version in
    let found = map found_path_of c.in_ok-found.found.items in
    let known : c.deref.result.now ≡ indexes_at version db block a.table =
    c.deref.ensures.value ∙ c.in_ok-known.ensures.exact ∙ ap (λ t. unwrap_or (option_map (known_indexes version) t) []) (sym c.table.ensures) in
    let paths = c.in_ok-found.ensures.paths version known (sym c.reads_backward.ensures) in
    IfOk-weaker c.with_orders.result (λ (ps : Vec NumberedPath). map listed_path_of ps.items ≡ map (with_number db block a.orders.now) found)
    (λ (ps : Vec NumberedPath). AreListed version db block a.table (map listed_path_of ps.items))
    (λ ps is. listed version db block a.table a.orders.now found (map listed_path_of ps.items) is c.requires.orders paths c.in_ok-found.ensures.costs c.in_ok-found.ensures.reads) c.with_orders.ensures
