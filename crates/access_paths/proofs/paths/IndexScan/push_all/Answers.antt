use Rattle.std.proofs.Common.{◌<◌, length, map}
use Rattle.std.specs.List.{AllByRecursion}
use Rattle.definitions.specs.Queries.Conjuncts.{conjuncts}
use Rattle.query_tree.specs.Bound.{block_of}
use Rattle.access_paths.specs.Found.{found_path_of}
use Rattle.access_paths.specs.Listing.{whole_found, matching_found}
use Rattle.access_paths.specs.Matches.{IndexMatch}
use Rattle.access_paths.specs.Views.{index_match_of}
use Rattle.access_paths.proofs.Pushing.{pushed, chain_at}
use Rattle.access_paths.proofs.paths.IndexScan.push_all.Goals as goal

pub chains-init : goal.chains-init
chains-init c = λ i size.
    let e = c.args.estimate.now in
    let s = c.args.self in
    let b = block_of e.block in
    pushed found_path_of c.args.paths.now.items c.push.new.self.items c.whole.result (whole_found e.database b s.table s.number i c.args.backward)
    (map (matching_found e.database b s.table s.number i c.args.backward) (map index_match_of c.args.chains.now)) c.in_ok-push.ensures.items (c.whole.ensures.exact e.database b i size)

pub matching_path-requires : goal.matching_path-requires
matching_path-requires c =
    let b = block_of c.args.estimate.now.block in
    record { there = chain_at (λ (k : IndexMatch). AllByRecursion (λ n. n < length (conjuncts b)) k.conjuncts) c.args.chains.now c.chains.index_match-index c.index_match-item.result c.requires.there c.chains-test.true c.index_match-item.is }
