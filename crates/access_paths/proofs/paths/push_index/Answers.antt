use Rattle.std.proofs.Common.{◌≡◌, ◌∙◌, ◌++◌, refl, sym, ap, subst, true, false, map}
use Rattle.std.specs.Prelude.{option_and_then, slice_get}
use Rattle.std.specs.List.{AllByRecursion}
use Rattle.definitions.specs.Table.{Table}
use Rattle.query_tree.specs.Bound.{block_of}
use Rattle.access_paths.specs.Found.{found_path_of}
use Rattle.access_paths.specs.Listing.{scans_found}
use Rattle.access_paths.specs.Matches.{index_matches}
use Rattle.access_paths.specs.Views.{index_match_of}
use Rattle.access_paths.proofs.Chaining.{IsChainOfBlock, chains_of_block}
use Rattle.access_paths.proofs.Pushing.{one_direction, two_directions}
use Rattle.access_paths.proofs.paths.push_index.Goals as goal
use Rattle.access_paths.proofs.paths.push_index.Goals.{then-backward+in_ok-push_all-2, else-backward}

pub push_all-requires : goal.push_all-requires
push_all-requires c =
    let b = block_of c.args.estimate.now.block in
    let chains = ap (map index_match_of) c.deref.ensures.value ∙ c.in_ok-chains.ensures.exact in
    record { there = subst (AllByRecursion (IsChainOfBlock b c.args.table)) (sym chains) (chains_of_block b c.args.table c.columns.result.now) }

pub push_all-requires-then-backward : goal.push_all-requires-then-backward
push_all-requires-then-backward c =
    let b = block_of c.args.estimate.now.block in
    let chains = ap (map index_match_of) c.deref-then-backward.ensures.value ∙ c.in_ok-chains.ensures.exact in
    record { there = subst (AllByRecursion (IsChainOfBlock b c.args.table)) (sym chains) (chains_of_block b c.args.table c.columns.result.now) }

pub returns : goal.returns
returns c =
    let a = c.args in
    let e = a.estimate.now in
    let b = block_of e.block in
    let i = c.index-index.result.now.index in
    let size = c.of.ensures e.database b a.table c.table-found.ensures in
    let there = ap (option_and_then (λ (t : Table). slice_get t.indexes a.number)) c.table-found.ensures ∙ c.index-index.ensures.exact in
    let chains = index_matches b a.table i.columns in
    let found = c.in_ok-chains.ensures.exact ∙ ap (index_matches b a.table) c.columns.ensures in
    let old = map found_path_of a.paths.now.items in
    let first = map found_path_of c.push_all.new.paths.items in
    let forward : first ≡ old ++ scans_found e.database b a.table a.number i chains false =
    c.in_ok-push_all.ensures.exact i size ∙ ap (λ cs. old ++ scans_found e.database b a.table a.number i cs false) (ap (map index_match_of) c.deref.ensures.value ∙ found) in
    elim c.if-backward.branch [
      | then-backward+in_ok-push_all-2 w ↦
          let both : map found_path_of w.push_all-then-backward.new.paths.items ≡ first ++ scans_found e.database b a.table a.number i chains true =
          w.in_ok-push_all-2.ensures.exact i size ∙ ap (λ cs. first ++ scans_found e.database b a.table a.number i cs true) (ap (map index_match_of) w.deref-then-backward.ensures.value ∙ found) in
          record { exact = rw (w.paths-is, w.if-backward.true) (two_directions e.database b a.table a.number i chains there refl old first _ forward both) }
      | else-backward w ↦ record { exact = rw (w.paths-is, w.if-backward.false) (one_direction e.database b a.table a.number i chains there refl old first forward) }
    ]
