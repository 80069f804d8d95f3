use Rattle.std.proofs.Common.{◌∙◌, map, ap}
use Rattle.query_tree.specs.Bound.{block_of}
use Rattle.access_paths.specs.Matches.{index_matches, with_column}
use Rattle.access_paths.specs.Views.{index_match_of, matching_term_of}
use Rattle.access_paths.proofs.Rooms.{onto, all_onto, next_onto, next_done, none_done, same_room, room_left}
use Rattle.access_paths.proofs.index_matches.index_matches.Goals as goal

pub columns-init : goal.columns-init
columns-init c =
    let b = block_of c.args.estimate.now.block in
    let columns = c.args.columns.now in
    let none = ap (map index_match_of) c.new-chains.ensures.items in
    record { exact = ap (onto b c.args.table columns) none ∙ all_onto b c.args.table columns; within = none_done columns (map index_match_of c.new-chains.result.items) none }

pub with_column-requires : goal.with_column-requires
with_column-requires c =
    let there = c.in-Some in
    let before = map index_match_of c.columns.chains.items in
    let left = room_left c.args.columns.now c.columns.rest.now there.before.now there.number.now before there.ensures.cases.0 c.requires.short c.columns.invariant.within in
    record { room = same_room before (map index_match_of c.deref-in-Some.result.now) (ap (map index_match_of) c.deref-in-Some.ensures.value) left }

pub columns-preserved : goal.columns-preserved
columns-preserved c =
    let b = block_of c.args.estimate.now.block in
    let columns = c.args.columns.now in
    let there = c.in-Some in
    let old = map index_match_of c.columns.chains.items in
    let new = map index_match_of c.in_ok-chains.chains.items in
    let matches = map matching_term_of c.deref.result.now in
    let found = ap (map matching_term_of) c.deref.ensures.value ∙ c.in_ok-matches.ensures.exact in
    let made = c.in_ok-chains.ensures.exact ∙ ap (λ cs. with_column (map index_match_of cs) matches) c.deref-in-Some.ensures.value in
    record {
      exact = next_onto b c.args.table there.before.now c.columns.rest.now there.number.now matches old new (index_matches b c.args.table columns) there.ensures.cases.0 found made c.columns.invariant.exact;
      within = next_done columns there.before.now c.columns.rest.now there.number.now matches old new there.ensures.cases.0 made c.columns.invariant.within;
    }
