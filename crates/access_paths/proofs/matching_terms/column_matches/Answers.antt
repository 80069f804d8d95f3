use Rattle.std.proofs.Common.{map}
use Rattle.query_tree.specs.Bound.{block_of, column_of}
use Rattle.access_paths.specs.Matches.{column_matches}
use Rattle.access_paths.specs.Views.{matching_term_of}
use Rattle.access_paths.proofs.Early.{next_pushed, all_pushed}
use Rattle.access_paths.proofs.matching_terms.column_matches.Goals as goal

pub numbers-preserved : goal.numbers-preserved
numbers-preserved c =
    let b = block_of c.args.estimate.now.block in
    let column = column_of c.args.column in
    next_pushed b column c.numbers.number _ (map matching_term_of c.numbers.matches.items) (map matching_term_of c.push_match.new.matches.items) (column_matches b column) c.numbers-test.true c.in_ok-push_match.ensures.exact c.numbers.invariant

pub returns : goal.returns
returns c =
    let b = block_of c.args.estimate.now.block in
    let column = column_of c.args.column in
    record { exact = all_pushed b column c.numbers.number _ (map matching_term_of c.numbers.matches.items) (column_matches b column) c.numbers-test.false c.numbers.invariant }
