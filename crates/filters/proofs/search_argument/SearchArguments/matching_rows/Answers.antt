use Rattle.std.proofs.Common.{◌∙◌, ap₂}
use Rattle.std.specs.Prelude.{bit_and}
use Rattle.std.specs.List.{range_with_len}
use Rattle.columns.proofs.WordFlags.{word_of-and}
use Rattle.filters.specs.SearchArguments.{meets}
use Rattle.filters.proofs.search_argument.SearchArguments.matching_rows.Goals as goal

pub returns-in-Both : goal.returns-in-Both
returns-in-Both c =
    let source = c.args.source.now in
    rw c.in-Both.is (ap₂ bit_and c.matching_rows-in-Both.ensures c.matching_rows-in-Both-2.ensures ∙ word_of-and (meets source c.args.table c.in-Both.low) (meets source c.args.table c.in-Both.high) (range_with_len c.args.first c.args.count))
