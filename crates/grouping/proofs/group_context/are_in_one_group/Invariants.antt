use Rattle.std.proofs.Common.{◌≡◌, map, drop}
use Rattle.definitions_answers.specs.Groups.{in_one_group}
use Rattle.query_tree.specs.Bound.{column_of}
use Rattle.grouping.proofs.group_context.are_in_one_group.Given as goal

-- the columns so far tell the rows not apart
abbrev pub invariant-columns : goal.invariant-columns
invariant-columns g l =
    in_one_group (map column_of (drop l.column-index l.columns)) (g.S.Environment.environment l.a).combination (g.S.Environment.environment l.b).combination
    ≡ in_one_group (map column_of l.columns) (g.S.Environment.environment l.a).combination (g.S.Environment.environment l.b).combination
