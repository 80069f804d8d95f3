use Rattle.std.proofs.Common.{◌≡◌, ◌++◌, drop}
use Rattle.query_tree.specs.Walks.{trees_of}
use Rattle.query_tree.proofs.Walked.{members_values}
use Rattle.query_tree.proofs.walks.push_members.Given as goal

abbrev pub invariant-members : goal.invariant-members
invariant-members l = trees_of l.values.items ++ members_values (drop l.member-index l.members) ≡ trees_of l.fn.values.items ++ members_values l.members
