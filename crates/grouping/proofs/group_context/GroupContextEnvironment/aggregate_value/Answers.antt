use Rattle.std.proofs.Common.{map}
use Rattle.sqlvalue.specs.Owned.{owned_value}
use Rattle.result_lines.proofs.Answering.{told_at}
use Rattle.grouping.proofs.group_context.GroupContextEnvironment.aggregate_value.Goals as goal

pub returns : goal.returns
returns g c = told_at (map owned_value c.args.self.now.values.now) c.args.number _ c.value_at.ensures
