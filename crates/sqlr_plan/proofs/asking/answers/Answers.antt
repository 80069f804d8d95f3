use Rattle.definitions.specs.Binding.Formed.{IsFormedSomewhere}
use Rattle.planner.proofs.Explained.{each_formed}
use Rattle.sqlr_plan.proofs.asking.answers.Goals as goal

pub new-requires : goal.new-requires
new-requires c = each_formed (IsFormedSomewhere c.args.database.now) c.args.blocks.now _ _ c.requires c.asked-test.true c.block-item.is
