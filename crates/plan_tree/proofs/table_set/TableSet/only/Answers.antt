use Rattle.std.proofs.Common.{arith, ◌<◌, ◌^◌}
use Rattle.std.proofs.lemmas.Nat.{pow_below}
use Rattle.plan_tree.proofs.table_set.TableSet.only.Goals as goal

pub invariant_of-result : goal.invariant_of-result
invariant_of-result c = let small : 2 ^ c.args.table < 16384 = pow_below c.args.table 14 c.requires in omega arith
