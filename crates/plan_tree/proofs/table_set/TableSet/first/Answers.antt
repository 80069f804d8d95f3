use Rattle.std.proofs.Common.{arith, ◌≤◌, ◌^◌}
use Rattle.std.proofs.Math.Nat.{pow-le-pow_right}
use Rattle.plan_tree.proofs.table_set.TableSet.first.Goals as goal

pub invariant_of-result : goal.invariant_of-result
invariant_of-result c =
    let small : 2 ^ c.args.count ≤ 16384 = pow-le-pow_right (omega arith) c.requires in
    omega arith
