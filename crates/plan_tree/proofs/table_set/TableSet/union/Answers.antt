use Rattle.std.proofs.lemmas.Nat.{or_lt}
use Rattle.plan_tree.proofs.table_set.TableSet.union.Goals as goal

pub invariant_of-result : goal.invariant_of-result
invariant_of-result c = record { few = or_lt 14 c.args.self.bits c.args.other.bits c.args.self.few c.args.other.few }
