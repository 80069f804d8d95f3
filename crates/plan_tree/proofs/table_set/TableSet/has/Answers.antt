use Rattle.std.proofs.Common.{arith, ◌≡◌}
use Rattle.std.specs.Int.{bit_at}
use Rattle.std.proofs.lemmas.Bool.Decides.{nat_tests}
use Rattle.std.proofs.lemmas.Nat.Bits.{bit_at_above}
use Rattle.plan_tree.proofs.table_set.TableSet.has.Goals as goal

pub returns-else-table-lt-MAX_FROM_TABLES : goal.returns-else-table-lt-MAX_FROM_TABLES
returns-else-table-lt-MAX_FROM_TABLES c =
    let none : bit_at c.args.self.bits c.args.table ≡ 0 = bit_at_above c.args.self.bits 14 c.args.table c.args.self.few (omega arith) in
    grind (arith, nat_tests, none)
