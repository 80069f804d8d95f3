-- What tests of sets say.
use Rattle.std.proofs.Common.{◌≡◌, ℕ, Bool}
use Rattle.std.specs.Bool.{Decides}
use Rattle.std.specs.Prelude.{bit_or}
use Rattle.std.proofs.lemmas.Bool.Decides.{Decides-at, Decides-eqb, Decides-like}
use Rattle.definitions.specs.Plans.TableSet.{TableSet, Has, with_table}
use Rattle.definitions.specs.Estimates.BlockTables.{is_within}
use Rattle.plan_tree.proofs.Tests.{all_there, nothing_more}
use Rattle.plan_space.specs.Linked.{Connect}

-- of tables that have the table and one of the set the last test is left
pub connect_if_within : (tables set : TableSet) (table : ℕ) (within : Bool) → Has tables table → (other : ℕ) × Has tables other × Has set other
    → within ≡ is_within tables (with_table set table) → Decides within (Connect tables set table)
connect_if_within tables set table within has meets e =
    Decides-like within
    (λ same. (has, (meets.0, meets.2, meets.1), all_there tables (with_table set table) same))
    (λ connect. nothing_more tables (with_table set table) connect.2)
    (Decides-at within (is_within tables (with_table set table)) e (Decides-eqb (bit_or tables (with_table set table)) (with_table set table)))
