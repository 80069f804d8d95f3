use Rattle.std.proofs.Common.{◌≡◌, arith, ap, sym, ◌∙◌, false}
use Rattle.std.specs.Prelude.{not, nat_lt}
use Rattle.std.proofs.lemmas.Bool.Decides.{nat_tests}
use Rattle.columns.proofs.NullFlags.{rows_counted}
use Rattle.columns.proofs.Lookups.{there_or_null, flag_there}
use Rattle.columns.proofs.null_bits.NullBits.is_filled.Goals as goal

pub is_null-requires : goal.is_null-requires
is_null-requires c = let n = rows_counted c.self.inside.words.items _ _ c.self.view_is in omega (arith, n)

pub returns-then-row-self-clause-value : goal.returns-then-row-self-clause-value
returns-then-row-self-clause-value c = ap not (flag_there _ c.args.row _ _ (rows_counted c.self.inside.words.items _ _ c.self.view_is) (omega arith) c.is_null.ensures)

pub returns-then-row-self-clause-within : goal.returns-then-row-self-clause-within
returns-then-row-self-clause-within c = λ h. let n = rows_counted c.self.inside.words.items _ _ c.self.view_is in omega (arith, n)

pub returns-else-row-self-clause-value : goal.returns-else-row-self-clause-value
returns-else-row-self-clause-value c =
    let n = rows_counted c.self.inside.words.items _ _ c.self.view_is in
    let e : nat_lt c.args.row c.self.inside.len ≡ false = grind (arith, nat_tests) in
    e ∙ sym (ap not (there_or_null _ c.args.row _ n (omega arith)))
