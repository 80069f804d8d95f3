use Rattle.std.proofs.Common.{◌≡◌, sym, rules, to_z-of_z, FitsSigned, refl}
use Rattle.std.specs.Int.{w64}
use Rattle.definitions.specs.Value.{Numbers, kind_of}
use Rattle.columns.proofs.Lookups.{present_number, absent_number}
use Rattle.columns.proofs.number.NumberColumn.units_in.Goals as goal

pub returns-then-is_filled-clause-value : goal.returns-then-is_filled-clause-value
returns-then-is_filled-clause-value c =
    let u : FitsSigned w64 c.index.result.now = search rules in
    simp to_z-of_z (sym (present_number _ _ _ _ c.args.row _ c.self.invariant.paired c.self.view_is c.is_filled.ensures.value c.index.result.now (search rules) (search rules) c.index.ensures))

pub returns-then-is_filled-clause-held : goal.returns-then-is_filled-clause-held
returns-then-is_filled-clause-held c =
    let u : FitsSigned w64 c.index.result.now = search rules in
    let a = present_number _ _ _ _ c.args.row _ c.self.invariant.paired c.self.view_is c.is_filled.ensures.value c.index.result.now (search rules) (search rules) c.index.ensures in
    let k : kind_of c.args.self.now.type ≡ Numbers = search rules in
    rw a (k, refl, u)

pub returns-else-is_filled-clause-value : goal.returns-else-is_filled-clause-value
returns-else-is_filled-clause-value c = sym (absent_number _ _ _ _ c.args.row _ c.self.invariant.paired c.self.view_is c.is_filled.ensures.value (search rules))

pub returns-else-is_filled-clause-held : goal.returns-else-is_filled-clause-held
returns-else-is_filled-clause-held c = rw (absent_number _ _ _ _ c.args.row _ c.self.invariant.paired c.self.view_is c.is_filled.ensures.value (search rules)) tt
