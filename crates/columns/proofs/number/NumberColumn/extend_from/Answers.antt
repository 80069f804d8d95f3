use Rattle.std.proofs.Common.{◌≡◌, ◌++◌, ◌-◌, [], take, drop, true, rules, arith}
use Rattle.std.specs.Result.{is_ok}
use Rattle.columns.proofs.Extended.{numbers_within, numbers_paired, numbers_ranged, numbers_extended}
use Rattle.columns.proofs.number.NumberColumn.extend_from.Goals as goal
use Rattle.columns.proofs.number.NumberColumn.extend_from.Goals.{In_ok-extend_from_slice}

pub extend_from-requires-clause-within : goal.extend_from-requires-clause-within
extend_from-requires-clause-within c = (numbers_within _ _ _ c.other.inside.units.items [] _ c.other.inside.nulls [] _ _ c.args.from c.args.to c.self.invariant.paired c.other.invariant.paired c.self.view_is c.other.view_is c.requires.alike c.requires.forward c.requires.within).1

pub offset_bounds-deref-from : goal.offset_bounds-deref-from
offset_bounds-deref-from c =
    let rows = (numbers_within _ _ _ c.other.inside.units.items [] _ c.other.inside.nulls [] _ _ c.args.from c.args.to c.self.invariant.paired c.other.invariant.paired c.self.view_is c.other.view_is c.requires.alike c.requires.forward c.requires.within).0 in
    omega (arith, rows, c.other.inside.units.ok.0)

pub slice_bounds-extend_from_slice-end : goal.slice_bounds-extend_from_slice-end
slice_bounds-extend_from_slice-end c =
    let rows = (numbers_within _ _ _ c.other.inside.units.items [] _ c.other.inside.nulls [] _ _ c.args.from c.args.to c.self.invariant.paired c.other.invariant.paired c.self.view_is c.other.view_is c.requires.alike c.requires.forward c.requires.within).0 in
    omega (arith, rows, c.deref.ensures.len, c.other.inside.units.ok.0)

-- the units with those of the other column behind them
units : (c : In_ok-extend_from_slice) → c.extend_from_slice.new.self.items ≡ c.self.inside.units.items ++ take (c.args.to - c.args.from) (drop c.args.from c.other.inside.units.items)
units c =
    let good : is_ok c.extend_from_slice.result ≡ true = search rules in
    rw (good, c.reserve.ensures.items, c.deref.ensures.value) at c.extend_from_slice.ensures.items

pub invariant_of-self-2 : goal.invariant_of-self-2
invariant_of-self-2 c = record {
  paired = numbers_paired _ _ _ _ _ _ _ _ _ _ c.args.from c.args.to c.self.invariant.paired c.other.invariant.paired c.self.view_is c.other.view_is c.requires.alike c.requires.forward c.requires.within (units c) c.in_ok-extend_from.ensures.ok;
  ranged = numbers_ranged _ _ _ _ _ _ _ [] _ _ c.args.from c.args.to c.self.invariant.paired c.other.invariant.paired c.self.view_is c.other.view_is c.requires.alike c.requires.forward c.requires.within c.self.invariant.ranged c.other.invariant.ranged (units c);
  numbers = c.self.invariant.numbers;
  valid = c.self.invariant.valid;
}

pub returns-clause-ok : goal.returns-clause-ok
returns-clause-ok c = numbers_extended _ _ _ _ _ _ _ _ _ _ c.args.from c.args.to c.self.invariant.paired c.other.invariant.paired c.self.view_is c.other.view_is c.requires.alike c.requires.forward c.requires.within (units c) c.in_ok-extend_from.ensures.ok
